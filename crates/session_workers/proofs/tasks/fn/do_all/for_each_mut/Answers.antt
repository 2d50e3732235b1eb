use Rattle.session_workers.proofs.tasks.fn.do_all.for_each_mut.Goals as goal

pub work-requires : goal.work-requires
work-requires g c = record { task = c.requires.0; few = c.requires.1 }
