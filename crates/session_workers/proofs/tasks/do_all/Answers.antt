use Rattle.std.proofs.Common.{subst, sym}
use Rattle.session_workers.specs.Tasks.{IsTask}
use Rattle.session_workers.proofs.tasks.do_all.Goals as goal

pub for_each_mut-requires-clause-accepts : goal.for_each_mut-requires-clause-accepts
for_each_mut-requires-clause-accepts g c κs within =
    λ i p low is. (subst (IsTask c.args.replicas c.args.desk.now) (sym is) (c.requires.tasks i p.now low), c.requires.few)
