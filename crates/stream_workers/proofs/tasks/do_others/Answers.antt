use Rattle.std.proofs.Common.{subst, sym}
use Rattle.stream_workers.specs.Tasks.{IsTask}
use Rattle.stream_workers.proofs.tasks.do_others.Goals as goal

pub for_each_mut-requires-clause-accepts : goal.for_each_mut-requires-clause-accepts
for_each_mut-requires-clause-accepts g c κs within =
    λ i p low is. subst (IsTask g.L.Line.ends g.L.Line.count g.L.Line.carried c.args.desk.now) (sym is)
    (c.requires i p.now low)
