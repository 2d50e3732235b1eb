use Rattle.stream_workers.specs.Tasks.{IsTask}
use Rattle.stream_workers.proofs.Beside.{is_one, are_behind, all_done}
use Rattle.stream_workers.proofs.tasks.do_all.Goals as goal

pub do_beside-requires-clause-one : goal.do_beside-requires-clause-one
do_beside-requires-clause-one g c κs within =
    is_one (IsTask g.L.Line.ends g.L.Line.count g.L.Line.carried c.args.desk.now) c.args.tasks.now
    c.split_at_mut-before.result.0.now c.split_at_mut-before.result.1.now c.in-Some.behind.now c.in-Some.one.now
    c.split_at_mut-before.ensures.value c.in-Some.ensures.cases.0 c.requires

pub do_beside-requires-clause-behind : goal.do_beside-requires-clause-behind
do_beside-requires-clause-behind g c κs within =
    are_behind (IsTask g.L.Line.ends g.L.Line.count g.L.Line.carried c.args.desk.now) c.args.tasks.now
    c.split_at_mut-before.result.0.now c.split_at_mut-before.result.1.now c.in-Some.behind.now c.in-Some.one.now
    c.split_at_mut-before.ensures.value c.in-Some.ensures.cases.0 c.requires

pub returns-in-Some-clause-done : goal.returns-in-Some-clause-done
returns-in-Some-clause-done g c =
    all_done g.L.Line.ends g.L.Line.count g.L.Line.carried c.args.desk.now c.args.tasks.now
    c.split_at_mut-before.result.0.now c.split_at_mut-before.result.1.now c.in-Some.behind.now c.do_beside.new.before
    c.do_beside.new.behind c.in-Some.one.now c.do_beside.new.one c.split_at_mut-before.ensures.value c.in-Some.ensures.cases.0
    c.do_beside.ensures.before c.do_beside.ensures.one c.do_beside.ensures.behind
