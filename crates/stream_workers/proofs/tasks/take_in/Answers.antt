use Rattle.std.proofs.Common.{◌∙◌, ap, sym}
use Rattle.desk_lock.specs.Seats.{number_of}
use Rattle.stream_turns.proofs.Lists.{some_same}
use Rattle.stream_workers.proofs.tasks.take_in.Goals as goal

pub returns-clause-joined : goal.returns-clause-joined
returns-clause-joined g c =
    let same = some_same c.requires.back.seat c.unwrap.result c.args.task.seat c.requires.back.has c.unwrap.ensures in
    record {
      seat = c.unwrap.result;
      has = c.unwrap.ensures;
      is = c.join.ensures.kept c.args.task.number (ap number_of (sym same) ∙ c.requires.back.number);
    }

pub returns-clause-counts : goal.returns-clause-counts
returns-clause-counts g c = c.give_lines_back.ensures.counts c.args.task.number c.requires.back.lined

pub returns-clause-carried : goal.returns-clause-carried
returns-clause-carried g c = c.give_lines_back.ensures.carried c.args.task.number c.requires.back.lined
