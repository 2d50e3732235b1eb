use Rattle.world_holder.proofs.Taken.{found_as, owes_as}
use Rattle.world_steps.proofs.MaintTurns.{found_purging, fold_flag, fold_owes, fold_same, fold_folded, fold_why}
use Rattle.world_steps.proofs.GaveUp.{home_kept}
use Rattle.world_steps.proofs.commands.StepsCommandSteps.fold_page.Goals as goal

pub put-requires-clause-owes : goal.put-requires-clause-owes
put-requires-clause-owes g c =
    owes_as c.deref_mut.ensures.value c.take-world.ensures.seen
    (fold_owes g.H.Holder.alone c.args.self.now.stream c.args.t c.args.replica c.args.page c.args.parent.now _ _ _
    (found_as c.deref_mut.ensures.value c.take-world.ensures.found) c.fold_in-answer.result c.requires.turn
    c.fold_in-answer.ensures.may c.fold_in-answer.ensures.ok c.fold_in-answer.ensures.err)

pub returns-clause-stands : goal.returns-clause-stands
returns-clause-stands g c =
    record {
      ready = c.put.ensures.rests;
      home = home_kept c.take-world.ensures.home c.put.ensures.home
          (fold_flag g.H.Holder.alone c.args.self.now.stream c.args.t c.args.replica c.args.page c.args.parent.now _ _ _
          (found_as c.deref_mut.ensures.value c.take-world.ensures.found) c.fold_in-answer.result c.requires.turn
          c.fold_in-answer.ensures.may c.fold_in-answer.ensures.ok c.fold_in-answer.ensures.err _ c.put.ensures.seen);
      same = fold_same g.H.Holder.alone c.args.self.now.stream c.args.t c.args.replica c.args.page c.args.parent.now _
          _ _
          (found_as c.deref_mut.ensures.value c.take-world.ensures.found) c.fold_in-answer.result c.requires.turn
          c.fold_in-answer.ensures.may c.fold_in-answer.ensures.ok c.fold_in-answer.ensures.err _ c.put.ensures.seen;
    }

pub fold_in-answer-requires-clause-purges : goal.fold_in-answer-requires-clause-purges
fold_in-answer-requires-clause-purges g c =
    found_purging g.H.Holder.alone c.args.self.now.stream c.args.t _ _
    (found_as c.deref_mut.ensures.value c.take-world.ensures.found) c.requires.turn

pub returns-clause-folded : goal.returns-clause-folded
returns-clause-folded g c =
    fold_folded g.H.Holder.alone c.args.self.now.stream c.args.replica c.args.page c.args.parent.now _ _ _
    (found_as c.deref_mut.ensures.value c.take-world.ensures.found) c.fold_in-answer.result
    c.fold_in-answer.ensures.ok _ c.put.ensures.seen

pub returns-clause-why : goal.returns-clause-why
returns-clause-why g c =
    fold_why c.args.replica c.args.page c.args.parent.now _ _ c.fold_in-answer.result
    c.fold_in-answer.ensures.why c.fold_in-answer.ensures.err _ c.put.ensures.seen
