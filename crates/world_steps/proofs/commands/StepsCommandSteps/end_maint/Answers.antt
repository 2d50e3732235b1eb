use Rattle.world_holder.proofs.Taken.{found_as, owes_as}
use Rattle.world_steps.proofs.MaintTurns.{ends_flag, ends_owes, ends_does}
use Rattle.world_steps.proofs.GaveUp.{home_kept}
use Rattle.world_steps.proofs.commands.StepsCommandSteps.end_maint.Goals as goal

pub put-requires-clause-owes : goal.put-requires-clause-owes
put-requires-clause-owes g c =
    owes_as c.deref_mut.ensures.value c.take-world.ensures.seen
    (ends_owes g.H.Holder.alone c.args.self.now.stream c.args.t c.args.reply _ _ _
    (found_as c.deref_mut.ensures.value c.take-world.ensures.found) c.end_maint-answer.result c.requires.turn
    c.end_maint-answer.ensures.may c.end_maint-answer.ensures.ok c.end_maint-answer.ensures.err)

pub returns-clause-stands : goal.returns-clause-stands
returns-clause-stands g c =
    record {
      ready = c.put.ensures.rests;
      home = home_kept c.take-world.ensures.home c.put.ensures.home
          (ends_flag g.H.Holder.alone c.args.self.now.stream c.args.t c.args.reply _ _ _
          (found_as c.deref_mut.ensures.value c.take-world.ensures.found) c.end_maint-answer.result c.requires.turn
          c.end_maint-answer.ensures.may c.end_maint-answer.ensures.ok c.end_maint-answer.ensures.err _
          c.put.ensures.seen);
    }

pub returns-clause-does : goal.returns-clause-does
returns-clause-does g c =
    let step = c.end_maint-answer in
    let found = found_as c.deref_mut.ensures.value c.take-world.ensures.found in
    ends_does _ _ c.args.t c.args.reply _ _ _ found step.result c.requires.turn step.ensures.may step.ensures.ok
    step.ensures.err _ c.put.ensures.seen step.ensures.why
