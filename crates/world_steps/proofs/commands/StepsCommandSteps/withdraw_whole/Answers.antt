use Rattle.world_holder.proofs.Taken.{found_as, owes_as}
use Rattle.world_steps.proofs.WholeTurns.{waits_there, withdraw_owes, withdraw_to}
use Rattle.world_steps.proofs.WholesGaveUp.{home_whole, withdraws_gave}
use Rattle.world_steps.proofs.commands.StepsCommandSteps.withdraw_whole.Goals as goal

pub withdraw_whole-requires-clause-waits : goal.withdraw_whole-requires-clause-waits
withdraw_whole-requires-clause-waits g c =
    let found = found_as c.deref_mut.ensures.value c.take-world.ensures.found in
    waits_there _ _ c.args.t _ _ found c.requires.waits

pub put-requires-clause-owes : goal.put-requires-clause-owes
put-requires-clause-owes g c =
    let step = c.withdraw_whole in
    let found = found_as c.deref_mut.ensures.value c.take-world.ensures.found in
    owes_as c.deref_mut.ensures.value c.take-world.ensures.seen
    (withdraw_owes _ _ c.args.t _ _ found c.requires.waits _ step.ensures.may step.ensures.gone)

pub returns-clause-gone : goal.returns-clause-gone
returns-clause-gone g c =
    let step = c.withdraw_whole in
    let found = found_as c.deref_mut.ensures.value c.take-world.ensures.found in
    withdraw_to _ _ c.args.t _ _ found c.requires.waits _
    step.ensures.may step.ensures.gone _ c.put.ensures.seen

pub returns-clause-stands : goal.returns-clause-stands
returns-clause-stands g c =
    let step = c.withdraw_whole in
    let found = found_as c.deref_mut.ensures.value c.take-world.ensures.found in
    record {
      ready = c.put.ensures.rests;
      home = home_whole _ _ _ _ _ _ _ _ _ found (withdraws_gave _ _ c.args.t step.ensures.gone)
          c.put.ensures.seen c.take-world.ensures.home c.put.ensures.home;
    }
