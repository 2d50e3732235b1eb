use Rattle.world_holder.proofs.Taken.{found_as, owes_as}
use Rattle.world_steps.proofs.WholeTurns.{ends_owes, ends_does, ends_begun, ends_past}
use Rattle.world_steps.proofs.WholesGaveUp.{home_whole, completes_gave}
use Rattle.world_steps.proofs.commands.StepsCommandSteps.complete_whole.Goals as goal

pub put-requires-clause-owes : goal.put-requires-clause-owes
put-requires-clause-owes g c =
    let step = c.complete_whole-answer in
    let found = found_as c.deref_mut.ensures.value c.take-world.ensures.found in
    owes_as c.deref_mut.ensures.value c.take-world.ensures.seen
    (ends_owes _ _ c.args.t _ _ found c.requires.started _ step.result step.ensures.may step.ensures.ok
    step.ensures.err)

pub returns-clause-stands : goal.returns-clause-stands
returns-clause-stands g c =
    let step = c.complete_whole-answer in
    let found = found_as c.deref_mut.ensures.value c.take-world.ensures.found in
    record {
      ready = c.put.ensures.rests;
      home = home_whole _ _ _ _ _ _ _ _ _ found (completes_gave _ _ c.args.t step.result step.ensures.ok
          step.ensures.err)
          c.put.ensures.seen c.take-world.ensures.home c.put.ensures.home;
    }

pub returns-clause-begun : goal.returns-clause-begun
returns-clause-begun g c =
    let step = c.complete_whole-answer in
    let found = found_as c.deref_mut.ensures.value c.take-world.ensures.found in
    ends_begun _ _ c.args.t _ _ found c.requires.started _ step.result
    step.ensures.may step.ensures.ok step.ensures.err _ c.put.ensures.seen

pub returns-clause-past : goal.returns-clause-past
returns-clause-past g c =
    let step = c.complete_whole-answer in
    let found = found_as c.deref_mut.ensures.value c.take-world.ensures.found in
    ends_past _ _ c.args.t _ _ found c.requires.started _ step.result
    step.ensures.may step.ensures.ok step.ensures.err _ c.put.ensures.seen

pub returns-clause-does : goal.returns-clause-does
returns-clause-does g c =
    let step = c.complete_whole-answer in
    let found = found_as c.deref_mut.ensures.value c.take-world.ensures.found in
    ends_does _ _ c.args.t _ _ found c.requires.started _ step.result step.ensures.may step.ensures.ok
    step.ensures.err _ c.put.ensures.seen step.ensures.why
