use Rattle.world_holder.proofs.Taken.{found_as, owes_as}
use Rattle.world_steps.proofs.WholeTurns.{under_idle, under_may, under_owes, under_ok, under_unbegun, under_same}
use Rattle.world_steps.proofs.WholesGaveUp.{home_whole, whole_gave}
use Rattle.world_steps.proofs.commands.StepsCommandSteps.enrol_whole.Goals as goal

pub enrol_whole-answer-requires-clause-idle : goal.enrol_whole-answer-requires-clause-idle
enrol_whole-answer-requires-clause-idle g c =
    let found = found_as c.deref_mut.ensures.value c.take-world.ensures.found in
    under_idle _ _ c.args.t c.args.op.now _ _ found c.requires.turn

pub enrol_whole-answer-requires-clause-asks : goal.enrol_whole-answer-requires-clause-asks
enrol_whole-answer-requires-clause-asks g c =
    let found = found_as c.deref_mut.ensures.value c.take-world.ensures.found in
    under_may _ _ c.args.t c.args.op.now _ _ found c.requires.turn

pub put-requires-clause-owes : goal.put-requires-clause-owes
put-requires-clause-owes g c =
    let step = c.enrol_whole-answer in
    let found = found_as c.deref_mut.ensures.value c.take-world.ensures.found in
    owes_as c.deref_mut.ensures.value c.take-world.ensures.seen
    (under_owes _ _ c.args.t c.args.op.now _ _ found c.requires.turn _ step.result step.ensures.may step.ensures.ok
    step.ensures.err)

pub returns-clause-ok : goal.returns-clause-ok
returns-clause-ok g c =
    let step = c.enrol_whole-answer in
    let found = found_as c.deref_mut.ensures.value c.take-world.ensures.found in
    under_ok _ _ c.args.t c.args.op.now _ _ found c.requires.turn _ step.result
    step.ensures.may step.ensures.ok step.ensures.err _ c.put.ensures.seen

pub returns-clause-err : goal.returns-clause-err
returns-clause-err g c =
    let step = c.enrol_whole-answer in
    let found = found_as c.deref_mut.ensures.value c.take-world.ensures.found in
    under_same _ _ c.args.t c.args.op.now _ _ found c.requires.turn _ step.result
    step.ensures.may step.ensures.ok step.ensures.err _ c.put.ensures.seen

pub returns-clause-stands : goal.returns-clause-stands
returns-clause-stands g c =
    let step = c.enrol_whole-answer in
    let found = found_as c.deref_mut.ensures.value c.take-world.ensures.found in
    record {
      ready = c.put.ensures.rests;
      home = home_whole _ _ _ _ _ _ _ _ _ found (whole_gave _ _ _ c.args.op.now step.result step.ensures.ok
          step.ensures.err)
          c.put.ensures.seen c.take-world.ensures.home c.put.ensures.home;
    }

pub returns-clause-unbegun : goal.returns-clause-unbegun
returns-clause-unbegun g c =
    let step = c.enrol_whole-answer in
    let found = found_as c.deref_mut.ensures.value c.take-world.ensures.found in
    under_unbegun _ _ c.args.t c.args.op.now _ _ found c.requires.turn _ step.result
    step.ensures.may step.ensures.ok step.ensures.err _ c.put.ensures.seen
