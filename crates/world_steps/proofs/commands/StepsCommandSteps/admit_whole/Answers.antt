use Rattle.world_holder.proofs.Taken.{found_as, owes_as}
use Rattle.world_steps.proofs.WholeTurns.{waits_there, admit_owes, admit_starts, admit_same, admit_begins}
use Rattle.world_steps.proofs.WholesGaveUp.{home_whole, admit_gave}
use Rattle.world_steps.proofs.commands.StepsCommandSteps.admit_whole.Goals as goal

pub admit_whole-answer-requires-clause-waits : goal.admit_whole-answer-requires-clause-waits
admit_whole-answer-requires-clause-waits g c =
    let found = found_as c.deref_mut.ensures.value c.take-world.ensures.found in
    waits_there _ _ c.args.t _ _ found c.requires.open

pub put-requires-clause-owes : goal.put-requires-clause-owes
put-requires-clause-owes g c =
    let step = c.admit_whole-answer in
    let found = found_as c.deref_mut.ensures.value c.take-world.ensures.found in
    owes_as c.deref_mut.ensures.value c.take-world.ensures.seen
    (admit_owes _ _ c.args.t _ _ found c.requires.open _ step.result step.ensures.may step.ensures.ok step.ensures.err)

pub returns-clause-ok : goal.returns-clause-ok
returns-clause-ok g c =
    let step = c.admit_whole-answer in
    let found = found_as c.deref_mut.ensures.value c.take-world.ensures.found in
    admit_starts _ _ c.args.t _ _ found c.requires.open _ step.result
    step.ensures.may step.ensures.ok step.ensures.err _ c.put.ensures.seen

pub returns-clause-err : goal.returns-clause-err
returns-clause-err g c =
    let step = c.admit_whole-answer in
    let found = found_as c.deref_mut.ensures.value c.take-world.ensures.found in
    admit_same _ _ c.args.t _ _ found c.requires.open _ step.result
    step.ensures.may step.ensures.ok step.ensures.err _ c.put.ensures.seen

pub returns-clause-stands : goal.returns-clause-stands
returns-clause-stands g c =
    let step = c.admit_whole-answer in
    let found = found_as c.deref_mut.ensures.value c.take-world.ensures.found in
    record {
      ready = c.put.ensures.rests;
      home = home_whole _ _ _ _ _ _ _ _ _ found (admit_gave _ _ c.args.t step.result step.ensures.ok step.ensures.err)
          c.put.ensures.seen c.take-world.ensures.home c.put.ensures.home;
    }

pub returns-clause-never : goal.returns-clause-never
returns-clause-never g c =
    let step = c.admit_whole-answer in
    let found = found_as c.deref_mut.ensures.value c.take-world.ensures.found in
    admit_begins _ _ c.args.t _ _ found c.requires.open _ step.result step.ensures.may step.ensures.ok step.ensures.err
