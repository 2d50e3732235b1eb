use Rattle.world_holder.proofs.Taken.{found_as, owes_as}
use Rattle.world_steps.proofs.WholesGaveUp.{home_whole}
use Rattle.world_steps.proofs.BarrierTurns.{barrier_there, barrier_owes, barrier_gave, barrier_same, barrier_ok, barrier_rebuild}
use Rattle.world_steps.proofs.adds.StepsAddSteps.admit_barrier.Goals as goal

pub barrier_in-answer-requires-clause-barrier : goal.barrier_in-answer-requires-clause-barrier
barrier_in-answer-requires-clause-barrier g c =
    let found = found_as c.deref_mut.ensures.value c.take-world.ensures.found in
    barrier_there _ _ c.args.t _ _ found c.requires.open

pub put-requires-clause-owes : goal.put-requires-clause-owes
put-requires-clause-owes g c =
    let step = c.barrier_in-answer in
    let found = found_as c.deref_mut.ensures.value c.take-world.ensures.found in
    owes_as c.deref_mut.ensures.value c.take-world.ensures.seen
    (barrier_owes _ _ c.args.t _ _ found c.requires.open _ step.result step.ensures.may step.ensures.ok
    step.ensures.err)

pub returns-clause-stands : goal.returns-clause-stands
returns-clause-stands g c =
    let step = c.barrier_in-answer in
    let found = found_as c.deref_mut.ensures.value c.take-world.ensures.found in
    record {
      ready = c.put.ensures.rests;
      home = home_whole _ _ _ _ _ _ _ _ _ found
          (barrier_gave _ _ c.args.t _ _ found c.requires.open _ step.result step.ensures.may step.ensures.ok
          step.ensures.err)
          c.put.ensures.seen c.take-world.ensures.home c.put.ensures.home;
    }

pub returns-clause-ok : goal.returns-clause-ok
returns-clause-ok g c =
    let step = c.barrier_in-answer in
    let found = found_as c.deref_mut.ensures.value c.take-world.ensures.found in
    barrier_ok _ _ c.args.t _ _ found c.requires.open _ step.result step.ensures.may step.ensures.ok
    step.ensures.err
    _ c.put.ensures.seen

pub returns-clause-rebuild : goal.returns-clause-rebuild
returns-clause-rebuild g c =
    let step = c.barrier_in-answer in
    let found = found_as c.deref_mut.ensures.value c.take-world.ensures.found in
    barrier_rebuild _ _ c.args.t _ _ found c.requires.open _ step.result step.ensures.may step.ensures.ok
    step.ensures.err
    _ c.put.ensures.seen step.ensures.sound

pub returns-clause-err : goal.returns-clause-err
returns-clause-err g c =
    let step = c.barrier_in-answer in
    let found = found_as c.deref_mut.ensures.value c.take-world.ensures.found in
    barrier_same _ _ c.args.t _ _ found c.requires.open _ step.result step.ensures.may step.ensures.ok step.ensures.err
    _ c.put.ensures.seen
