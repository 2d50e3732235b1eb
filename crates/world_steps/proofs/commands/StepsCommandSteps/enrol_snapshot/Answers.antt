use Rattle.world_holder.proofs.Taken.{found_as, owes_as}
use Rattle.world_steps.proofs.WholeTurns.{snap_idle, snap_may, snap_owes, snap_ok, snap_same}
use Rattle.world_steps.proofs.WholesGaveUp.{home_whole, snap_gave}
use Rattle.world_steps.proofs.commands.StepsCommandSteps.enrol_snapshot.Goals as goal

pub snapshot_in-answer-requires-clause-idle : goal.snapshot_in-answer-requires-clause-idle
snapshot_in-answer-requires-clause-idle g c =
    let found = found_as c.deref_mut.ensures.value c.take-world.ensures.found in
    snap_idle _ _ c.args.op.now _ _ found c.requires.idle c.requires.snapshot

pub snapshot_in-answer-requires-clause-asks : goal.snapshot_in-answer-requires-clause-asks
snapshot_in-answer-requires-clause-asks g c =
    let found = found_as c.deref_mut.ensures.value c.take-world.ensures.found in
    snap_may _ _ c.args.op.now _ _ found c.requires.idle c.requires.snapshot

pub snapshot_in-answer-requires-clause-snapshot : goal.snapshot_in-answer-requires-clause-snapshot
snapshot_in-answer-requires-clause-snapshot g c =
    (c.requires.snapshot.0, c.requires.snapshot.1)

pub put-requires-clause-owes : goal.put-requires-clause-owes
put-requires-clause-owes g c =
    let step = c.snapshot_in-answer in
    let found = found_as c.deref_mut.ensures.value c.take-world.ensures.found in
    owes_as c.deref_mut.ensures.value c.take-world.ensures.seen
    (snap_owes _ _ c.args.op.now _ _ found c.requires.idle c.requires.snapshot _ step.result
    step.ensures.may step.ensures.ok step.ensures.err)

pub returns-clause-ok : goal.returns-clause-ok
returns-clause-ok g c =
    let step = c.snapshot_in-answer in
    let found = found_as c.deref_mut.ensures.value c.take-world.ensures.found in
    snap_ok _ _ c.args.op.now _ _ found c.requires.idle c.requires.snapshot _ step.result
    step.ensures.may step.ensures.ok step.ensures.err _ c.put.ensures.seen

pub returns-clause-err : goal.returns-clause-err
returns-clause-err g c =
    let step = c.snapshot_in-answer in
    let found = found_as c.deref_mut.ensures.value c.take-world.ensures.found in
    snap_same _ _ c.args.op.now _ _ found c.requires.idle c.requires.snapshot _ step.result
    step.ensures.may step.ensures.ok step.ensures.err _ c.put.ensures.seen

pub returns-clause-stands : goal.returns-clause-stands
returns-clause-stands g c =
    let step = c.snapshot_in-answer in
    let found = found_as c.deref_mut.ensures.value c.take-world.ensures.found in
    record {
      ready = c.put.ensures.rests;
      home = home_whole _ _ _ _ _ _ _ _ _ found (snap_gave _ _ _ c.args.op.now step.result step.ensures.ok
          step.ensures.err)
          c.put.ensures.seen c.take-world.ensures.home c.put.ensures.home;
    }
