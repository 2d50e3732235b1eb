use Rattle.std.proofs.Common.{ap}
use Rattle.volume_core.specs.State.{state_of}
use Rattle.world_holder.proofs.Taken.{found_as, owes_as}
use Rattle.world_steps.proofs.Does.{home_free}
use Rattle.world_steps.proofs.FrameTurns.{admit_go, admit_owes, admit_free, admit_starts, admit_job, admit_same, admit_waits}
use Rattle.world_steps.proofs.FrameTurns.{tells_source}
use Rattle.world_steps.proofs.ToldWith.{ok_with, source_with, err_with}
use Rattle.world_steps.proofs.frames.StepsClientSteps.admit.Goals as goal

pub admit-answer-requires-clause-waits : goal.admit-answer-requires-clause-waits
admit-answer-requires-clause-waits g c =
    admit_waits _ _ c.args.t _ _ (found_as c.deref_mut.ensures.value c.take-world.ensures.found) c.requires.open

pub put-requires-clause-owes : goal.put-requires-clause-owes
put-requires-clause-owes g c =
    let step = c.admit-answer in
    let found = found_as c.deref_mut.ensures.value c.take-world.ensures.found in
    owes_as c.deref_mut.ensures.value c.take-world.ensures.seen (admit_owes _ _ c.args.t _ _ _ found step.result
    c.requires.open step.ensures.may step.ensures.ok step.ensures.err)

pub returns-clause-stands : goal.returns-clause-stands
returns-clause-stands g c =
    let step = c.admit-answer in
    let found = found_as c.deref_mut.ensures.value c.take-world.ensures.found in
    record {
      ready = (
        c.put.ensures.rests,
        admit_free _ _ c.args.t _ _ _ found step.result c.requires.open step.ensures.may
            step.ensures.ok step.ensures.err _ c.put.ensures.seen c.requires.ready.1,
      );
      home = home_free c.take-world.ensures.home c.put.ensures.home;
    }

pub returns-clause-ok : goal.returns-clause-ok
returns-clause-ok g c =
    let step = c.admit-answer in
    let found = found_as c.deref_mut.ensures.value c.take-world.ensures.found in
    rw c.told_with.ensures (ok_with c.source-source.result _ step.result (admit_starts _ _ c.args.t _ _ _ found step.result
    c.requires.open step.ensures.may step.ensures.ok step.ensures.err _ c.put.ensures.seen step.ensures.sees))

pub returns-clause-job : goal.returns-clause-job
returns-clause-job g c =
    let step = c.admit-answer in
    let found = found_as c.deref_mut.ensures.value c.take-world.ensures.found in
    rw c.told_with.ensures (ok_with c.source-source.result _ step.result (admit_job _ _ c.args.t _ _ _ found step.result
    c.requires.open step.ensures.may step.ensures.ok step.ensures.err _ c.put.ensures.seen step.ensures.sees))

pub returns-clause-source : goal.returns-clause-source
returns-clause-source g c =
    let step = c.admit-answer in
    let source = c.source-source in
    let found = found_as c.deref_mut.ensures.value c.take-world.ensures.found in
    rw c.told_with.ensures (source_with source.result _ step.result (tells_source _ _ _ _ _ found
    (admit_go _ _ c.args.t _ _ _ found step.result c.requires.open step.ensures.may step.ensures.ok step.ensures.err) _ _
    (ap state_of c.deref.ensures) c.put.ensures.seen source.result source.ensures.found source.ensures.within))

pub returns-clause-err : goal.returns-clause-err
returns-clause-err g c =
    let step = c.admit-answer in
    let found = found_as c.deref_mut.ensures.value c.take-world.ensures.found in
    rw c.told_with.ensures (err_with c.source-source.result _ step.result (admit_same _ _ c.args.t _ _ _ found step.result
    c.requires.open step.ensures.may step.ensures.ok step.ensures.err _ c.put.ensures.seen))
