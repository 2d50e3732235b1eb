use Rattle.std.proofs.Common.{subst, sym, ◌∙◌}
use Rattle.vol_units.specs.Size.{IsVolumeSize}
use Rattle.volume_core.specs.declared.world.World.{World}
use Rattle.world_holder.proofs.Taken.{found_as, owes_as}
use Rattle.world_steps.proofs.Does.{home_free}
use Rattle.world_steps.proofs.FrameTurns.{enrol_owes, enrol_free, enrol_to, enrol_same, found_idle, found_free}
use Rattle.world_steps.proofs.frames.StepsClientSteps.enrol.Goals as goal

pub enrol-answer-requires-clause-idle : goal.enrol-answer-requires-clause-idle
enrol-answer-requires-clause-idle g c =
    found_idle _ _ _ _ (found_as c.deref_mut.ensures.value c.take-world.ensures.found) c.requires.idle

pub enrol-answer-requires-clause-free : goal.enrol-answer-requires-clause-free
enrol-answer-requires-clause-free g c =
    found_free _ _ _ _ (found_as c.deref_mut.ensures.value c.take-world.ensures.found) c.requires.ready.1

pub put-requires-clause-owes : goal.put-requires-clause-owes
put-requires-clause-owes g c =
    let step = c.enrol-answer in
    let found = found_as c.deref_mut.ensures.value c.take-world.ensures.found in
    owes_as c.deref_mut.ensures.value c.take-world.ensures.seen (enrol_owes _ _ c.args.call.now _ _ _ found
    step.result step.ensures.may step.ensures.ok step.ensures.err)

pub returns-clause-stands : goal.returns-clause-stands
returns-clause-stands g c =
    let step = c.enrol-answer in
    let found = found_as c.deref_mut.ensures.value c.take-world.ensures.found in
    record {
      ready = (
        c.put.ensures.rests,
        enrol_free _ _ c.args.call.now _ _ _ found step.result step.ensures.may
            step.ensures.ok step.ensures.err _ c.put.ensures.seen c.requires.ready.1,
      );
      home = home_free c.take-world.ensures.home c.put.ensures.home;
    }

pub returns-clause-ok : goal.returns-clause-ok
returns-clause-ok g c =
    let step = c.enrol-answer in
    let found = found_as c.deref_mut.ensures.value c.take-world.ensures.found in
    enrol_to _ _ c.args.call.now _ _ _ found step.result step.ensures.may step.ensures.ok step.ensures.err _
    c.put.ensures.seen
    (subst (λ (w : World). IsVolumeSize w.size) (c.deref.ensures ∙ sym c.deref_mut.ensures.value)
    c.bytes-size.ensures.size)
    c.requires.range c.requires.idle step.ensures.sees

pub returns-clause-err : goal.returns-clause-err
returns-clause-err g c =
    let step = c.enrol-answer in
    let found = found_as c.deref_mut.ensures.value c.take-world.ensures.found in
    enrol_same _ _ c.args.call.now _ _ _ found step.result step.ensures.may step.ensures.ok step.ensures.err _
    c.put.ensures.seen
