use Rattle.std.proofs.Common.{ap}
use Rattle.volume_core.specs.State.{state_of}
use Rattle.world_holder.proofs.Taken.{found_as, owes_as}
use Rattle.world_steps.proofs.Does.{home_free}
use Rattle.world_steps.proofs.FrameTurns.{fault_owes, fault_free, fault_does, fault_modes, tells_next}
use Rattle.world_steps.proofs.frames.StepsClientSteps.fault.Goals as goal

pub put-requires-clause-owes : goal.put-requires-clause-owes
put-requires-clause-owes g c =
    let step = c.fault-answer in
    let found = found_as c.deref_mut.ensures.value c.take-world.ensures.found in
    owes_as c.deref_mut.ensures.value c.take-world.ensures.seen (fault_owes _ _ c.args.replica c.args.count _ _ _
    found step.result step.ensures.may step.ensures.ok step.ensures.err)

pub returns-clause-stands : goal.returns-clause-stands
returns-clause-stands g c =
    let step = c.fault-answer in
    let found = found_as c.deref_mut.ensures.value c.take-world.ensures.found in
    record {
      ready = (
        c.put.ensures.rests,
        fault_free _ _ c.args.replica c.args.count _ _ _ found step.result
            step.ensures.may step.ensures.ok step.ensures.err _ c.put.ensures.seen c.requires.ready.1,
      );
      home = home_free c.take-world.ensures.home c.put.ensures.home;
    }

pub returns-clause-does : goal.returns-clause-does
returns-clause-does g c =
    let step = c.fault-answer in
    let found = found_as c.deref_mut.ensures.value c.take-world.ensures.found in
    fault_does _ _ c.args.replica c.args.count _ _ _ found step.result step.ensures.may step.ensures.ok
    step.ensures.err _ c.put.ensures.seen c.requires.ready.1 step.ensures.why

pub returns-clause-next : goal.returns-clause-next
returns-clause-next g c =
    let step = c.fault-answer in
    let found = found_as c.deref_mut.ensures.value c.take-world.ensures.found in
    tells_next _ _ _ _ _ found step.ensures.may _ _ (ap state_of c.deref.ensures) c.put.ensures.seen c.args.replica
    c.next_up-next.result c.next_up-next.ensures.next c.next_up-next.ensures.inside

pub returns-clause-failed : goal.returns-clause-failed
returns-clause-failed g c =
    let step = c.fault-answer in
    let found = found_as c.deref_mut.ensures.value c.take-world.ensures.found in
    fault_modes _ _ c.args.replica c.args.count _ _ _ found step.result step.ensures.may step.ensures.ok
    step.ensures.err _ c.put.ensures.seen
