use Rattle.std.proofs.Common.{ap}
use Rattle.volume_core.specs.State.{state_of}
use Rattle.world_holder.proofs.Taken.{found_as, owes_as}
use Rattle.world_steps.proofs.AckTurns.{acked_owes, acked_free, acked_does, acked_go}
use Rattle.world_steps.proofs.Does.{home_free}
use Rattle.world_steps.proofs.FrameTurns.{tells_next}
use Rattle.world_steps.proofs.frames.StepsClientSteps.ack.Goals as goal

pub put-requires-clause-owes : goal.put-requires-clause-owes
put-requires-clause-owes g c =
    let step = c.ack_in-answer in
    let found = found_as c.deref_mut.ensures.value c.take-world.ensures.found in
    owes_as c.deref_mut.ensures.value c.take-world.ensures.seen (acked_owes _ _ c.args.t c.args.replica _ _ found c.requires.started _
    step.result step.ensures.ok step.ensures.err)

pub returns-clause-stands : goal.returns-clause-stands
returns-clause-stands g c =
    let step = c.ack_in-answer in
    let found = found_as c.deref_mut.ensures.value c.take-world.ensures.found in
    record {
      ready = (
        c.put.ensures.rests,
        acked_free _ _ c.args.t c.args.replica _ _ found c.requires.started _ step.result step.ensures.ok step.ensures.err
            _ c.put.ensures.seen c.requires.ready.1,
      );
      home = home_free c.take-world.ensures.home c.put.ensures.home;
    }

pub returns-clause-does : goal.returns-clause-does
returns-clause-does g c =
    let step = c.ack_in-answer in
    let found = found_as c.deref_mut.ensures.value c.take-world.ensures.found in
    acked_does _ _ c.args.t c.args.replica _ _ found c.requires.started _ step.result step.ensures.ok step.ensures.err
    _ c.put.ensures.seen step.ensures.why

pub returns-clause-next : goal.returns-clause-next
returns-clause-next g c =
    let step = c.ack_in-answer in
    let found = found_as c.deref_mut.ensures.value c.take-world.ensures.found in
    tells_next _ _ _ _ _ found (acked_go _ _ c.args.t c.args.replica _ _ found c.requires.started _ step.result step.ensures.ok
    step.ensures.err) _ _ (ap state_of c.deref.ensures) c.put.ensures.seen c.args.replica
    c.next_up-next.result c.next_up-next.ensures.next c.next_up-next.ensures.inside
