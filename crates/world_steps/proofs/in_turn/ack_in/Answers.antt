use Rattle.std.proofs.Common.{subst, sym}
use Rattle.volume_core.specs.State.{state_of}
use Rattle.world_steps.specs.Acked.{AcksThen}
use Rattle.world_steps.proofs.AckTurns.{acks_then}
use Rattle.world_steps.proofs.in_turn.ack_in.Goals as goal

pub returns-clause-ok : goal.returns-clause-ok
returns-clause-ok c =
    let end = c.complete in
    subst (λ e. AcksThen (state_of c.args.world.now) c.args.t c.args.replica e (state_of end.new.self)) (sym c.is_ok.ensures.value)
    (acks_then (state_of c.args.world.now) (state_of c.ack.new.self) (state_of end.new.self) c.args.t c.args.replica end.result
    c.in_ok-ack.ensures.ok c.ack.ensures.may end.ensures.ok end.ensures.why end.ensures.err end.ensures.may end.ensures.sees)
