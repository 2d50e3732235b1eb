use Rattle.std.proofs.Common.{sym, subst}
use Rattle.volume_core.specs.State.{state_of}
use Rattle.core_laws.specs.declared.step.Step.{Step}
use Rattle.core_laws.specs.Takes.{Makes}
use Rattle.core_laws.proofs.Refused.{ack_made}
use Rattle.core_laws.proofs.take.take_step.Goals as goal

pub returns-in-Ack-clause-ok : goal.returns-in-Ack-clause-ok
returns-in-Ack-clause-ok c =
    let s = state_of c.args.world.now in
    let s2 = state_of c.ack.new.self in
    subst (λ (x : Step). Makes x s s2) (sym c.in-Ack.is)
    (ack_made s s2 c.in-Ack.ticket c.ack.result c.ack.ensures.err c.in-Ack.replica c.ack.ensures.ok c.ack.ensures.why)
