use Rattle.std.proofs.Common.{sym, subst}
use Rattle.volume_core.specs.State.{state_of}
use Rattle.volume_model.specs.declared.call.Reply.{Reply}
use Rattle.volume_model.specs.declared.call.Reply.TheVariants as reply
use Rattle.core_laws.specs.declared.maint_step.MaintStep.TheVariants as step
use Rattle.core_laws.specs.MaintTakes.{MakesMaint}
use Rattle.core_laws.proofs.Refused.{end_made}
use Rattle.core_laws.proofs.take_maint.end.Goals as goal

pub returns-in-Refused-clause-ok : goal.returns-in-Refused-clause-ok
returns-in-Refused-clause-ok c =
    let s = state_of c.args.world.now in
    let s2 = state_of c.end_maint-in-Refused.new.world in
    let ended = c.end_maint-in-Refused.ensures in
    subst (λ (x : Reply). MakesMaint (step.End c.args.ticket x) s s2) (sym c.in-Refused.is)
    (end_made s s2 c.args.ticket c.end_maint-in-Refused.result ended.err (reply.Refused c.in-Refused.why) ended.ok ended.why)

pub returns-in-Aborted-clause-ok : goal.returns-in-Aborted-clause-ok
returns-in-Aborted-clause-ok c =
    let s = state_of c.args.world.now in
    let s2 = state_of c.end_maint-in-Aborted.new.world in
    let ended = c.end_maint-in-Aborted.ensures in
    subst (λ (x : Reply). MakesMaint (step.End c.args.ticket x) s s2) (sym c.in-Aborted.is)
    (end_made s s2 c.args.ticket c.end_maint-in-Aborted.result ended.err (reply.Aborted c.in-Aborted.place) ended.ok ended.why)
