use Rattle.std.proofs.Common.{◌≡◌, sym, subst}
use Rattle.std.proofs.lemmas.List.{get_or_read}
use Rattle.volume_model.specs.declared.command.Command.{Command}
use Rattle.volume_model.specs.declared.call.Reply.{Reply}
use Rattle.open_calls.specs.declared.maint.MaintCall.{MaintCall}
use Rattle.open_calls.specs.Maint.{command_at, no_command}
use Rattle.volume_core.specs.State.{State, state_of}
use Rattle.volume_maint.specs.Answers.{MayRefuse, HasNoRebuild, MayEnd, IsReadyFor}
use Rattle.volume_maint.proofs.refusal.may_end.Goals as goal

pub returns-in-Refused-clause-may : goal.returns-in-Refused-clause-may
returns-in-Refused-clause-may c e =
    let s : State = state_of c.args.world.now in
    let its : Command = (command_at s.commands 0).command in
    let none : HasNoRebuild s its = subst (λ (r : Reply). IsReadyFor s its r) c.in-Refused.is c.requires.ready in
    let first : c.index.result.now ≡ command_at s.commands 0 =
    get_or_read s.commands 0 c.index.result.now c.requires.some c.index.ensures no_command in
    let may : MayRefuse s its c.in-Refused.why = subst (λ (m : MaintCall). MayRefuse s m.command c.in-Refused.why) first
    (c.may_refuse.ensures.may e) in
    subst (λ (r : Reply). MayEnd s its r) (sym c.in-Refused.is) (may, none)

pub returns-in-Refused-clause-not : goal.returns-in-Refused-clause-not
returns-in-Refused-clause-not c e may =
    let s : State = state_of c.args.world.now in
    let its : Command = (command_at s.commands 0).command in
    let refused : MayRefuse s its c.in-Refused.why = (subst (λ (r : Reply). MayEnd s its r) c.in-Refused.is may).0 in
    let first : c.index.result.now ≡ command_at s.commands 0 =
    get_or_read s.commands 0 c.index.result.now c.requires.some c.index.ensures no_command in
    absurd (c.may_refuse.ensures.not e
    (subst (λ (m : MaintCall). MayRefuse s m.command c.in-Refused.why) (sym first) refused))
