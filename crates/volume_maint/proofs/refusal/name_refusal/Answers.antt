use Rattle.std.proofs.Common.{sym, ◌∙◌}
use Rattle.volume_core.specs.State.{state_of, told_of}
use Rattle.volume_maint.proofs.Refusals.{told_live, live_there, live_gone}
use Rattle.volume_maint.proofs.refusal.name_refusal.Goals as goal

pub returns-then-live : goal.returns-then-live
returns-then-live c =
    let s = state_of c.args.world.now in
    live_there (told_of s).volume c.args.name.now (sym (told_live s c.args.name.now c.requires) ∙ sym c.live.ensures ∙ c.if-live.true)

pub returns-else-live : goal.returns-else-live
returns-else-live c =
    let s = state_of c.args.world.now in
    live_gone (told_of s).volume c.args.name.now (sym (told_live s c.args.name.now c.requires) ∙ sym c.live.ensures ∙ c.if-live.false)
