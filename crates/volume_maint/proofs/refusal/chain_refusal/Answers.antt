use Rattle.std.proofs.Common.{◌∙◌}
use Rattle.volume_core.specs.State.{state_of, told_of}
use Rattle.volume_core.proofs.Now.{layers_told}
use Rattle.volume_maint.proofs.Refusals.{room_left, room_gone}
use Rattle.volume_maint.proofs.refusal.chain_refusal.Goals as goal

pub returns-then-layers : goal.returns-then-layers
returns-then-layers c =
    let s = state_of c.args.world.now in
    room_left (told_of s).volume c.layers.result (c.layers.ensures ∙ layers_told s c.requires) c.if-layers.true

pub returns-else-layers : goal.returns-else-layers
returns-else-layers c =
    let s = state_of c.args.world.now in
    room_gone (told_of s).volume c.layers.result (c.layers.ensures ∙ layers_told s c.requires) c.if-layers.false
