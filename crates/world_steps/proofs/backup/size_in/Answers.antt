use Rattle.std.proofs.Common.{sym, ◌∙◌}
use Rattle.volume_core.specs.State.{state_of}
use Rattle.world_steps.proofs.ToldCopies.{told_long}
use Rattle.world_steps.proofs.backup.size_in.Goals as goal

pub returns-then-is_live : goal.returns-then-is_live
returns-then-is_live c =
    told_long (state_of c.args.world.now) c.args.name.now c.requires.sound (sym c.is_live.ensures ∙ c.if-is_live.true)
