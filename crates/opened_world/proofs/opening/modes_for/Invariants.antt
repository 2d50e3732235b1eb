use Rattle.std.proofs.Common.{◌≡◌, map, take}
use Rattle.volume_folders.specs.Reasons.{mode_for}
use Rattle.opened_world.proofs.opening.modes_for.Given as goal

abbrev pub invariant-loop-why : goal.invariant-loop-why
invariant-loop-why l = l.modes.items ≡ map mode_for (take l.why-index l.reasons)
