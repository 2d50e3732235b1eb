use Rattle.std.proofs.Common.{◌≡◌, take}
use Rattle.volume_core.specs.Data.{owed_data}
use Rattle.volume_core.proofs.world.World.owed_data.Given as goal

abbrev pub invariant-loop-call : goal.invariant-loop-call
invariant-loop-call l = l.owed ≡ owed_data (take l.call-index l.self.calls.items)
