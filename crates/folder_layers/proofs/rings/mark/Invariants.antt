use Rattle.std.proofs.Common.{◌<◌, length}
use Rattle.folder_layers.specs.Rings.{AreMarked, Ends}
use Rattle.folder_layers.proofs.rings.mark.Given as goal

abbrev pub invariant-loop-step : goal.invariant-loop-step
invariant-loop-step l = AreMarked l.parents l.marks × (l.at < length l.parents) × Ends l.parents l.at
