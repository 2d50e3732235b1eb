use Rattle.std.proofs.Common.{map, string_bytes}
use Rattle.folder_checks.specs.Snapshots.{metas_of}
use Rattle.folder_layers.specs.Layers.{AreFitBelow}
use Rattle.folder_layers.specs.Rings.{AreMarked}
use Rattle.folder_layers.proofs.misfit.first_unfit.Given as goal

abbrev pub invariant-loop-place : goal.invariant-loop-place
invariant-loop-place l =
    AreMarked l.parents l.marks × AreFitBelow l.number (map string_bytes l.names) (metas_of l.snapshots) l.place
