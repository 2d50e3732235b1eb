use Rattle.std.proofs.Common.{◌≡◌}
use Rattle.shelf_traits.specs.Files.{Both}
use Rattle.volume_folders.specs.Steps.{AreSavedSoFar}
use Rattle.volume_folders.proofs.saving.save_replicas.Given as goal

abbrev pub invariant-loop-shelf : goal.invariant-loop-shelf
invariant-loop-shelf g l = record {
  saved : Both (g.S.Shelves.holds l.fn.shelves) (g.S.Shelves.holds l.shelves) (AreSavedSoFar l.time l.heads l.modes l.nodes l.shelf);
  faults : g.S.Shelves.faults l.shelves ≡ g.S.Shelves.faults l.fn.shelves;
}
