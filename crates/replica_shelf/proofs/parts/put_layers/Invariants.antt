use Rattle.std.proofs.Common.{◌≡◌}
use Rattle.shelf_traits.specs.Files.{Both}
use Rattle.replica_shelf.specs.Saving.{stamps_of, AreWritten, IsBelow, IsClear, OnlyImages}
use Rattle.replica_shelf.proofs.parts.put_layers.Given as goal

abbrev pub invariant-loop-place : goal.invariant-loop-place
invariant-loop-place g l = record {
  first : Both (g.S.Shelves.holds l.fn.shelves) (g.S.Shelves.holds l.shelves)
      (λ old new. IsClear (old l.shelf) → AreWritten (IsBelow l.place) (new l.shelf) (stamps_of l.meta) l.node);
  only : Both (g.S.Shelves.holds l.fn.shelves) (g.S.Shelves.holds l.shelves) (OnlyImages l.shelf);
  faults : g.S.Shelves.faults l.shelves ≡ g.S.Shelves.faults l.fn.shelves;
}
