use Rattle.std.proofs.Common.{◌≡◌, map, string_bytes}
use Rattle.shelf_traits.specs.Files.{Both}
use Rattle.replica_shelf.specs.Saving.{ClearsFirst}
use Rattle.replica_shelf.proofs.clearing.clear.Given as goal

abbrev pub invariant-loop-place : goal.invariant-loop-place
invariant-loop-place g l = record {
  cleared : Both (g.S.Shelves.holds l.fn.shelves) (g.S.Shelves.holds l.shelves)
      (ClearsFirst l.shelf (map string_bytes l.names.items) l.place);
  faults : g.S.Shelves.faults l.shelves ≡ g.S.Shelves.faults l.fn.shelves;
}
