use Rattle.std.proofs.Common.{◌≡◌, map, string_bytes, Global}
use Rattle.folder_checks.specs.Told.{Told}
use Rattle.folder_checks.specs.Checks.{AreGood}
use Rattle.folder_checks.specs.Finding.{AreKnownImages}
use Rattle.folder_checks.proofs.checking.check_snapshots.Given as goal

abbrev pub invariant-loop-place : goal.invariant-loop-place
invariant-loop-place g l = record {
  good : Told (g.S.Shelves.holds l.fn.shelves)
      (λ files. AreGood (files l.shelf) l.size l.block_count (map (string_bytes {Z = Global}) l.names) l.place l.all.items);
  known : AreKnownImages l.block_count (map (string_bytes {Z = Global}) l.names) l.place l.all.items;
  same : g.S.Shelves.holds l.shelves ≡ g.S.Shelves.holds l.fn.shelves;
  faults : g.S.Shelves.faults l.shelves ≡ g.S.Shelves.faults l.fn.shelves;
}
