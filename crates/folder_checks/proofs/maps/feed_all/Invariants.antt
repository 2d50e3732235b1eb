use Rattle.std.proofs.Common.{◌-◌, ◌≡◌, ◌≤◌}
use Rattle.folder_checks.specs.Told.{Told}
use Rattle.folder_checks.specs.Pieces.{IsFed}
use Rattle.folder_checks.proofs.maps.feed_all.Given as goal

abbrev pub invariant-loop-at : goal.invariant-loop-at
invariant-loop-at g l = record {
  within : l.at ≤ l.len;
  blocks : l.reader.blocks ≡ l.fn.reader.blocks;
  same : g.S.Shelves.holds l.shelves ≡ g.S.Shelves.holds l.fn.shelves;
  faults : g.S.Shelves.faults l.shelves ≡ g.S.Shelves.faults l.fn.shelves;
  told : Told (g.S.Shelves.holds l.fn.shelves) (λ files. IsFed (files l.shelf l.file) l.len 0 l.fn.reader.fed
      → IsFed (files l.shelf l.file) l.len l.at l.reader.fed);
}

abbrev pub decreases-loop-at : goal.decreases-loop-at
decreases-loop-at g l = l.len - l.at
