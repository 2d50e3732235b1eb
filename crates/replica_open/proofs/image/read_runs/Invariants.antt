use Rattle.std.proofs.Common.{◌≡◌, ◌*◌, length, take, None}
use Rattle.image_maps.specs.Maps.{has_block}
use Rattle.folder_checks.specs.Told.{Told}
use Rattle.replica_open.specs.Reading.{ReadsOrStops}
use Rattle.replica_open.proofs.image.read_runs.Given as goal

abbrev pub invariant-loop-run : goal.invariant-loop-run
invariant-loop-run g l = record {
  same : g.S.Shelves.holds l.shelves ≡ g.S.Shelves.holds l.fn.shelves;
  faults : g.S.Shelves.faults l.shelves ≡ g.S.Shelves.faults l.fn.shelves;
  count : length l.into ≡ length l.fn.into;
  told : Told (g.S.Shelves.holds l.fn.shelves) (λ files. ReadsOrStops (files l.shelf) (length l.fn.into * 2097152) l.file
      (has_block (take l.run-index l.spans)) l.fn.into l.into None);
}
