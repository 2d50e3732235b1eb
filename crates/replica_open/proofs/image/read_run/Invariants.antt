use Rattle.std.proofs.Common.{◌≡◌, ◌*◌, length, None}
use Rattle.std.specs.Prelude.{◌&&◌, nat_le, nat_lt}
use Rattle.folder_checks.specs.Told.{Told}
use Rattle.replica_open.specs.Reading.{ReadsOrStops}
use Rattle.replica_open.proofs.image.read_run.Given as goal

abbrev pub invariant-loop-block : goal.invariant-loop-block
invariant-loop-block g l = record {
  same : g.S.Shelves.holds l.shelves ≡ g.S.Shelves.holds l.fn.shelves;
  faults : g.S.Shelves.faults l.shelves ≡ g.S.Shelves.faults l.fn.shelves;
  count : length l.into ≡ length l.fn.into;
  told : Told (g.S.Shelves.holds l.fn.shelves) (λ files. ReadsOrStops (files l.shelf) (length l.fn.into * 2097152) l.file
      (λ k. nat_le l.fn.run.first k && nat_lt k l.block) l.fn.into l.into None);
}
