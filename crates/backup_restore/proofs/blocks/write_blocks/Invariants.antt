use Rattle.std.proofs.Common.{◌≡◌, ◌<◌, ℕ, true, take}
use Rattle.std.specs.Io.KnownBytes.{Appends}
use Rattle.backup_units.specs.Backups.{IsWhole, listed_at, disk_of}
use Rattle.backup_restore.proofs.blocks.write_blocks.Given as goal

abbrev pub invariant-loop-page : goal.invariant-loop-page
invariant-loop-page g l = record {
  whole : g.T.Target.tells ≡ true → (k : ℕ) → k < l.page-index
      → IsWhole (g.T.Target.holds l.initial.target) l.volume (listed_at l.listed k);
  written : g.T.Target.tells ≡ true
      → Appends (g.K.Sink.contents l.initial.sink) (g.K.Sink.contents l.sink)
      (disk_of (g.T.Target.holds l.initial.target) l.volume (take l.page-index l.listed));
  same : g.T.Target.holds l.target ≡ g.T.Target.holds l.initial.target;
  faults : g.T.Target.faults l.target ≡ g.T.Target.faults l.initial.target;
  write_faults : g.K.Sink.faults l.sink ≡ g.K.Sink.faults l.initial.sink;
}
