use Rattle.std.proofs.Common.{◌≡◌, drop}
use Rattle.volume_model.specs.Purge.{parent_in}
use Rattle.plain_disk.proofs.snapshots.parent_of.Given as goal

abbrev pub invariant-loop-snapshot : goal.invariant-loop-snapshot
invariant-loop-snapshot l = parent_in l.name (drop l.snapshot-index l.snapshots) ≡ parent_in l.name l.snapshots
