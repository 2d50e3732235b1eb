use Rattle.std.proofs.Common.{◌≡◌, drop}
use Rattle.volume_model.specs.Snapshots.{is_live}
use Rattle.plain_disk.proofs.snapshots.is_live.Given as goal

abbrev pub invariant-loop-snapshot : goal.invariant-loop-snapshot
invariant-loop-snapshot l = is_live (drop l.snapshot-index l.snapshots) l.name ≡ is_live l.snapshots l.name
