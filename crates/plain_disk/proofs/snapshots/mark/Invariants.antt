use Rattle.std.proofs.Common.{◌≡◌, ◌++◌, map, take, drop}
use Rattle.volume_model.specs.Snapshots.{marked_if}
use Rattle.plain_disk.proofs.snapshots.mark.Given as goal

abbrev pub invariant-loop-snapshot : goal.invariant-loop-snapshot
invariant-loop-snapshot l =
    l.snapshots ≡ map (marked_if l.name) (take l.snapshot-index l.initial.snapshots) ++ drop l.snapshot-index l.initial.snapshots
