use Rattle.std.proofs.Common.{◌≡◌, ◌++◌, take, drop}
use Rattle.volume_model.specs.Purge.{given}
use Rattle.plain_disk.proofs.snapshots.give_parent.Given as goal

abbrev pub invariant-loop-snapshot : goal.invariant-loop-snapshot
invariant-loop-snapshot l =
    l.snapshots ≡ given l.name l.parent (take l.snapshot-index l.initial.snapshots) ++ drop l.snapshot-index l.initial.snapshots
