use Rattle.std.proofs.Common.{◌≡◌, ◌++◌, take, drop}
use Rattle.volume_model.specs.Purge.{dropped}
use Rattle.plain_disk.proofs.snapshots.take_out.Given as goal

abbrev pub invariant-loop-place : goal.invariant-loop-place
invariant-loop-place l =
    (l.snapshots ≡ l.fn.snapshots)
    × (take l.place l.snapshots.items ++ dropped l.name (drop l.place l.snapshots.items) ≡ dropped l.name l.snapshots.items)
