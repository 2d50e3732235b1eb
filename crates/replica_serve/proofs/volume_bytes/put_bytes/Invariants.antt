use Rattle.std.proofs.Common.{◌≡◌, ◌-◌, ◌≤◌, length, take}
use Rattle.vol_units.specs.Bytes.{with_bytes_at}
use Rattle.replica_serve.proofs.volume_bytes.put_bytes.Given as goal

abbrev pub invariant-loop-done : goal.invariant-loop-done
invariant-loop-done l = record {
  within : l.done ≤ length l.bytes;
  long : length l.node.disk ≡ length l.fn.node.disk;
  put : l.node.disk ≡ with_bytes_at l.fn.node.disk l.at (take l.done l.bytes);
}

abbrev pub decreases-loop-done : goal.decreases-loop-done
decreases-loop-done l = length l.bytes - l.done
