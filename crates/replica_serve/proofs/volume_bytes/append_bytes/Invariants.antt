use Rattle.std.proofs.Common.{◌≡◌, ◌-◌, ◌≤◌, ◌++◌}
use Rattle.vol_units.specs.Bytes.{bytes_at}
use Rattle.replica_serve.proofs.volume_bytes.append_bytes.Given as goal

abbrev pub invariant-loop-done : goal.invariant-loop-done
invariant-loop-done l = record {
  within : l.done ≤ l.count;
  read : l.into.items ≡ l.fn.into.items ++ bytes_at l.node.disk l.at l.done;
}

abbrev pub decreases-loop-done : goal.decreases-loop-done
decreases-loop-done l = l.count - l.done
