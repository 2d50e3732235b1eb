use Rattle.std.proofs.Common.{◌≡◌, ◌-◌, ◌≤◌, ◌++◌}
use Rattle.vol_units.specs.Bytes.{bytes_at}
use Rattle.replica_node.proofs.node.ReplicaNode.append_bytes.Given as goal

-- the front is there
abbrev pub invariant-loop-done : goal.invariant-loop-done
invariant-loop-done l = record {
  read : l.into.items ≡ l.fn.into.items ++ bytes_at l.fn.self.disk l.at l.done;
  within : l.done ≤ l.count;
  same : l.self ≡ l.fn.self;
}

abbrev pub decreases-loop-done : goal.decreases-loop-done
decreases-loop-done l = l.count - l.done
