use Rattle.std.proofs.Common.{◌≡◌, ◌-◌, ◌≤◌, length, take}
use Rattle.vol_units.specs.Bytes.{bytes_at}
use Rattle.replica_node.specs.Node.{disk_of_layer}
use Rattle.replica_node.proofs.node.ReplicaNode.read_bytes.Given as goal

-- the front has been read
abbrev pub invariant-loop-done : goal.invariant-loop-done
invariant-loop-done l = record {
  read : take l.done l.into ≡ bytes_at (disk_of_layer l.fn.self l.layer) l.at l.done;
  within : l.done ≤ length l.into;
  len : length l.into ≡ length l.fn.into;
  same : l.self ≡ l.fn.self;
}

abbrev pub decreases-loop-done : goal.decreases-loop-done
decreases-loop-done l = length l.into - l.done
