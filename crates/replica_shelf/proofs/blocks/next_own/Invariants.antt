use Rattle.std.proofs.Common.{◌≡◌, ℕ, ◌<◌, ◌≤◌, ◌-◌, false}
use Rattle.replica_node.specs.Node.{has_own}
use Rattle.replica_node.specs.Places.{own_at}
use Rattle.replica_shelf.proofs.blocks.next_own.Given as goal

abbrev pub invariant-loop-block : goal.invariant-loop-block
invariant-loop-block l = record {
  least : l.from ≤ l.block;
  none : (k : ℕ) → l.from ≤ k → k < l.block → has_own (own_at l.node l.place) k ≡ false;
}

abbrev pub decreases-loop-block : goal.decreases-loop-block
decreases-loop-block l = l.count - l.block
