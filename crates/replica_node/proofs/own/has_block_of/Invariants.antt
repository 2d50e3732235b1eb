use Rattle.std.proofs.Common.{◌≡◌, ℕ, ◌≤◌, ◌<◌, false, is_some}
use Rattle.sparse_image.specs.Image.{block_at}
use Rattle.replica_node.proofs.own.has_block_of.Given as goal

-- none of the blocks before is there
abbrev pub invariant-loop-block : goal.invariant-loop-block
invariant-loop-block l = (k : ℕ) → l.first ≤ k → k < l.block → is_some (block_at l.image k) ≡ false
