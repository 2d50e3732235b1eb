use Rattle.std.proofs.Common.{◌≡◌, ◌+◌, length, take, drop}
use Rattle.sparse_image.specs.Image.{block_at}
use Rattle.sparse_image.specs.Listed.{listed}
use Rattle.replica_node.specs.Room.{PutsBlocks}
use Rattle.replica_node.proofs.swap.swap_all.Given as goal

-- the blocks so far are put, those that they replaced are in their slots, and the others wait
abbrev pub invariant-loop-i : goal.invariant-loop-i
invariant-loop-i l = record {
  puts : PutsBlocks l.fn.tree l.tree l.first (take l.i l.fn.slots);
  back : take l.i l.slots ≡ listed (λ k. block_at l.fn.tree.head (l.first + k)) l.i;
  rest : drop l.i l.slots ≡ drop l.i l.fn.slots;
  count : length l.slots ≡ length l.fn.slots;
}
