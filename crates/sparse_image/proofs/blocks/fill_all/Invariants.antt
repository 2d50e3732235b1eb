use Rattle.std.proofs.Common.{◌≡◌, length, take, drop}
use Rattle.sparse_image.specs.Listed.{blocks_of}
use Rattle.sparse_image.proofs.blocks.fill_all.Given as goal

-- the blocks so far are written over, and the others are as they were
abbrev pub invariant-loop-i : goal.invariant-loop-i
invariant-loop-i l = record {
  done : take l.i l.slots ≡ blocks_of l.bytes l.i;
  rest : drop l.i l.slots ≡ drop l.i l.fn.slots;
  count : length l.slots ≡ length l.fn.slots;
}
