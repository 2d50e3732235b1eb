use Rattle.std.proofs.Common.{◌≡◌, true, length}
use Rattle.std.specs.List.{AllWithin}
use Rattle.std.specs.Prelude.{is_some}
use Rattle.sparse_image.proofs.blocks.make_all.Given as goal

-- those before have a box
abbrev pub invariant-loop-i : goal.invariant-loop-i
invariant-loop-i l = record {
  count : length l.slots ≡ length l.initial.slots;
  full : AllWithin (λ b. is_some b ≡ true) l.slots 0 l.i;
}
