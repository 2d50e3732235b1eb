use Rattle.std.proofs.Common.{◌≡◌, true, length}
use Rattle.std.specs.Prelude.{All, is_some}
use Rattle.sparse_image.proofs.blocks.Blocks.make_full.Given as goal

abbrev pub invariant-loop-i : goal.invariant-loop-i
invariant-loop-i l = record { count : length l.self ≡ l._i; full : All (λ b. is_some b ≡ true) l.self }
