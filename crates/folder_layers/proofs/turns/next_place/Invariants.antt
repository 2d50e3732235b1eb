use Rattle.std.proofs.Common.{ℕ, ◌<◌}
use Rattle.folder_layers.specs.Turns.{CanCome}
use Rattle.folder_layers.proofs.turns.next_place.Given as goal

abbrev pub invariant-loop-place : goal.invariant-loop-place
invariant-loop-place l = (place : ℕ) → place < l.place → CanCome l.parents l.done place → ⊥
