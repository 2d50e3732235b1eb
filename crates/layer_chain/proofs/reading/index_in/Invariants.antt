use Rattle.std.proofs.Common.{◌≢◌, ℕ, ◌<◌}
use Rattle.layer_chain.specs.Tree.{name_of, layer_at}
use Rattle.layer_chain.proofs.reading.index_in.Given as goal

abbrev pub invariant-loop-place : goal.invariant-loop-place
invariant-loop-place l = (i : ℕ) → i < l.place → name_of (layer_at l.layers i) ≢ l.name
