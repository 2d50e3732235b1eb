use Rattle.std.proofs.Common.{◌≢◌, ℕ, ◌<◌}
use Rattle.replica_node.specs.Places.{kept_at}
use Rattle.replica_compare.proofs.twins.place_of.Given as goal

abbrev pub invariant-loop-place : goal.invariant-loop-place
invariant-loop-place l = (place : ℕ) → place < l.place → (kept_at l.node.layers place).meta.name ≢ l.name
