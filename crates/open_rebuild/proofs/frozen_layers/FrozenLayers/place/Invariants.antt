use Rattle.std.proofs.Common.{◌≢◌, ℕ, ◌<◌, [], get_or}
use Rattle.open_rebuild.proofs.frozen_layers.FrozenLayers.place.Given as goal

abbrev pub invariant-loop-place : goal.invariant-loop-place
invariant-loop-place l = (k : ℕ) → k < l.place → get_or l.self k [] ≢ l.name
