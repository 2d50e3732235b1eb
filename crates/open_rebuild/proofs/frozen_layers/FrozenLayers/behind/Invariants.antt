use Rattle.std.proofs.Common.{ℕ, ◌≤◌, List, length, take, ◌↔◌}
use Rattle.std.specs.Prelude.{Contains}
use Rattle.open_rebuild.specs.Frozen.{IsInByteOrder}
use Rattle.open_rebuild.proofs.frozen_layers.FrozenLayers.behind.Given as goal

-- the names of the layers before stand in order
abbrev pub invariant-loop-layer : goal.invariant-loop-layer
invariant-loop-layer l =
    IsInByteOrder l.names.items × (length l.names.items ≤ l.layer-index)
    × ((name : List ℕ) → Contains l.names.items name ↔ Contains (take l.layer-index l.layers) name)
