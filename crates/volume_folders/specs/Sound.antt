-- What each replica keeps, whatever was done with it.
use Rattle.std.specs.Prelude.{ℕ, ◌+◌, ◌≤◌, length}
use Rattle.vol_units.specs.declared.limits.TheConstants.{MOST_LAYERS}
use Rattle.vol_units.specs.declared.size.TheConstants.{LARGEST_SIZE}
use Rattle.replica_node.specs.Node.{Node, IsKept}
use Rattle.replica_node.specs.Held.{IsChained}
use Rattle.replica_node.specs.Shape.{AreLayers}

-- its layers are few and a tree, its head stands on one or none, and each reads as its own blocks over those of its parent
pub record IsSoundReplica (node : Node) : Type 0 where
  pub few : length node.layers + 1 ≤ MOST_LAYERS
  pub tree : AreLayers node.layers
  pub on : IsKept node node.on
  pub most : length node.disk ≤ LARGEST_SIZE
  pub count : ℕ
  pub chained : IsChained node count
