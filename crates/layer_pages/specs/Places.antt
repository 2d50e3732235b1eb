-- The layers of a chain by their places, which are looked up once for all pages.
use Rattle.std.specs.Prelude.{◌≡◌, ℕ, ◌<◌, List, length, map, slice_index, Option, Some}
use Rattle.volume_model.specs.Snapshots.{Snapshot}
use Rattle.coalesce.specs.Folding.{snapshot_of}
use Rattle.replica_node.specs.Node.{Node, Kept}
use Rattle.replica_node.specs.Fold.{tree_of, HasOwnOf, HasNoOwnOf}
use Rattle.replica_node.specs.Places.{kept_at, own_at}
use Rattle.layer_pages.specs.Chains.{chain_above}

-- the layer at a place, as a snapshot
abbrev pub snapshot_at : List Kept → ℕ → Snapshot
snapshot_at ks place = snapshot_of (kept_at ks place).meta

-- there is a layer at each of them
abbrev pub ArePlaces : Node → List ℕ → Type 0
ArePlaces node places = (i : ℕ) → i < length places → slice_index places i < length node.layers

-- the layers at these places are those of the chain of the name above the base
pub record ArePlacesAbove (node : Node) (name : List ℕ) (base : Option (List ℕ)) (places : List ℕ) : Type 0 where
  pub within : ArePlaces node places
  pub chain : map (snapshot_at node.layers) places ≡ chain_above (tree_of node) name base

-- the layer at one of them itself has a block of the page
abbrev pub OneHasAt : Node → List ℕ → ℕ → Type 0
OneHasAt node places page = (i : ℕ) × (i < length places) × HasOwnOf (own_at node (Some (slice_index places i))) page

-- none of them has one
abbrev pub NoneHasAt : Node → List ℕ → ℕ → Type 0
NoneHasAt node places page = (i : ℕ) → i < length places → HasNoOwnOf (own_at node (Some (slice_index places i))) page
