-- Two replicas that are alike in shape, block by block: which layers read otherwise at one, and the first reading so far that
-- differs.
use Rattle.std.specs.Prelude.{◌≡◌, ◌≢◌, ◌↔◌, ℕ, ◌*◌, ◌<◌, ◌≤◌, Bool, true, false, List, length, Option, Some, None}
use Rattle.std.specs.Prelude.{slice_index_or, IsTrue}
use Rattle.vol_units.specs.declared.size.TheConstants.{BLOCK_BYTES}
use Rattle.volume_model.specs.Names.{NamesOnce}
use Rattle.replica_node.specs.Node.{Node, Kept, IsKept}
use Rattle.replica_node.specs.Fold.{tree_of}
use Rattle.replica_node.specs.Held.{IsChained}
use Rattle.replica_node.specs.Places.{kept_at}
use Rattle.replica_compare.specs.declared.twins.Twin.{Twin}
use Rattle.replica_compare.specs.Comparing.{IsAlikeInShape, ReadsAlikeAt, ReadsOtherwise, layer_before}

-- they are alike in shape, no name comes twice, and each reads as its own blocks over those of its parents
pub record IsPair (a b : Node) : Type 0 where
  pub shape : IsAlikeInShape a b
  pub once : NamesOnce (tree_of a)
  pub once_other : NamesOnce (tree_of b)
  pub count : ℕ
  pub size : count * BLOCK_BYTES ≡ length a.disk
  pub chained : IsChained a count
  pub chained_other : IsChained b count

-- ---- where layers stand

-- the parent of the layer at a place stands there, further on; or none that stands further on is its parent
abbrev pub IsParentAt : List Kept → ℕ → Option ℕ → Type 0
IsParentAt ks place None =
    (older : ℕ) → place < older → older < length ks → (kept_at ks place).meta.parent ≢ Some (kept_at ks older).meta.name
IsParentAt ks place (Some older) =
    (place < older) × (older < length ks) × ((kept_at ks place).meta.parent ≡ Some (kept_at ks older).meta.name)

-- the layer of that name stands there in the other, and its parent there in its own
pub record IsTwin (a b : Node) (place : ℕ) (twin : Twin) : Type 0 where
  pub within : twin.other < length b.layers
  pub name : (kept_at b.layers twin.other).meta.name ≡ (kept_at a.layers place).meta.name
  pub parent : IsParentAt a.layers place twin.parent

-- they are told of the layers at the first places
pub record AreTwins (a b : Node) (count : ℕ) (twins : List Twin) : Type 0 where
  pub room : length a.layers ≤ length twins
  pub each : (place : ℕ) → place < count → IsTwin a b place (slice_index_or twins place (record { other = 0; parent = None }))

-- ---- one block

-- a layer of the name is there, and those of the name read otherwise at the block
abbrev pub DiffersAt : Node → Node → ℕ → List ℕ → Type 0
DiffersAt a b block name = IsKept a (Some name) × (ReadsAlikeAt a b (Some name) block → ⊥)

-- of each layer from that place on, which are the older ones, it is told whether it reads otherwise at the block
pub record TellsFrom (a b : Node) (block start : ℕ) (differs : List Bool) : Type 0 where
  pub room : length a.layers ≤ length differs
  pub each : (place : ℕ) → start ≤ place → place < length a.layers
      → IsTrue (slice_index_or differs place false) ↔ DiffersAt a b block (kept_at a.layers place).meta.name

-- what is told of a place; of none, nothing
abbrev pub told_of : List Bool → Option ℕ → Bool
told_of differs None = false
told_of differs (Some place) = slice_index_or differs place false

-- each layer and the head read the same at the block
abbrev pub AllAlikeAt : Node → Node → ℕ → Type 0
AllAlikeAt a b block = (layer : Option (List ℕ)) → IsKept a layer → ReadsAlikeAt a b layer block

-- the layer, or the head where none is named, is the first that reads otherwise at the block
pub record IsFirstAt (a b : Node) (block : ℕ) (layer : Option (List ℕ)) : Type 0 where
  pub kept : IsKept a layer
  pub differs : ReadsAlikeAt a b layer block → ⊥
  pub first : (other : Option (List ℕ)) → layer_before other layer ≡ true → IsKept a other → ReadsAlikeAt a b other block

-- ---- all blocks so far

-- the layer, or the head where none is named, comes before the one that was found, and before none
abbrev pub stands_before : Option (List ℕ) → Option (Option (List ℕ) × ℕ) → Bool
stands_before layer None = true
stands_before layer (Some found) = layer_before layer found.0

-- of the readings of the first blocks, that layer and block is the first that differs
pub record IsFirstBelow (a b : Node) (count : ℕ) (best : Option (Option (List ℕ) × ℕ)) : Type 0 where
  pub found : (layer : Option (List ℕ)) (block : ℕ) → best ≡ Some (layer, block) → IsKept a layer × ReadsOtherwise a b layer block
  pub first : (other : Option (List ℕ)) → stands_before other best ≡ true → IsKept a other
      → (block : ℕ) → block < count → ReadsAlikeAt a b other block
