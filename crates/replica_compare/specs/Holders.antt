-- Which layers themselves have blocks, in one of two replicas: at the blocks of all others both read as their parents.
use Rattle.std.specs.Prelude.{◌≡◌, ◌⊎◌, ℕ, ◌/◌, ◌<◌, ◌≤◌, Bool, true, false, List, length, slice_index_or, None, Some}
use Rattle.sparse_image.specs.declared.block.TheConstants.{PAGE_BLOCKS}
use Rattle.replica_node.specs.Node.{Node, has_own}
use Rattle.replica_node.specs.Fold.{own_named, is_in}
use Rattle.replica_node.specs.Places.{kept_at}
use Rattle.replica_compare.specs.declared.holders.Holders.{Holders}
use Rattle.replica_compare.specs.Comparing.{ReadsAlikeAt}

-- neither replica's layer of the name itself has the block
abbrev pub NeitherHas : Node → Node → List ℕ → ℕ → Type 0
NeitherHas a b name block =
    (has_own (own_named a.layers name) block ≡ false) × (has_own (own_named b.layers name) block ≡ false)

-- ---- over all layers

-- of the layers at the first places, those that are told to be bare have no block in either replica
pub record AreBare (a b : Node) (count : ℕ) (bare : List Bool) : Type 0 where
  pub room : length a.layers ≤ length bare
  pub each : (place : ℕ) → place < count → slice_index_or bare place false ≡ true
      → (block : ℕ) → NeitherHas a b (kept_at a.layers place).meta.name block

-- the place is one of them
abbrev pub IsHolder : Holders → ℕ → Type 0
IsHolder h place = (i : ℕ) × (i < h.count) × (slice_index_or h.places i 0 ≡ place)

-- They are places of layers. Of the layers at the first places, those that have a block of the page are among them.
pub record AreHolders (a b : Node) (page count : ℕ) (h : Holders) : Type 0 where
  pub few : h.count ≤ count
  pub room : length a.layers ≤ length h.places
  pub within : (i : ℕ) → i < h.count → slice_index_or h.places i 0 < length a.layers
  pub each : (place : ℕ) → place < count → IsHolder h place
      ⊎ ((block : ℕ) → is_in page block ≡ true → NeitherHas a b (kept_at a.layers place).meta.name block)

-- ---- at one block

-- all layers that have a block of its page are among them
abbrev pub AreHoldersAt : Node → Node → ℕ → Holders → Type 0
AreHoldersAt a b block h = AreHolders a b (block / PAGE_BLOCKS) (length a.layers) h

-- the layers of the name read the same at the block, or as their parents
abbrev pub IsSettled : Node → Node → List ℕ → ℕ → Type 0
IsSettled a b name block = ReadsAlikeAt a b (Some name) block ⊎ NeitherHas a b name block

-- the heads read the same at the block, or as the layers on which they stand
abbrev pub AreHeadsSettled : Node → Node → ℕ → Type 0
AreHeadsSettled a b block =
    ReadsAlikeAt a b None block ⊎ ((has_own a.own block ≡ false) × (has_own b.own block ≡ false))
