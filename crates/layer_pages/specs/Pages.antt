-- The pages of which the layers above a base have blocks, and what all other pages of the copy read as.
use Rattle.std.specs.Prelude.{◌≡◌, ◌≢◌, ℕ, ◌*◌, ◌<◌, List, length, slice_index, Option, None, Some, All, Any}
use Rattle.vol_units.specs.Bytes.{zeros, bytes_at}
use Rattle.vol_units.specs.declared.size.TheConstants.{PAGE_BYTES}
use Rattle.volume_model.specs.Snapshots.{Snapshot}
use Rattle.replica_node.specs.Node.{Node, disk_named}
use Rattle.replica_node.specs.Fold.{tree_of, HasBlockOf, HasNoBlockOf}
use Rattle.layer_pages.specs.Chains.{chain_above}

-- one of these layers itself has a block of the page
abbrev pub OneHas : Node → List Snapshot → ℕ → Type 0
OneHas node chain page = Any (λ (s : Snapshot). HasBlockOf node s.name page) chain

-- none of them has one
abbrev pub NoneHas : Node → List Snapshot → ℕ → Type 0
NoneHas node chain page = All (λ (s : Snapshot). HasNoBlockOf node s.name page) chain

-- ---- the list

-- the page does not stand in the list
abbrev pub IsNotIn : List ℕ → ℕ → Type 0
IsNotIn pages page = (i : ℕ) → i < length pages → slice_index pages i ≢ page

-- of the pages that begin before that byte, the list has those, rising, of which one of these layers has a block
pub record ArePagesOf (node : Node) (chain : List Snapshot) (end : ℕ) (pages : List ℕ) : Type 0 where
  pub rising : (i j : ℕ) → i < j → j < length pages → slice_index pages i < slice_index pages j
  pub within : (i : ℕ) → i < length pages → slice_index pages i * PAGE_BYTES < end
  pub listed : (i : ℕ) → i < length pages → OneHas node chain (slice_index pages i)
  pub others : (page : ℕ) → page * PAGE_BYTES < end → IsNotIn pages page → NoneHas node chain page

-- the pages of the disk of which a layer has a block that lies above the base, in the chain of the name
abbrev pub ArePagesAbove : Node → List ℕ → Option (List ℕ) → List ℕ → Type 0
ArePagesAbove node name base pages = ArePagesOf node (chain_above (tree_of node) name base) (length node.disk) pages

-- ---- what all others read as

-- what a disk has at a page
abbrev pub page_of : List ℕ → ℕ → List ℕ
page_of disk page = bytes_at disk (page * PAGE_BYTES) PAGE_BYTES

-- the page of the base's copy, and zeros where there is no base
abbrev pub page_below : Node → Option (List ℕ) → ℕ → List ℕ
page_below node None page = zeros PAGE_BYTES
page_below node (Some base) page = page_of (disk_named node.layers base) page

-- a page that is not in the list reads in the copy of the name as in the base's
abbrev pub OthersReadAsBase : Node → List ℕ → Option (List ℕ) → List ℕ → Type 0
OthersReadAsBase node name base pages = (page : ℕ) → page * PAGE_BYTES < length node.disk → IsNotIn pages page
    → page_of (disk_named node.layers name) page ≡ page_below node base page
