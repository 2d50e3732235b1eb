-- What is claimed of a replica while it is rebuilt from its source, and what promotes it, as Longhorn's documentation
-- of rebuilding tells it. Where a call on the whole volume has started, both are taken in due form. Layers are told by
-- their names, and blocks are those that a layer itself has: of a page that is not copied yet nothing is claimed, and
-- what is read above it says nothing either.
use Rattle.std.specs.Prelude.{◌≡◌, ◌⊎◌, ℕ, ◌+◌, ◌-◌, ◌*◌, ◌/◌, ◌<◌, ◌≤◌, Bool, true, List, Contains, Some}
use Rattle.vol_units.specs.Bytes.{bytes_at}
use Rattle.sparse_image.specs.declared.block.TheConstants.{BLOCK_BYTES, PAGE_BLOCKS}
use Rattle.volume_model.specs.Names.{NamesOnce}
use Rattle.range_turns.specs.declared.ticket.Ticket.{Ticket}
use Rattle.open_calls.specs.Clients.{IsUnheld}
use Rattle.replica_node.specs.Node.{Node, disk_named}
use Rattle.replica_node.specs.Room.{head_block}
use Rattle.replica_node.specs.Fold.{tree_of, snapshots_of}
use Rattle.replica_node.specs.Held.{block_named, block_of, IsChained}

-- ---- the claim

-- The two replicas have the same snapshots and head number. The frozen layers are those that the barrier left. Of these
-- the rebuilt one has just the source's blocks in each page that is listed; of other pages nothing is said. Each newer
-- layer has just the source's blocks, and so has the head where no started write holds the block.
pub record IsRebuilt (frozen : List (List ℕ)) (is_listed : List ℕ → ℕ → Bool) (Free : ℕ → Type 0) (source target : Node)
    : Type 0 where
  pub alike : snapshots_of target ≡ snapshots_of source
  pub listed : (name : List ℕ) (block : ℕ) → Contains frozen name → is_listed name (block / PAGE_BLOCKS) ≡ true
      → block_named target.layers name block ≡ block_named source.layers name block
  pub newer : (name : List ℕ) (block : ℕ) → (Contains frozen name → ⊥)
      → block_named target.layers name block ≡ block_named source.layers name block
  pub head : (block : ℕ) → Free block → head_block target block ≡ head_block source block

-- no started write holds the block
abbrev pub IsFreeBlock : List Ticket → ℕ → Type 0
IsFreeBlock tickets block = IsUnheld tickets (block * BLOCK_BYTES)

-- ---- what is listed

-- no page is
abbrev pub HasNoPage : (List ℕ → ℕ → Bool) → Type 0
HasNoPage is_listed = (name : List ℕ) (page : ℕ) → is_listed name page ≡ true → ⊥

-- that page of the layer of the name is, and none but that and those that were
abbrev pub ListsPage : (List ℕ → ℕ → Bool) → (List ℕ → ℕ → Bool) → List ℕ → ℕ → Type 0
ListsPage old new name page =
    (other : List ℕ) (p : ℕ) → new other p ≡ true → (old other p ≡ true) ⊎ ((other ≡ name) × (p ≡ page))

-- each page of each frozen layer is
abbrev pub IsAllCopied : ℕ → List (List ℕ) → (List ℕ → ℕ → Bool) → Type 0
IsAllCopied count frozen is_listed =
    (name : List ℕ) (block : ℕ) → Contains frozen name → block < count → is_listed name (block / PAGE_BLOCKS) ≡ true

-- ---- writes

-- the head has these bytes, whole blocks, from the first block on
abbrev pub HasPut : Node → ℕ → ℕ → List ℕ → Type 0
HasPut node first blocks bytes = (block : ℕ) → first ≤ block → block < first + blocks
    → head_block node block ≡ Some (bytes_at bytes ((block - first) * BLOCK_BYTES) BLOCK_BYTES)

-- ---- promotion

-- a replica of so many blocks: its own blocks make its readings, and no name comes twice
pub record IsReplica (node : Node) (count : ℕ) : Type 0 where
  pub chained : IsChained node count
  pub once : NamesOnce (tree_of node)

-- each layer reads as the source's, and so does the head where no started write holds the block
pub record ReadsAs (count : ℕ) (Free : ℕ → Type 0) (source target : Node) : Type 0 where
  pub layers : (name : List ℕ) (block : ℕ) → block < count
      → block_of (disk_named target.layers name) block ≡ block_of (disk_named source.layers name) block
  pub head : (block : ℕ) → block < count → Free block → block_of target.disk block ≡ block_of source.disk block
