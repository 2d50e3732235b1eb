-- The blocks that each layer of a replica itself has, how they make its readings, and what a page of blocks makes of
-- the replica.
use Rattle.std.specs.Prelude.{◌≡◌, ℕ, ◌+◌, ◌*◌, ◌%◌, ◌<◌, Bool, false, ◌&&◌, List, [], ◌∷◌, length, map, replicate}
use Rattle.std.specs.Prelude.{Option, Some, None, if◌then◌else◌}
use Rattle.std.specs.Str.{bytes_eq}
use Rattle.vol_units.specs.Bytes.{zeros, bytes_at}
use Rattle.vol_units.specs.declared.size.TheConstants.{BLOCK_BYTES}
use Rattle.sparse_image.specs.declared.block.TheConstants.{PAGE_BLOCKS}
use Rattle.sparse_image.specs.Image.{Table, place_at}
use Rattle.layer_chain.specs.declared.layer.LayerMeta.{LayerMeta}
use Rattle.replica_node.specs.Node.{Kept, Node, has_own, disk_named, no_room, no_own}
use Rattle.replica_node.specs.Room.{head_block}
use Rattle.replica_node.specs.Fold.{is_in}

-- what a disk has at a block
abbrev pub block_of : List ℕ → ℕ → List ℕ
block_of disk block = bytes_at disk (block * BLOCK_BYTES) BLOCK_BYTES

-- the block that what reads as the disk itself has, or none
abbrev pub own_block : List ℕ → List Bool → ℕ → Option (List ℕ)
own_block disk own block = if has_own own block then Some (block_of disk block) else None

-- the block that the layer of the name itself has, or none, of the first that has the name
abbrev pub block_named : List Kept → List ℕ → ℕ → Option (List ℕ)
block_named [] name block = None
block_named (k ∷ ks) name block =
    if bytes_eq name k.meta.name then own_block k.disk k.own block else block_named ks name block

-- what is told of each layer
abbrev pub metas_of : Node → List LayerMeta
metas_of node = map (λ k. k.meta) node.layers

-- ---- how own blocks make readings

-- what the named layer reads as at a block, and zeros where none is named
abbrev pub read_below : List Kept → Option (List ℕ) → ℕ → List ℕ
read_below ks None block = zeros BLOCK_BYTES
read_below ks (Some name) block = block_of (disk_named ks name) block

-- a disk of so many blocks reads where it has none itself as what it stands on
pub record IsOver (disk : List ℕ) (own : List Bool) (ks : List Kept) (on : Option (List ℕ)) (count : ℕ) : Type 0 where
  pub size : length disk ≡ count * BLOCK_BYTES
  pub blocks : length own ≡ count
  pub below : (block : ℕ) → block < count → has_own own block ≡ false → block_of disk block ≡ read_below ks on block

abbrev pub AreChained : List Kept → ℕ → Type 0
AreChained [] count = Unit {0}
AreChained (k ∷ ks) count = IsOver k.disk k.own ks k.meta.parent count × AreChained ks count

-- each layer, and the head, reads as its own blocks over those of its parent
pub record IsChained (node : Node) (count : ℕ) : Type 0 where
  pub layers : AreChained node.layers count
  pub head : IsOver node.disk node.own node.layers node.on count

-- ---- a page of blocks

-- the page has the blocks that the layer of the name itself has there
abbrev pub IsPageOf : Node → List ℕ → ℕ → Table → Type 0
IsPageOf node name page table =
    (i : ℕ) → i < PAGE_BLOCKS → place_at table i ≡ block_named node.layers name (page * PAGE_BLOCKS + i)

-- the block that the layer `other` has, once that of the name has these in the page
abbrev pub put_block : List Kept → List ℕ → ℕ → Table → List ℕ → ℕ → Option (List ℕ)
put_block ks name page table other block =
    if bytes_eq other name && is_in page block then place_at table (block % PAGE_BLOCKS) else block_named ks other block

-- The layer of the name has these blocks in the page. All else that layers and the head themselves have stays, and so
-- does all that is told of them. What is read follows from that, as of each replica.
pub record PutsPage (old new : Node) (name : List ℕ) (page : ℕ) (table : Table) : Type 0 where
  pub layers : (other : List ℕ) (block : ℕ)
      → block_named new.layers other block ≡ put_block old.layers name page table other block
  pub head : (block : ℕ) → head_block new block ≡ head_block old block
  pub metas : metas_of new ≡ metas_of old
  pub size : length new.disk ≡ length old.disk
  pub on : new.on ≡ old.on
  pub number : new.number ≡ old.number
  pub room : new.room ≡ old.room
  pub own : new.own ≡ old.own

-- ---- a replica that is to be rebuilt

-- the layer without a block
abbrev pub emptied_layer : Kept → Kept
emptied_layer k = record { meta = k.meta; disk = zeros (length k.disk); own = replicate (length k.own) false }

-- the same layers and head without a block
abbrev pub emptied : Node → Node
emptied node = record {
  layers = map emptied_layer node.layers;
  on = node.on;
  number = node.number;
  disk = zeros (length node.disk);
  room = no_room node;
  own = no_own node;
}
