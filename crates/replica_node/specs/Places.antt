-- The layers of a replica by their places, the newest at 0, and the head, which has none; and what a replica has that
-- is built of a tree.
use Rattle.std.specs.Prelude.{◌≡◌, ℕ, ◌<◌, Bool, false, List, [], length, Option, None, Some, slice_index_or}
use Rattle.sparse_image.specs.Image.{Tables, block_at}
use Rattle.layer_chain.specs.Changes.{metas_in}
use Rattle.layer_chain.specs.Tree.{Tree, layer_at}
use Rattle.replica_node.specs.Node.{Kept, Node}
use Rattle.replica_node.specs.Held.{own_block, metas_of}

-- the layer at a place
abbrev pub kept_at : List Kept → ℕ → Kept
kept_at ks place = slice_index_or ks place (record {
  meta = record { name = []; parent = None; marked = false; user_created = false; created = None };
  disk = [];
  own = [];
})

-- there is such a layer, where a place is given
abbrev pub IsPlace : Node → Option ℕ → Type 0
IsPlace node None = Unit {0}
IsPlace node (Some place) = place < length node.layers

-- what the layer at a place, or the head where none is given, reads as
abbrev pub disk_at : Node → Option ℕ → List ℕ
disk_at node None = node.disk
disk_at node (Some place) = (kept_at node.layers place).disk

-- of each block whether it has that itself
abbrev pub own_at : Node → Option ℕ → List Bool
own_at node None = node.own
own_at node (Some place) = (kept_at node.layers place).own

-- the block that it itself has, or none
abbrev pub block_of_place : Node → Option ℕ → ℕ → Option (List ℕ)
block_of_place node place block = own_block (disk_at node place) (own_at node place) block

-- ---- the same of a tree

-- the blocks of the layer at a place, or of the head where none is given
abbrev pub image_of_place : Tree → Option ℕ → Tables
image_of_place t None = t.head
image_of_place t (Some place) = (layer_at t.layers place).image

-- The replica has the layers of the tree, told alike, and its head, of that number on that layer. Each of them itself
-- has just the blocks of its image. What is read follows from that, as of each replica.
pub record IsBuiltOf (t : Tree) (size : ℕ) (node : Node) : Type 0 where
  pub metas : metas_of node ≡ metas_in t.layers
  pub own : (place : Option ℕ) (block : ℕ) → IsPlace node place
      → block_of_place node place block ≡ block_at (image_of_place t place) block
  pub on : node.on ≡ t.on
  pub number : node.number ≡ t.number
  pub disk : length node.disk ≡ size
