-- One replica as those above it see it: what its head and each of its layers read as.
use Rattle.std.specs.Prelude.{◌≡◌, ℕ, ◌+◌, ◌*◌, ◌/◌, Bool, true, false, List, [], ◌∷◌, length, map}
use Rattle.std.specs.Prelude.{replicate, Option, Some, None, is_some, if◌then◌else◌, Contains, All, ◌≢◌}
use Rattle.std.specs.Prelude.{slice_index_or}
use Rattle.std.specs.Str.{bytes_eq}
use Rattle.vol_units.specs.Bytes.{zeros}
use Rattle.vol_units.specs.declared.size.TheConstants.{BLOCK_BYTES}
use Rattle.sparse_image.specs.declared.block.TheConstants.{PAGE_BLOCKS}
use Rattle.sparse_image.specs.Image.{Tables, IsEmpty, block_at, has_page}
use Rattle.sparse_image.specs.Disk.{bytes_of, joined}
use Rattle.sparse_image.specs.Listed.{listed}
use Rattle.layer_chain.specs.declared.layer.LayerMeta.{LayerMeta}
use Rattle.layer_chain.specs.declared.layer.Layer.{Layer}
use Rattle.snapshot_ops.specs.Ops.{fresh}
use Rattle.layer_chain.specs.Tree.{Tree, name_of, reads, head_reads}

-- a layer, the disk that it reads as, and of each block whether the layer itself has it
pub record Kept : Type 0 where
  pub meta : LayerMeta
  pub disk : List ℕ
  pub own : List Bool

-- The layers, the newest first, the one on which the head stands, if there is one, the head's number, the disk that
-- the head reads as, of each block whether a write finds its place made, and whether the head itself has it.
pub record Node : Type 0 where
  pub layers : List Kept
  pub on : Option (List ℕ)
  pub number : ℕ
  pub disk : List ℕ
  pub room : List Bool
  pub own : List Bool

-- whether a block is one of those that are told to be there
abbrev pub has_own : List Bool → ℕ → Bool
has_own own block = slice_index_or own block false

-- ---- how a tree is a replica of so many blocks

-- the disk that the named layer reads as
abbrev pub disk_in : List Layer → ℕ → List ℕ → List ℕ
disk_in layers count name = joined (λ block. bytes_of (reads layers (Some name) block)) count

-- the disk that the head reads as
abbrev pub head_disk : Tree → ℕ → List ℕ
head_disk t count = joined (λ block. bytes_of (head_reads t block)) count

-- the block that a layer, or the head where none is named, reads as; None is zeros
abbrev pub block_in : Tree → Option (List ℕ) → ℕ → Option (List ℕ)
block_in t None block = head_reads t block
block_in t (Some name) block = reads t.layers (Some name) block

-- of each block whether the image has it
abbrev pub own_in : Tables → ℕ → List Bool
own_in image count = listed (λ block. is_some (block_at image block)) count

-- of each block whether the page of its place is made
abbrev pub made_in : Tables → ℕ → List Bool
made_in image count = listed (λ block. has_page image (block / PAGE_BLOCKS)) count

-- a layer as it is kept
abbrev pub kept_in : List Layer → ℕ → Layer → Kept
kept_in layers count l = record {
  meta = l.meta;
  disk = disk_in layers count (name_of l);
  own = own_in l.image count;
}

-- the replica that the tree is
abbrev pub node_of : Tree → ℕ → Node
node_of t count = record {
  layers = map (kept_in t.layers count) t.layers;
  on = t.on;
  number = t.number;
  disk = head_disk t count;
  room = made_in t.head count;
  own = own_in t.head count;
}

-- each block of the image is in a page that is made
abbrev pub IsInPages : Tables → Type 0
IsInPages image = (block : ℕ) → has_page image (block / PAGE_BLOCKS) ≡ false → block_at image block ≡ None

-- the image has a place for each page of so many blocks, and each block of its own is in a page that is made
pub record IsImageOf (count : ℕ) (image : Tables) : Type 0 where
  pub pages : length image * PAGE_BLOCKS ≡ count
  pub made : IsInPages image

-- the layer has a place for each page of so many blocks
abbrev pub HasPlaces : ℕ → Layer → Type 0
HasPlaces count l = length l.image * PAGE_BLOCKS ≡ count

-- the head and each layer have
pub record IsOfSize (t : Tree) (count : ℕ) : Type 0 where
  pub head : length t.head * PAGE_BLOCKS ≡ count
  pub layers : All (HasPlaces count) t.layers

-- the head and each layer are images of so many blocks, and each block that is read has all its bytes
pub record IsNode (t : Tree) (count : ℕ) : Type 0 where
  pub pages : length t.head * PAGE_BLOCKS ≡ count
  pub made : IsInPages t.head
  pub images : All (λ (l : Layer). IsImageOf count l.image) t.layers
  pub layers : (name : Option (List ℕ)) (block : ℕ)
      → length (bytes_of (reads t.layers name block)) ≡ BLOCK_BYTES
  pub head : (block : ℕ) → length (bytes_of (head_reads t block)) ≡ BLOCK_BYTES

-- ---- what is asked of a replica

-- the names of the layers
abbrev pub layer_names : List Kept → List (List ℕ)
layer_names layers = map (λ k. k.meta.name) layers

-- the disk kept under the name, of the first layer that has it
abbrev pub disk_named : List Kept → List ℕ → List ℕ
disk_named [] name = []
disk_named (k ∷ ks) name = if bytes_eq name k.meta.name then k.disk else disk_named ks name

-- the disk that the named layer reads as, and where none is named that of the head
abbrev pub disk_of_layer : Node → Option (List ℕ) → List ℕ
disk_of_layer node None = node.disk
disk_of_layer node (Some name) = disk_named node.layers name

-- the layer is there, if one is named
abbrev pub IsKept : Node → Option (List ℕ) → Type 0
IsKept node None = Unit {0}
IsKept node (Some name) = Contains (layer_names node.layers) name

-- the image has a place for each page of the replica, and none is made
abbrev pub IsSpareOf : Node → Tables → Type 0
IsSpareOf node spare = (length spare * PAGE_BLOCKS ≡ length node.room) × IsEmpty spare (length spare)

-- no layer has the name
abbrev pub IsFree : Node → List ℕ → Type 0
IsFree node name = All (λ (k : Kept). k.meta.name ≢ name) node.layers

-- ---- what a change makes of a replica

-- no layer, and a head of zeros on none
abbrev pub blank : ℕ → Node
blank size = record {
  layers = [];
  on = None;
  number = 0;
  disk = zeros size;
  room = replicate (size / BLOCK_BYTES) false;
  own = replicate (size / BLOCK_BYTES) false;
}

-- no place is made
abbrev pub no_room : Node → List Bool
no_room node = replicate (length node.room) false

-- the head itself has no block
abbrev pub no_own : Node → List Bool
no_own node = replicate (length node.own) false

-- the head's disk and blocks are kept under the name, and a new head stands on them
abbrev pub snapped_node : Node → List ℕ → Node
snapped_node node name = record node {
  layers = record { meta = fresh name node.on; disk = node.disk; own = node.own } ∷ node.layers;
  on = Some name;
  number = node.number + 1;
  room = no_room node;
  own = no_own node;
}

-- the head is dropped, and a new one stands on the layer of the name, and reads as it
abbrev pub reverted_node : Node → List ℕ → Node
reverted_node node name = record node {
  on = Some name;
  number = node.number + 1;
  disk = disk_named node.layers name;
  room = no_room node;
  own = no_own node;
}

-- the layers of the name, which is one, with their mark
abbrev pub marked_if_named : List ℕ → Kept → Kept
marked_if_named name k =
    if bytes_eq name k.meta.name then record k { meta = record k.meta { marked = true } } else k

abbrev pub marked : Node → List ℕ → Node
marked node name = record node { layers = map (marked_if_named name) node.layers }
