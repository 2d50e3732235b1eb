-- What folding a page of a child onto its parent, putting the child in the parent's place, and dropping a layer make
-- of a replica. Which layers can go is told of them as snapshots, in volume_model's specs/Purge.antt.
use Rattle.std.specs.Prelude.{◌≡◌, ℕ, zero, suc, ◌*◌, ◌/◌, Bool, true, false, not, ◌&&◌, ◌||◌, ◌==◌, List, [], ◌∷◌}
use Rattle.std.specs.Prelude.{length, map, Option, is_some, if◌then◌else◌}
use Rattle.std.specs.Str.{bytes_eq}
use Rattle.vol_units.specs.Bytes.{bytes_at, with_bytes_at}
use Rattle.vol_units.specs.declared.size.TheConstants.{PAGE_BYTES}
use Rattle.sparse_image.specs.declared.block.TheConstants.{PAGE_BLOCKS}
use Rattle.sparse_image.specs.Image.{Tables, block_at}
use Rattle.volume_model.specs.Snapshots.{Snapshot, Snapshots}
use Rattle.volume_model.specs.Purge.{parent_in}
use Rattle.layer_chain.specs.Tree.{Tree}
use Rattle.coalesce.specs.declared.change.FoldPlaces.{FoldPlaces}
use Rattle.coalesce.specs.Folding.{snapshot_of, CanFoldAt}
use Rattle.sparse_image.specs.Listed.{listed}
use Rattle.replica_node.specs.Node.{Kept, Node, node_of, IsNode, disk_named, has_own}

-- the layers of a replica as snapshots, the newest first
abbrev pub tree_of : Node → List Snapshot
tree_of node = map (λ k. snapshot_of k.meta) node.layers

-- the same, with that on which the head stands, and the head's number
abbrev pub snapshots_of : Node → Snapshots
snapshots_of node = record { tree = tree_of node; on = node.on; number = node.number }

-- of each block whether the layer of the name itself has it, of the first that has the name
abbrev pub own_named : List Kept → List ℕ → List Bool
own_named [] name = []
own_named (k ∷ ks) name = if bytes_eq name k.meta.name then k.own else own_named ks name

-- the block is one of the page
abbrev pub is_in : ℕ → ℕ → Bool
is_in page block = block / PAGE_BLOCKS == page

-- ---- what a layer itself has

-- a block of the page is one of its own
abbrev pub HasOwnOf : List Bool → ℕ → Type 0
HasOwnOf own page = (block : ℕ) × (is_in page block ≡ true) × (has_own own block ≡ true)

-- none of the page is
abbrev pub HasNoOwnOf : List Bool → ℕ → Type 0
HasNoOwnOf own page = (block : ℕ) → is_in page block ≡ true → has_own own block ≡ false

-- the layer of the name itself has a block of the page
abbrev pub HasBlockOf : Node → List ℕ → ℕ → Type 0
HasBlockOf node name page = HasOwnOf (own_named node.layers name) page

-- it has none of the page
abbrev pub HasNoBlockOf : Node → List ℕ → ℕ → Type 0
HasNoBlockOf node name page = HasNoOwnOf (own_named node.layers name) page

-- it has none at all
abbrev pub IsBare : List Kept → List ℕ → Type 0
IsBare layers name = (block : ℕ) → has_own (own_named layers name) block ≡ false

-- ---- a page is folded

-- the disk, which reads in the page as the other
abbrev pub with_page_of : ℕ → List ℕ → List ℕ → List ℕ
with_page_of page other disk =
    with_bytes_at disk (page * PAGE_BYTES) (bytes_at other (page * PAGE_BYTES) PAGE_BYTES)

-- of each block whether it is there once those of the page of the other are there too
abbrev pub own_with_page : ℕ → List Bool → List Bool → List Bool
own_with_page page other own =
    listed (λ block. (is_in page block && has_own other block) || has_own own block) (length own)

-- of each block whether it is there once none of the page is
abbrev pub own_without_page : ℕ → List Bool → List Bool
own_without_page page own = listed (λ block. not (is_in page block) && has_own own block) (length own)

-- the layer, which reads in the page as the child of that disk, and has the child's blocks of the page
abbrev pub with_page : ℕ → List ℕ → List Bool → Kept → Kept
with_page page disk own k = record k {
  disk = with_page_of page disk k.disk;
  own = own_with_page page own k.own;
}

-- the layer, which itself has no block of the page, and reads as it did
abbrev pub without_page : ℕ → Kept → Kept
without_page page k = record k { own = own_without_page page k.own }

-- one of these layers, once a page of c is folded onto p
abbrev pub page_folded_in : List Kept → List ℕ → List ℕ → ℕ → Kept → Kept
page_folded_in layers p c page k =
    if bytes_eq c k.meta.name then without_page page k
    else if bytes_eq p k.meta.name then with_page page (disk_named layers c) (own_named layers c) k else k

-- p reads in the page as c and has c's blocks there, c has none of them, and all others are as they were
abbrev pub page_folded : Node → List ℕ → List ℕ → ℕ → Node
page_folded node p c page = record node { layers = map (page_folded_in node.layers p c page) node.layers }

-- so many pages of c, the first ones, are folded onto p, one after another
unfoldable pub pages_folded : Node → List ℕ → List ℕ → ℕ → Node
pages_folded node p c zero = node
pages_folded node p c (suc pages) = page_folded (pages_folded node p c pages) p c pages

-- ---- a layer goes

-- without the layer of the name
abbrev pub layers_without : List ℕ → List Kept → List Kept
layers_without p [] = []
layers_without p (k ∷ ks) = if bytes_eq p k.meta.name then ks else k ∷ layers_without p ks

-- the layer of the name on another parent, or on none, and with other blocks; any other as it is
abbrev pub put_down : List ℕ → Option (List ℕ) → List Bool → Kept → Kept
put_down c parent own k =
    if bytes_eq c k.meta.name then record k { meta = record k.meta { parent = parent }; own = own } else k

-- p is out, and c, which reads as it did, stands on p's parent and has p's own blocks
abbrev pub replaced_node : Node → List ℕ → List ℕ → Node
replaced_node node p c = record node {
  layers = map (put_down c (parent_in p (tree_of node)) (own_named node.layers p)) (layers_without p node.layers);
}

-- all pages of c are folded onto p, and p is out
abbrev pub folded_away : Node → List ℕ → List ℕ → Node
folded_away node p c = replaced_node (pages_folded node p c (length node.disk / PAGE_BYTES)) p c

-- p is out
abbrev pub dropped_node : Node → List ℕ → Node
dropped_node node p = record node { layers = layers_without p node.layers }

-- ---- the same of a tree

-- the image has a block of the page
abbrev pub HasBlockIn : Tables → ℕ → Type 0
HasBlockIn image page = (block : ℕ) × (is_in page block ≡ true) × (is_some (block_at image block) ≡ true)

-- it has none of the page
abbrev pub HasNoBlockIn : Tables → ℕ → Type 0
HasNoBlockIn image page = (block : ℕ) → is_in page block ≡ true → is_some (block_at image block) ≡ false

-- so many pages are folded in the tree of a replica of so many blocks, and the fold can go on
pub record FoldsPages (old new : Tree) (p c : List ℕ) (places : FoldPlaces) (count pages : ℕ) : Type 0 where
  pub can : CanFoldAt new p c places
  pub node : IsNode new count
  pub is : node_of new count ≡ pages_folded (node_of old count) p c pages
