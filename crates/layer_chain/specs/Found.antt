-- Where the blocks of a head are found. The head and the layers below it are its chain, counted from the lowest, which
-- is 1. A list of bytes says of some blocks which of the chain has them.
use Rattle.std.specs.Prelude.{◌≡◌, ◌≢◌, ℕ, suc, Bool, true, false, List, [], ◌∷◌, length, map, Option, is_some, slice_index}
use Rattle.std.specs.Prelude.{◌-◌, ◌/◌, ◌≤◌, ◌==◌}
use Rattle.vol_units.specs.Chain.{chain_from}
use Rattle.sparse_image.specs.declared.block.TheConstants.{PAGE_BLOCKS}
use Rattle.sparse_image.specs.Image.{Tables, block_at}
use Rattle.layer_chain.specs.Layers.{ages_in}
use Rattle.layer_chain.specs.Tree.{Tree, name_of, parent_of, layer_at, IsWholeTree}
use Rattle.layer_chain.specs.declared.layer.Layer.{Layer}

-- the blocks of the named layer, of its parent, and so on down
abbrev pub images_from : List Layer → Option (List ℕ) → List Tables
images_from layers name = map (λ l. l.image) (chain_from name_of parent_of layers name)

-- the blocks of the head, of the layer on which it stands, and so on down
abbrev pub head_images : Tree → List Tables
head_images t = t.head ∷ images_from t.layers t.on

-- the number of the first that is true, counted from the last, which is 1, and 0 where none is
abbrev pub first_true : List Bool → ℕ
first_true [] = 0
first_true (true ∷ below) = suc (length below)
first_true (false ∷ below) = first_true below

-- of each image, whether it has the block
abbrev pub having : List Tables → ℕ → List Bool
having images block = map (λ i. is_some (block_at i block)) images

-- the index of the first of the images that has the block, and 0 where none has it
abbrev pub found_in : List Tables → ℕ → ℕ
found_in images block = first_true (having images block)

-- the index of what has the block that the head reads: of the head, or of a layer below it
abbrev pub found_at : Tree → ℕ → ℕ
found_at t block = found_in (head_images t) block

-- ---- what is kept

-- the named layer, its parent, and so on down, each told by how many are older
abbrev pub ages_from : List Layer → Option (List ℕ) → List ℕ
ages_from = ages_in name_of parent_of

-- the index of the layer than which so many are older, and 0 where it is not one of these
abbrev pub index_of_age : List ℕ → ℕ → ℕ
index_of_age ages age = first_true (map (λ a. a == age) ages)

-- the layers below the head, told by their ages, and of each block the index of what has it, or 0
pub record Index : Type 0 where
  pub ages : List ℕ
  pub bytes : List ℕ

-- the blocks of the layers of these ages
abbrev pub images_of : List Layer → List ℕ → List Tables
images_of layers ages = map (λ age. (layer_at layers (length layers - 1 - age)).image) ages

-- each byte that is not 0 is right
abbrev pub IsKnown : List Tables → List ℕ → Type 0
IsKnown images bytes = (block : ℕ) → slice_index bytes block ≢ 0 → slice_index bytes block ≡ found_in images block

-- the layers below the head are told, and each byte that is not 0 is right
pub record IsIndexed (t : Tree) (index : Index) : Type 0 where
  pub ages : index.ages ≡ ages_from t.layers t.on
  pub known : IsKnown (head_images t) index.bytes

-- the tree is whole, so many layers have room, so that none runs out of memory, and the index is right
pub record IsRoomyTree (t : Tree) (capacity : ℕ) (index : Index) : Type 0 where
  pub whole : IsWholeTree t
  pub room : 250 ≤ capacity
  pub indexed : IsIndexed t index

-- ---- how bytes change

-- nothing is known
abbrev pub KnowsNothing : List ℕ → Type 0
KnowsNothing bytes = (block : ℕ) → slice_index bytes block ≡ 0

-- of the page's blocks nothing is known after it, and the bytes of all others stay
pub record ForgetsPage (old new : List ℕ) (page : ℕ) : Type 0 where
  pub inside : (block : ℕ) → block / PAGE_BLOCKS ≡ page → slice_index new block ≡ 0
  pub others : (block : ℕ) → block / PAGE_BLOCKS ≢ page → slice_index new block ≡ slice_index old block
