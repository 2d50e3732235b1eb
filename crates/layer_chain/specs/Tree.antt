-- The layers of a replica, the newest first, and its head, which stands on one of them or on none.
use Rattle.std.specs.Prelude.{◌≡◌, ℕ, ◌+◌, ◌<◌, ◌≤◌, Bool, false, List, [], length, map, Option, None, Some, slice_index_or}
use Rattle.std.specs.Option.{option_or}
use Rattle.vol_units.specs.Chain.{chain_from}
use Rattle.sparse_image.specs.Image.{Tables, block_at, IsEmpty}
use Rattle.layer_chain.specs.Layers.{HasNo, StandsOn, IsTree, read_layers}
use Rattle.layer_chain.specs.declared.layer.Layer.{Layer}

-- a tree, as contracts see it: its layers, the head's blocks, the layer on which the head stands, if there is
-- one, and the head's number
pub record Tree : Type 0 where
  pub layers : List Layer
  pub head : Tables
  pub on : Option (List ℕ)
  pub number : ℕ

abbrev pub name_of : Layer → List ℕ
name_of l = l.meta.name

abbrev pub parent_of : Layer → Option (List ℕ)
parent_of l = l.meta.parent

-- no name comes twice, and each parent is an older layer
abbrev pub IsLayers : List Layer → Type 0
IsLayers = IsTree name_of parent_of

-- no layer has the name
abbrev pub IsNew : List ℕ → List Layer → Type 0
IsNew = HasNo name_of parent_of

-- the name of a parent, if there is one, is a layer's
abbrev pub IsThere : Option (List ℕ) → List Layer → Type 0
IsThere = StandsOn name_of parent_of

-- what the named layer reads as at a block; None is zeros
abbrev pub reads : List Layer → Option (List ℕ) → ℕ → Option (List ℕ)
reads layers name block = read_layers name_of parent_of (λ l. block_at l.image block) layers name

-- what the head reads as at a block; None is zeros
abbrev pub head_reads : Tree → ℕ → Option (List ℕ)
head_reads t block = option_or (block_at t.head block) (reads t.layers t.on block)

-- a layer's name, and whether it is to be removed
abbrev pub name_and_mark : Layer → List ℕ × Bool
name_and_mark l = (name_of l, l.meta.marked)

-- of the named layer, of its parent, and so on down, the name and the mark
abbrev pub marked_chain : List Layer → Option (List ℕ) → List (List ℕ × Bool)
marked_chain layers name = map name_and_mark (chain_from name_of parent_of layers name)

-- the layer at a place, the newest at 0
abbrev pub layer_at : List Layer → ℕ → Layer
layer_at layers place = slice_index_or layers place (record {
  meta = record { name = []; parent = None; marked = false; user_created = false; created = None };
  image = [];
})

-- the layer of that name stands at that place
pub record IsAt (layers : List Layer) (name : List ℕ) (place : ℕ) : Type 0 where
  pub within : place < length layers
  pub named : name_of (layer_at layers place) ≡ name

-- the layer at c stands on that at p
abbrev pub IsChild : List Layer → ℕ → ℕ → Type 0
IsChild layers c p = parent_of (layer_at layers c) ≡ Some (name_of (layer_at layers p))

-- the layer at c stands on that at p, which is older
pub record IsParent (layers : List Layer) (p c : ℕ) : Type 0 where
  pub within : p < length layers
  pub older : c < p
  pub child : IsChild layers c p

-- what every tree keeps: names once, parents older, the head on a layer or on none, and at most 250 with the head
pub record IsWholeTree (t : Tree) : Type 0 where
  pub layers : IsLayers t.layers
  pub head : IsThere t.on t.layers
  pub few : length t.layers + 1 ≤ 250

-- no layer, and a head without blocks on none
pub record IsBlank (t : Tree) (page_count : ℕ) : Type 0 where
  pub layers : t.layers ≡ []
  pub head : IsEmpty t.head page_count
  pub on : t.on ≡ None
  pub number : t.number ≡ 0
