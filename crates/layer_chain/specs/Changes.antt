-- What a change makes of a tree.
use Rattle.std.specs.Prelude.{◌≡◌, ℕ, ◌+◌, Bool, true, false, List, ◌∷◌, map, All, Option, None, Some, slice_set, remove}
use Rattle.sparse_image.specs.Image.{Table, Tables, IsEmpty, EmptiesPage, LaysPageOver, PutsTable}
use Rattle.layer_chain.specs.Tree.{Tree, layer_at, reads, head_reads}
use Rattle.layer_chain.specs.declared.layer.Layer.{Layer}
use Rattle.layer_chain.specs.declared.layer.LayerMeta.{LayerMeta}

-- one more layer, newer than the others
abbrev pub pushed : Tree → Layer → Tree
pushed t layer = record t { layers = layer ∷ t.layers }

-- another head
abbrev pub with_head : Tree → Tables → Tree
with_head t head = record t { head = head }

-- a head of that number on that layer, or on none
abbrev pub headed : Tree → ℕ → Option (List ℕ) → Tables → Tree
headed t number on head = record t { head = head; on = on; number = number }

-- what was the head is the newest layer, of that name, and a spare image is the head on it
abbrev pub snapped_tree : Tree → List ℕ → Bool → Tables → Tree
snapped_tree t name user_created spare = record {
  layers = record {
    meta = record { name = name; parent = t.on; marked = false; user_created = user_created; created = None };
    image = t.head;
  } ∷ t.layers;
  head = spare;
  on = Some name;
  number = t.number + 1;
}

-- the head is dropped, and a spare image is the head on the layer of that name
abbrev pub reverted_tree : Tree → List ℕ → Tables → Tree
reverted_tree t name spare = record { layers = t.layers; head = spare; on = Some name; number = t.number + 1 }

-- the layer with its mark
abbrev pub marked_layer : Layer → Layer
marked_layer l = record l { meta = record l.meta { marked = true } }

-- the layer at that place has its mark
abbrev pub marked_at : Tree → ℕ → Tree
marked_at t place = record t { layers = slice_set t.layers place (marked_layer (layer_at t.layers place)) }

-- each layer and the head read as they did
pub record KeepsReadings (old new : Tree) : Type 0 where
  pub layers : (name : Option (List ℕ)) (block : ℕ) → reads new.layers name block ≡ reads old.layers name block
  pub head : (block : ℕ) → head_reads new block ≡ head_reads old block

-- ---- without blocks

-- what is told of the layers, the newest first
abbrev pub metas_in : List Layer → List LayerMeta
metas_in layers = map (λ l. l.meta) layers

-- no layer has a block
abbrev pub AreEmpty : List Layer → ℕ → Type 0
AreEmpty layers page_count = All (λ (l : Layer). IsEmpty l.image page_count) layers

-- the same layers and the same head, all without a block
pub record IsEmptied (old new : Tree) (page_count : ℕ) : Type 0 where
  pub metas : metas_in new.layers ≡ metas_in old.layers
  pub images : AreEmpty new.layers page_count
  pub head : IsEmpty new.head page_count
  pub on : new.on ≡ old.on
  pub number : new.number ≡ old.number

-- ---- what folding and dropping are made of

-- other layers
abbrev pub with_layers : Tree → List Layer → Tree
with_layers t layers = record t { layers = layers }

-- the layer with other blocks
abbrev pub with_image : Layer → Tables → Layer
with_image l image = record l { image = image }

-- the layers at p and c with other blocks
abbrev pub with_images : List Layer → ℕ → ℕ → Tables → Tables → List Layer
with_images layers p c under over =
    slice_set
    (slice_set layers c (with_image (layer_at layers c) over)) p (with_image (layer_at layers p) under)

-- the blocks of a page of the layer at c are moved onto that at p, over its own, and nothing else is new
pub record MovesPage (old new : List Layer) (p c page : ℕ) : Type 0 where
  pub child : EmptiesPage (layer_at old c).image (layer_at new c).image page
  pub parent : LaysPageOver (layer_at old c).image (layer_at old p).image (layer_at new p).image page
  pub rest : new ≡ with_images old p c (layer_at new p).image (layer_at new c).image

-- the page of the layer at the place is that table, and nothing else is new
pub record PutsPage (old new : List Layer) (place page : ℕ) (table : Table) : Type 0 where
  pub image : PutsTable (layer_at old place).image (layer_at new place).image page table
  pub rest : new ≡ slice_set old place (with_image (layer_at old place) (layer_at new place).image)

-- the layer at p is taken out
abbrev pub taken_out : Tree → ℕ → Tree
taken_out t p = with_layers t (remove t.layers p)

-- the layer on the parent of another, and with that one's blocks
abbrev pub in_place_of : Layer → Layer → Layer
in_place_of l gone = record {
  meta = record l.meta { parent = gone.meta.parent };
  image = gone.image;
}

-- the layer at p is taken out, and that at c, which is newer, stands in its place
abbrev pub replaced : Tree → ℕ → ℕ → Tree
replaced t p c = with_layers t
    (slice_set (remove t.layers p) c (in_place_of (layer_at t.layers c) (layer_at t.layers p)))
