-- What folding and dropping make of the layers of a replica. All layers are told by their names, as snapshots: what can
-- go, and what that leaves, is told of snapshots alone, in volume_model's specs/Purge.antt.
use Rattle.std.specs.Prelude.{◌≡◌, ◌≢◌, ℕ, List, map, All, Option, None, Some}
use Rattle.std.specs.Option.{option_or}
use Rattle.sparse_image.specs.Image.{block_at}
use Rattle.layer_chain.specs.Changes.{with_layers, with_images, MovesPage, taken_out, replaced}
use Rattle.layer_chain.specs.Tree.{Tree, layer_at, reads, head_reads, IsAt}
use Rattle.layer_chain.specs.declared.layer.Layer.{Layer}
use Rattle.layer_chain.specs.declared.layer.LayerMeta.{LayerMeta}
use Rattle.volume_model.specs.Purge.{CanFold}
use Rattle.volume_model.specs.Snapshots.{Snapshot}
use Rattle.coalesce.specs.declared.change.FoldPlaces.{FoldPlaces}

-- what is told of a layer, as a snapshot
abbrev pub snapshot_of : LayerMeta → Snapshot
snapshot_of m = record { name = m.name; parent = m.parent; marked = m.marked }

-- the snapshots of a tree, the newest first
abbrev pub snapshots_in : Tree → List Snapshot
snapshots_in t = map (λ l. snapshot_of l.meta) t.layers

-- each layer but p reads as before, and so does the head
pub record KeepsOthers (old new : Tree) (p : List ℕ) : Type 0 where
  pub layers : (other : Option (List ℕ)) (block : ℕ) → other ≢ Some p
      → reads new.layers other block ≡ reads old.layers other block
  pub head : (block : ℕ) → head_reads new block ≡ head_reads old block

-- ---- the blocks

-- the layers of that name have no block
abbrev pub HasNoBlock : List Layer → List ℕ → Type 0
HasNoBlock layers name =
    All (λ (l : Layer). l.meta.name ≡ name → (block : ℕ) → block_at l.image block ≡ None) layers

-- the layers of these names stand at these places
pub record AreAt (layers : List Layer) (p c : List ℕ) (i j : ℕ) : Type 0 where
  pub parent : IsAt layers p i
  pub child : IsAt layers c j

-- p can be folded into c, and these are their places
pub record CanFoldAt (t : Tree) (p c : List ℕ) (places : FoldPlaces) : Type 0 where
  pub can : CanFold (snapshots_in t) t.on p c
  pub at : AreAt t.layers p c places.parent places.child

-- the blocks of that page of c are p's, over p's own, and nothing else is new
pub record FoldsPage (old new : Tree) (p c : List ℕ) (page : ℕ) : Type 0 where
  pub parent : ℕ
  pub child : ℕ
  pub at : AreAt old.layers p c parent child
  pub moved : MovesPage old.layers new.layers parent child page
  pub rest : new ≡ with_layers old new.layers

-- the block of that number, if c has it, is p's, over p's own, and nothing else is new
pub record MovesBlock (old new : Tree) (p c : List ℕ) (block : ℕ) : Type 0 where
  pub parent : ℕ
  pub child : ℕ
  pub at : AreAt old.layers p c parent child
  pub own : block_at (layer_at new.layers child).image block ≡ None
  pub under : block_at (layer_at new.layers parent).image block
      ≡ option_or (block_at (layer_at old.layers child).image block) (block_at (layer_at old.layers parent).image block)
  pub others : (other : ℕ) → other ≢ block
      → (block_at (layer_at new.layers child).image other ≡ block_at (layer_at old.layers child).image other)
      × (block_at (layer_at new.layers parent).image other ≡ block_at (layer_at old.layers parent).image other)
  pub rest : new ≡ with_layers old (with_images old.layers parent child
      (layer_at new.layers parent).image (layer_at new.layers child).image)

-- p is taken out, and c stands in its place with its blocks
pub record Replaces (old new : Tree) (p c : List ℕ) : Type 0 where
  pub parent : ℕ
  pub child : ℕ
  pub at : AreAt old.layers p c parent child
  pub is : new ≡ replaced old parent child

-- p is taken out
pub record Drops (old new : Tree) (p : List ℕ) : Type 0 where
  pub place : ℕ
  pub at : IsAt old.layers p place
  pub is : new ≡ taken_out old place
