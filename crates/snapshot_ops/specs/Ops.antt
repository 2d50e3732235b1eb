-- What a snapshot, a revert and a mark do to a replica's layers, and to what each of them and the head read as.
use Rattle.std.specs.Prelude.{◌≡◌, ◌≢◌, ℕ, ◌+◌, false, not, List, ◌∷◌, map, Option, None, Some}
use Rattle.vol_units.specs.Name.{begins_sys}
use Rattle.sparse_image.specs.Image.{block_at}
use Rattle.layer_chain.specs.Tree.{Tree, reads, head_reads, IsAt}
use Rattle.layer_chain.specs.Changes.{marked_at, KeepsReadings}
use Rattle.layer_chain.specs.declared.layer.LayerMeta.{LayerMeta}

-- what is told of the layers beside their blocks, the newest first
abbrev pub metas : Tree → List LayerMeta
metas t = map (λ l. l.meta) t.layers

-- what is told of a new snapshot: a user made it, unless its name is one of the engine's own
abbrev pub fresh : List ℕ → Option (List ℕ) → LayerMeta
fresh name parent = record {
  name = name;
  parent = parent;
  marked = false;
  user_created = not (begins_sys name);
  created = None;
}

-- the head has no block, stands on that layer, and has the next number
pub record IsNextHead (old new : Tree) (name : List ℕ) : Type 0 where
  pub blocks : (block : ℕ) → block_at new.head block ≡ None
  pub on : new.on ≡ Some name
  pub number : new.number ≡ old.number + 1

-- one layer more reads as the head did, and each other layer and the head read as before
pub record TakesSnapshot (old new : Tree) (name : List ℕ) : Type 0 where
  pub metas : metas new ≡ fresh name old.on ∷ metas old
  pub next : IsNextHead old new name
  pub layer : (block : ℕ) → reads new.layers (Some name) block ≡ head_reads old block
  pub others : (other : Option (List ℕ)) (block : ℕ) → other ≢ Some name
      → reads new.layers other block ≡ reads old.layers other block
  pub head : (block : ℕ) → head_reads new block ≡ head_reads old block

-- the head reads as that layer, and the layers stay
pub record Reverts (old new : Tree) (name : List ℕ) : Type 0 where
  pub layers : new.layers ≡ old.layers
  pub next : IsNextHead old new name
  pub head : (block : ℕ) → head_reads new block ≡ reads old.layers (Some name) block

-- that layer has its mark, nothing else is new, and each layer and the head read as before
pub record Marks (old new : Tree) (name : List ℕ) : Type 0 where
  pub place : ℕ
  pub at : IsAt old.layers name place
  pub marked : new ≡ marked_at old place
  pub readings : KeepsReadings old new
