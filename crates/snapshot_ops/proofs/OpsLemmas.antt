-- Each change of a tree is what the operation promises.
use Rattle.std.proofs.Common.{◌≡◌, ℕ, Bool, List, ◌∷◌, Some, refl, ap}
use Rattle.std.specs.Prelude.{not, false, None}
use Rattle.vol_units.specs.Name.{begins_sys}
use Rattle.sparse_image.specs.Image.{Tables, block_at}
use Rattle.layer_chain.specs.Tree.{Tree, IsAt, IsNew, IsThere, name_of, parent_of}
use Rattle.layer_chain.specs.Changes.{snapped_tree, reverted_tree, marked_at}
use Rattle.layer_chain.proofs.ChangeLemmas.{snapped_reads, snapped_others, snapped_head, reverted_head, mark_keeps}
use Rattle.layer_chain.proofs.TreeShape.{apart}
use Rattle.snapshot_ops.specs.Ops.{metas, TakesSnapshot, Reverts, Marks}

pub takes : (t : Tree) (name : List ℕ) (user_created : Bool) (spare : Tables) → user_created ≡ not (begins_sys name)
    → ((block : ℕ) → block_at spare block ≡ None) → TakesSnapshot t (snapped_tree t name user_created spare) name
takes t name user_created spare users empty = record {
  metas = ap (λ (b : Bool). record { name = name; parent = t.on; marked = false; user_created = b; created = None } ∷ metas t) users;
  next = record { blocks = empty; on = refl; number = refl };
  layer = snapped_reads t name user_created spare;
  others = snapped_others t name user_created spare;
  head = λ block. snapped_head t name user_created spare block (empty block);
}

pub reverts : (t : Tree) (name : List ℕ) (spare : Tables) → ((block : ℕ) → block_at spare block ≡ None)
    → Reverts t (reverted_tree t name spare) name
reverts t name spare empty = record {
  layers = refl;
  next = record { blocks = empty; on = refl; number = refl };
  head = λ block. reverted_head t name spare block (empty block);
}

pub marks : (t : Tree) (name : List ℕ) (place : ℕ) → IsAt t.layers name place → Marks t (marked_at t place) name
marks t name place at = record { place = place; at = at; marked = refl; readings = mark_keeps t place at.within }

pub not_there : (t : Tree) (name : List ℕ) → IsNew name t.layers → IsThere (Some name) t.layers → ⊥
not_there t name new there = apart name_of parent_of name name t.layers new there refl
