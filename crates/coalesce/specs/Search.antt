-- The search for the first layer that can go, one place after another.
use Rattle.std.specs.Prelude.{◌≡◌, ℕ, ◌<◌, ◌≤◌, List, length, Bool, true, false, Option, None, Some}
use Rattle.layer_chain.specs.Tree.{Tree, name_of, layer_at}
use Rattle.volume_model.specs.Purge.{CanBeDone, gone, is_before}
use Rattle.volume_model.specs.declared.mark.FoldOrDrop.{FoldOrDrop}
use Rattle.coalesce.specs.Folding.{snapshots_in}

-- the layer at the place can go so
pub record GoesAt (t : Tree) (place : ℕ) (part : FoldOrDrop) : Type 0 where
  pub can : CanBeDone (snapshots_in t) t.on part
  pub named : gone part ≡ name_of (layer_at t.layers place)

-- the layer at the place cannot go
abbrev pub StaysAt : Tree → ℕ → Type 0
StaysAt t place = (part : FoldOrDrop) → GoesAt t place part → ⊥

-- that can be done, and no layer from that place on goes under a name before
pub record IsFirstFrom (t : Tree) (from : ℕ) (best : FoldOrDrop) : Type 0 where
  pub can : CanBeDone (snapshots_in t) t.on best
  pub first : (place : ℕ) (other : FoldOrDrop) → from ≤ place → place < length t.layers → GoesAt t place other
      → is_before (gone other) (gone best) ≡ false

-- the first from that place on, or none where all layers there stay
abbrev pub IsBest : Tree → ℕ → Option FoldOrDrop → Type 0
IsBest t from None = (place : ℕ) → from ≤ place → place < length t.layers → StaysAt t place
IsBest t from (Some best) = IsFirstFrom t from best

-- a layer of that name would go before the best so far
abbrev pub goes_before : List ℕ → Option FoldOrDrop → Bool
goes_before name None = true
goes_before name (Some best) = is_before name (gone best)
