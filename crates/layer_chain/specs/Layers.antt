-- A tree of layers, the newest first, and what a block reads as from each of them. A parent is told by its
-- name and stands further on, so that each walk is a recursion on the list.
use Rattle.std.specs.Prelude.{◌≡◌, ◌≢◌, ◌⊎◌, ℕ, cond, List, [], ◌∷◌, length, Option, None, Some, if◌then◌else◌}
use Rattle.std.specs.List.{AllByRecursion}
use Rattle.std.specs.Option.{option_or}
use Rattle.vol_units.specs.Chain.{is_named}

-- a layer of any type X has a name and a parent's name
module _ {X : Type 0} (name_of : X → List ℕ) (parent_of : X → Option (List ℕ)) where
  -- no layer has the name
  abbrev pub HasNo : List ℕ → List X → Type 0
  HasNo name = AllByRecursion (λ x. name_of x ≢ name)

  -- some layer has the name
  abbrev pub Has : List ℕ → List X → Type 0
  Has name [] = ⊥
  Has name (x ∷ older) = (name_of x ≡ name) ⊎ Has name older

  -- the parent, if there is one, is not among the layers
  abbrev pub IsAbove : Option (List ℕ) → List X → Type 0
  IsAbove None xs = Unit {0}
  IsAbove (Some name) xs = HasNo name xs

  -- the parent, if there is one, is among the layers
  abbrev pub StandsOn : Option (List ℕ) → List X → Type 0
  StandsOn None xs = Unit {0}
  StandsOn (Some name) xs = Has name xs

  -- no layer stands on the name
  abbrev pub HasNoChild : List ℕ → List X → Type 0
  HasNoChild name = AllByRecursion (λ x. parent_of x ≢ Some name)

  -- no name comes twice, and a layer's parent stands further on
  abbrev pub IsTree : List X → Type 0
  IsTree [] = Unit {0}
  IsTree (x ∷ older) = HasNo (name_of x) older × StandsOn (parent_of x) older × IsTree older

  -- the named layer, its parent, and so on down, each told by how many are older, which no newer layer changes
  abbrev pub ages_in : List X → Option (List ℕ) → List ℕ
  ages_in [] want = []
  ages_in (x ∷ older) want =
      if is_named want (name_of x) then length older ∷ ages_in older (parent_of x) else ages_in older want

  module _ {B : Type 0} (block_of : X → Option B) where
    -- what the named layer reads as: its own block, or else what its parent reads as. None where no layer
    -- on the way has the block
    unfoldable pub read_layers : List X → Option (List ℕ) → Option B
    read_layers [] want = None
    read_layers (x ∷ older) want =
        cond (is_named want (name_of x))
        (option_or (block_of x) (read_layers older (parent_of x)))
        (read_layers older want)
