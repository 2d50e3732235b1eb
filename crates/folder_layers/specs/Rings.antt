-- Walks up from a snapshot to its parent, to that one's parent, and so on, by their places.
use Rattle.std.specs.Prelude.{◌≡◌, ℕ, zero, suc, ◌<◌, Bool, true, false, List, length, Option, Some, None, slice_index_or}
use Rattle.folder_layers.specs.Parents.{parent_at}
use Rattle.folder_layers.specs.declared.rings.Walk.{Walk}
use Rattle.folder_layers.specs.declared.rings.Walk.TheVariants as walk

-- the parent of a place, if there is a place
abbrev pub above : List (Option ℕ) → Option ℕ → Option ℕ
above parents None = None
above parents (Some place) = parent_at parents place

-- the place so many steps up
abbrev pub up : List (Option ℕ) → ℕ → ℕ → Option ℕ
up parents zero place = Some place
up parents (suc steps) place = above parents (up parents steps place)

-- each parent is a place
abbrev pub AreWithin : List (Option ℕ) → Type 0
AreWithin parents = (place parent : ℕ) → parent_at parents place ≡ Some parent → parent < length parents

-- walking up from a place comes back to it
abbrev pub ComesBack : List (Option ℕ) → ℕ → Type 0
ComesBack parents place = (steps : ℕ) × (up parents (suc steps) place ≡ Some place)

-- walking up from a place ends
pub data Ends (parents : List (Option ℕ)) : ℕ → Type 0 where
  AtRoot : {place : ℕ} → parent_at parents place ≡ None → Ends parents place
  Further : {place : ℕ} (parent : ℕ) → parent_at parents place ≡ Some parent → Ends parents parent → Ends parents place

-- each place that is marked is one from which that ends
pub record AreMarked (parents : List (Option ℕ)) (marks : List Bool) : Type 0 where
  pub within : AreWithin parents
  pub count : length marks ≡ length parents
  pub ends : (place : ℕ) → slice_index_or marks place false ≡ true → Ends parents place

-- so many steps up from a place is that one, and the place itself is at no step before
pub record IsOnWay (parents : List (Option ℕ)) (place steps at : ℕ) : Type 0 where
  pub inside : at < length parents
  pub is : up parents steps place ≡ Some at
  pub not_back : (before : ℕ) → before < steps → up parents (suc before) place ≡ Some place → ⊥

-- how walking up from a place goes
abbrev pub IsWalk : List (Option ℕ) → ℕ → Walk → Type 0
IsWalk parents place walk.Ends = Ends parents place
IsWalk parents place walk.ComesBack = ComesBack parents place
IsWalk parents place walk.GoesOn = ComesBack parents place → ⊥
