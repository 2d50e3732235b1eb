-- The order of layers by their places alone, where the place of the parent of each is told.
use Rattle.std.specs.Prelude.{◌≡◌, ⊤, ℕ, ◌<◌, Bool, true, false, List, [], ◌∷◌, length, Option, Some, Contains}
use Rattle.std.specs.Prelude.{slice_index_or, slice_set, replicate}
use Rattle.folder_layers.specs.Parents.{parent_at}

-- whether the layer at that place is there already
abbrev pub done_at : List Bool → ℕ → Bool
done_at done place = slice_index_or done place false

-- it is not, and the one on which it stands is
pub record CanCome (parents : List (Option ℕ)) (done : List Bool) (place : ℕ) : Type 0 where
  pub left : done_at done place ≡ false
  pub ready : (parent : ℕ) → parent_at parents place ≡ Some parent → done_at done parent ≡ true

-- no layer can come
abbrev pub NoneCanCome : List (Option ℕ) → List Bool → Type 0
NoneCanCome parents done = (place : ℕ) → place < length parents → CanCome parents done place → ⊥

-- while one is left, one can come
abbrev pub OneCanCome : List (Option ℕ) → Type 0
OneCanCome parents = (done : List Bool) (left : ℕ) → left < length parents → done_at done left ≡ false
    → (place : ℕ) × (place < length parents) × CanCome parents done place

-- the layer at that place can come, and none at a place before
pub record IsNextPlace (parents : List (Option ℕ)) (done : List Bool) (place : ℕ) : Type 0 where
  pub within : place < length parents
  pub can : CanCome parents done place
  pub first : (other : ℕ) → other < place → CanCome parents done other → ⊥

-- each is next once those before it are there
abbrev pub ComeInTurn : List (Option ℕ) → List Bool → List ℕ → Type 0
ComeInTurn parents done [] = ⊤
ComeInTurn parents done (place ∷ more) = IsNextPlace parents done place × ComeInTurn parents (slice_set done place true) more

-- these are all places, in this order
pub record AllComeInTurn (parents : List (Option ℕ)) (places : List ℕ) : Type 0 where
  pub count : length places ≡ length parents
  pub all : (place : ℕ) → place < length parents → Contains places place
  pub turn : ComeInTurn parents (replicate (length parents) false) places
