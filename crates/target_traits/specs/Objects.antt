-- What a target holds: objects, by their names.
use Rattle.std.specs.Prelude.{◌≡◌, ◌≢◌, ◌↔◌, ℕ, List, ◌++◌, Option, IsSome, Contains}
use Rattle.shelf_traits.specs.Files.{AreDistinct}

-- what the object of that name holds; None where there is none
abbrev pub Objects : Type 0
Objects = List ℕ → Option (List ℕ)

-- all objects but that one hold what they held
abbrev pub OtherObjectsStay : List ℕ → Objects → Objects → Type 0
OtherObjectsStay name old new = (other : List ℕ) → other ≢ name → new other ≡ old other

-- the object holds that after it, and all others what they held
pub record ObjectBecomes (name : List ℕ) (after : Option (List ℕ)) (old new : Objects) : Type 0 where
  pub here : new name ≡ after
  pub others : OtherObjectsStay name old new

-- these are the names with that prefix of the objects that are there, each once
pub record ListsObjects (prefix : List ℕ) (names : List (List ℕ)) (objects : Objects) : Type 0 where
  pub exact : (rest : List ℕ) → Contains names (prefix ++ rest) ↔ IsSome (objects (prefix ++ rest))
  pub prefixed : (name : List ℕ) → Contains names name → (rest : List ℕ) × (name ≡ prefix ++ rest)
  pub once : AreDistinct names
