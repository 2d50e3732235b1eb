-- What shelves hold: files, by the number of the shelf and the file's name.
use Rattle.std.specs.Prelude.{◌≡◌, ◌≢◌, ◌⊎◌, ℕ, ◌+◌, ◌-◌, ⊤, List, [], ◌∷◌, ◌++◌, All, length, take, drop, replicate}
use Rattle.std.specs.Prelude.{Option, None, Some, is_some, unwrap_or, Contains, IsTrue}

-- what the file of that name on that shelf holds; None where there is none
abbrev pub Files : Type 0
Files = ℕ → List ℕ → Option (List ℕ)

-- of shelves that tell what they hold, both before and after a call
abbrev pub Both : Option Files → Option Files → (Files → Files → Type 0) → Type 0
Both None None Says = ⊤
Both (Some old) (Some new) Says = Says old new
Both _ _ Says = ⊥

-- all files hold what they held
abbrev pub AllStay : Files → Files → Type 0
AllStay old new = (shelf : ℕ) (file : List ℕ) → new shelf file ≡ old shelf file

-- all files but that one hold what they held
abbrev pub OthersStay : ℕ → List ℕ → Files → Files → Type 0
OthersStay shelf file old new = (s : ℕ) (f : List ℕ) → (s ≢ shelf) ⊎ (f ≢ file) → new s f ≡ old s f

-- the file holds that after it, and all others what they held
pub record Becomes (shelf : ℕ) (file : List ℕ) (after : Option (List ℕ)) (old new : Files) : Type 0 where
  pub here : new shelf file ≡ after
  pub others : OthersStay shelf file old new

-- the bytes with zeros behind them, so that there are so many at least
abbrev pub stretched : List ℕ → ℕ → List ℕ
stretched bytes n = bytes ++ replicate (n - length bytes) 0

-- a file once these bytes stand at that place: a gap is filled with zeros
abbrev pub written : Option (List ℕ) → ℕ → List ℕ → List ℕ
written file at bytes =
    let old = unwrap_or file [] in take at (stretched old at) ++ bytes ++ drop (at + length bytes) old

-- a file of that length: cut, or with zeros behind it
abbrev pub resized : Option (List ℕ) → ℕ → List ℕ
resized file n = take n (stretched (unwrap_or file []) n)

-- what a file has from a place on
abbrev pub from_place : Option (List ℕ) → ℕ → List ℕ
from_place file at = drop at (unwrap_or file [])

-- no element comes twice
abbrev pub AreDistinct : List (List ℕ) → Type 0
AreDistinct [] = ⊤
AreDistinct (x ∷ xs) = All (λ y. y ≢ x) xs × AreDistinct xs

-- these are the names of the files of a shelf, each once
pub record Lists (shelf : ℕ) (names : List (List ℕ)) (files : Files) : Type 0 where
  pub there : (file : List ℕ) → Contains names file → IsTrue (is_some (files shelf file))
  pub all : (file : List ℕ) → IsTrue (is_some (files shelf file)) → Contains names file
  pub once : AreDistinct names
