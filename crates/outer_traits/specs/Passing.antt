-- What goes from a source and to a sink piece by piece.
use Rattle.std.specs.Prelude.{◌≡◌, ℕ, ◌≤◌, List, ◌++◌, length, Option}
use Rattle.std.specs.Io.KnownBytes.{Appends, Consumes, IsAtEnd}

-- the source has given at most n bytes
abbrev pub GivesAtMost : Option (List ℕ) → Option (List ℕ) → ℕ → Type 0
GivesAtMost left rest n = (bytes : List ℕ) × Consumes left rest bytes × (length bytes ≤ n)

-- n bytes came, at most `room` many, and stand behind the old ones; none came only at the end
pub record ReadsMore (left rest : Option (List ℕ)) (old new : List ℕ) (room n : ℕ) : Type 0 where
  pub bytes : (more : List ℕ) × Consumes left rest more × (new ≡ old ++ more) × (length more ≡ n)
  pub within : n ≤ room
  pub end : n ≡ 0 → IsAtEnd rest

-- a prefix of the bytes went to the sink
abbrev pub WritesPrefix : Option (List ℕ) → Option (List ℕ) → List ℕ → Type 0
WritesPrefix old new bytes = (prefix : List ℕ) × (rest : List ℕ) × (bytes ≡ prefix ++ rest) × Appends old new prefix

-- The text was put behind what a buffer had, and a prefix of both went to the sink. The buffer has the rest.
abbrev pub Passes : Option (List ℕ) → Option (List ℕ) → List ℕ → List ℕ → List ℕ → Type 0
Passes old new had has text = (prefix : List ℕ) × (had ++ text ≡ prefix ++ has) × Appends old new prefix
