-- What doors tell of the sessions that come in and go back.
use Rattle.std.specs.Prelude.{◌≡◌, ℕ, ◌≤◌, List, [], ◌∷◌, ◌++◌, map, length, Option, Some, All}
use Rattle.door_traits.specs.declared.client.Client.{Client}

-- what a session tells: what its source has left, what its sink holds, where they tell it, and how often each has failed
pub record Told : Type 0 where
  pub left : Option (List ℕ)
  pub read_faults : ℕ
  pub holds : Option (List ℕ)
  pub write_faults : ℕ

-- the same, of these
abbrev pub told : Option (List ℕ) → ℕ → Option (List ℕ) → ℕ → Told
told left read_faults holds write_faults =
    record { left = left; read_faults = read_faults; holds = holds; write_faults = write_faults }

-- what a session tells that has this input, of which nothing was read, and to which nothing was replied
abbrev pub untouched : List ℕ → Told
untouched input = told (Some input) 0 (Some []) 0

-- what each of these sessions tells
abbrev pub told_all : {I O : Type 0} → (I → Option (List ℕ)) → (I → ℕ) → (O → Option (List ℕ)) → (O → ℕ)
    → List (Client I O) → List Told
told_all left read_faults holds write_faults sessions =
    map (λ s. told (left s.source) (read_faults s.source) (holds s.sink) (write_faults s.sink)) sessions

-- the next session came: its source has the first of the inputs that were to come, and its sink holds nothing
abbrev pub Comes : (before now : List (List ℕ)) → (left holds : Option (List ℕ)) → Type 0
Comes before now left holds = (input : List ℕ) × (before ≡ input ∷ now) × (left ≡ Some input) × (holds ≡ Some [])

-- These came, one after another. What each tells is that it is untouched.
abbrev pub Come : (before now : List (List ℕ)) → List Told → Type 0
Come before now ts = (inputs : List (List ℕ)) × (before ≡ inputs ++ now) × (ts ≡ map untouched inputs)

-- neither end of any of these sessions has failed
abbrev pub AreUnfailed : {I O : Type 0} → (I → ℕ) → (O → ℕ) → List (Client I O) → Type 0
AreUnfailed read_faults write_faults sessions = All (λ s. (read_faults s.source ≡ 0) × (write_faults s.sink ≡ 0)) sessions

-- At most so many sessions came, and each went back untouched.
abbrev pub GoBack : ℕ → (before now : List (List ℕ)) → (old new : List Told) → Type 0
GoBack count before now old new = (inputs : List (List ℕ)) × (length inputs ≤ count) × (before ≡ inputs ++ now)
    × (new ≡ old ++ map untouched inputs)
