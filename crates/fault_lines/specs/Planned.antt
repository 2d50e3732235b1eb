-- The carries of a line that are planned to fail.
use Rattle.std.specs.Prelude.{◌≡◌, ◌↔◌, ℕ, ◌<◌, ◌≤◌, ◌^◌, List, [], ◌∷◌, length, ltb, if◌then◌else◌, slice_index_or}
use Rattle.std.specs.Prelude.{Contains, Option, None, Some}
use Rattle.outer_traits.specs.Causes.{one_more}

-- the numbers of the carries that fail, counted from 1; how many carries there were; and how many of these failed
pub record Planned : Type 0 where
  pub fails : List ℕ
  pub carries : ℕ
  pub count : ℕ

-- of these numbers, those that are above each number before them, and above the last
abbrev pub rising_above : ℕ → List ℕ → List ℕ
rising_above last [] = []
rising_above last (n ∷ ns) = if ltb last n then n ∷ rising_above n ns else rising_above last ns

-- a plan before the first carry; a number that does not rise is left out
abbrev pub new_plan : List ℕ → Planned
new_plan numbers = record { fails = rising_above 0 numbers; carries = 0; count = 0 }

-- this number is the next of the plan, of which so many have come
abbrev pub IsNext : List ℕ → ℕ → ℕ → Type 0
IsNext fails met number = (met < length fails) × (slice_index_or fails met 0 ≡ number)

-- The next carry is counted, and fails exactly where its number is planned.
pub record FollowsCarries (old new : Planned) (Fails : Type 0) : Type 0 where
  pub fails : Fails ↔ Contains old.fails (one_more old.carries)
  pub carries : new.carries ≡ one_more old.carries
  pub plan : new.fails ≡ old.fails

-- each of these numbers fits the type of a planned one
abbrev pub AreSmall : List ℕ → Type 0
AreSmall numbers = (k : ℕ) → k < length numbers → slice_index_or numbers k 0 < 2 ^ 32

-- The planned numbers rise, and those of the carries that have been are the first `met`.
pub record IsMet (fails : List ℕ) (carries met : ℕ) : Type 0 where
  pub small : AreSmall fails
  pub within : met ≤ length fails
  pub rises : (j k : ℕ) → j < k → k < length fails → slice_index_or fails j 0 < slice_index_or fails k 0
  pub been : (k : ℕ) → k < met → slice_index_or fails k 0 ≤ carries
  pub ahead : (k : ℕ) → met ≤ k → k < length fails → carries < slice_index_or fails k 0

-- the count that a line told, and 0 where none was taken back
abbrev pub count_told : Option ℕ → ℕ
count_told None = 0
count_told (Some count) = count
