-- What a line in memory carried, and when it fails.
use Rattle.std.specs.Prelude.{ℕ, ◌-◌, ◌^◌, ◌<◌, ◌≤◌, ◌⊎◌, ltb, if◌then◌else◌, List, length, Contains, Option, None, Some}
use Rattle.outer_memory.specs.Plan.{Plan, next_call}

-- frames that were kept, for how many more there is room, and how long each may be
pub record FrameRoom : Type 0 where
  pub frames : List (List ℕ)
  pub spare : ℕ
  pub longest : ℕ

-- there is room for a frame of this length
abbrev pub FitsFrame : FrameRoom → ℕ → Type 0
FitsFrame kept length = (0 < kept.spare) × (length ≤ kept.longest)

-- What a line tells that failed so often. One whose count can rise no more fails no more, and tells no frames.
abbrev pub told_frames : ℕ → List (List ℕ) → Option (List (List ℕ))
told_frames faults frames = if ltb faults (2 ^ 64 - 1) then Some frames else None

-- a carry that fails: one that is planned or finds no room, as long as the count can rise
abbrev pub MustFail : ℕ → Plan → FrameRoom → List ℕ → Type 0
MustFail faults plan kept frame =
    (faults < 2 ^ 64 - 1) × (Contains plan.fails (next_call plan) ⊎ ¬ FitsFrame kept (length frame))
