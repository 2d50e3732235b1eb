-- What a line to a replica tells, and what a wiring tells of the lines that it took back.
use Rattle.std.specs.Prelude.{◌≡◌, ℕ, ◌+◌, ◌<◌, ◌==◌, length, slice_index_or, ◌&&◌, if◌then◌else◌, List, [], ◌∷◌}
use Rattle.std.specs.Prelude.{◌++◌, Option, None, Some, Result, OnOk, OnErr, IfSome}
use Rattle.outer_traits.specs.declared.ends.Ends.{Ends}
use Rattle.outer_traits.specs.declared.taken_back.LineRecord.{LineRecord}

-- What is told is what was told before, and these. It may be told no more, for good.
abbrev pub TellsMore : {T : Type 0} → Option (List T) → Option (List T) → List T → Type 0
TellsMore before None more = Unit {0}
TellsMore None (Some now) more = ⊥
TellsMore (Some before) (Some now) more = now ≡ before ++ more

-- A frame that came through is told behind those before it, and one that failed is not told.
pub record Carries {T E : Type 0} (before now : Option (List (List ℕ))) (frame : List ℕ) (result : Result T E)
    : Type 0 where
  pub ok : OnOk result (TellsMore before now (frame ∷ []))
  pub err : OnErr result (TellsMore before now [])

-- a line was asked for between these ends, to fail at the carries with these numbers
pub record Asked : Type 0 where
  pub ends : Ends
  pub fails : List ℕ

-- the same of a worker's line to a replica
abbrev pub ask_of_line : ℕ → ℕ → List ℕ → Asked
ask_of_line worker replica fails = record { ends = record { worker = worker; replica = replica }; fails = fails }

-- a line between these two that has not failed, and has carried nothing
pub record IsNewLine (ends : Ends) (count : ℕ) (carried : Option (List (List ℕ))) (worker replica : ℕ)
    : Type 0 where
  pub between : ends ≡ record { worker = worker; replica = replica }
  pub unfailed : count ≡ 0
  pub empty : IfSome carried (λ frames. frames ≡ [])

-- of each line the same is told as before
abbrev pub TellsSame : {T : Type 0} → (ℕ → ℕ → T) → (ℕ → ℕ → T) → Type 0
TellsSame before now = (worker replica : ℕ) → now worker replica ≡ before worker replica

-- of the line between these ends this is told now, and of each other the same as before
pub record Records {T : Type 0} (before now : ℕ → ℕ → T) (ends : Ends) (told : T) : Type 0 where
  pub here : now ends.worker ends.replica ≡ told
  pub others : (worker replica : ℕ) → ¬ ((worker ≡ ends.worker) × (replica ≡ ends.replica)) →
      now worker replica ≡ before worker replica

-- what the first of these lines told that is between the two
abbrev pub told_between : {T : Type 0} → List (LineRecord T) → ℕ → ℕ → Option T
told_between [] worker replica = None
told_between (r ∷ rs) worker replica =
    if r.ends.worker == worker && r.ends.replica == replica then Some r.told else told_between rs worker replica

-- these are lines of one worker to the replicas from this one on, in rising number
abbrev pub AreLinesOf : ℕ → ℕ → List Ends → Type 0
AreLinesOf worker replica [] = Unit {0}
AreLinesOf worker replica (e ∷ es) =
    (e ≡ record { worker = worker; replica = replica }) × AreLinesOf worker (replica + 1) es

-- of the worker's line to each of the first replicas this is told now, and of each other line the same as before
pub record RecordsOf {T : Type 0} (before now : ℕ → ℕ → T) (worker : ℕ) (told : List T) : Type 0 where
  pub here : (replica : ℕ) (blank : T) → replica < length told → now worker replica ≡ slice_index_or told replica blank
  pub others : (w replica : ℕ) → ¬ ((w ≡ worker) × (replica < length told)) → now w replica ≡ before w replica
