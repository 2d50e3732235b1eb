-- What each step makes of a World, and what a list of them makes of it in turn.
use Rattle.std.specs.Prelude.{◌≡◌, ◌≢◌, ℕ, ◌<◌, ◌⊎◌, List, [], ◌∷◌, length, take}
use Rattle.volume_model.specs.declared.mode.Mode.TheVariants.{Rw, Err}
use Rattle.volume_model.specs.Modes.{mode_of}
use Rattle.open_calls.specs.Calls.{open_at}
use Rattle.step_answers.specs.Parts.{IsTaken, part_at}
use Rattle.step_answers.specs.declared.answers.Admit.{Admit}
use Rattle.step_answers.specs.declared.answers.Enrolled.{Enrolled}
use Rattle.step_answers.specs.declared.answers.NotThis.{NotThis}
use Rattle.volume_core.specs.Against.{AgainstWrite, AgainstRead, AgainstAck, AgainstFault, AgainstEnd}
use Rattle.volume_core.specs.Answers.{EnrolsAs, IsAnsweredNow, IsAdmit, IsRoomier, Completes}
use Rattle.volume_core.specs.Places.{IsWriteAt, IsReadAt, IsCallAt, IsWaitingAt}
use Rattle.volume_core.specs.State.{State, modes_in}
use Rattle.volume_core.specs.Steps.{without_call, wrote, has_read, acked, faulted}
use Rattle.core_laws.specs.declared.step.Step.{Step}
use Rattle.core_laws.specs.declared.step.Step.TheVariants as step
use Rattle.core_laws.specs.Guards.{MayEnrol, MayAnswer, IsWaiting, IsStream, MayFault}
use Rattle.core_laws.specs.MaintTakes.{TakesMaint, IsAgainstMaint}
use Rattle.core_laws.specs.RebuildTakes.{TakesRebuild, IsAgainstRebuild}
use Rattle.core_laws.specs.BackupTakes.{TakesBackup, IsAgainstBackup}

-- the step could be taken, and makes that of the World
abbrev pub Takes : Step → State → State → Type 0
Takes (step.Enrol stream c) s s2 = MayEnrol s stream c × ((e : Enrolled) × EnrolsAs s stream c e s2)
Takes (step.AnswerNow stream c) s s2 = MayAnswer s stream c × ((place : ℕ) × IsAnsweredNow s stream c place s2)
Takes (step.Admit t) s s2 = (a : Admit) × IsAdmit s t a s2
Takes (step.Withdraw t) s s2 = (i : ℕ) × IsWaitingAt s t i × (s2 ≡ without_call s i)
Takes (step.ApplyWrite t r) s s2 =
    (i : ℕ) × IsWriteAt s t i × (mode_of (modes_in s) r ≢ Err) × (s2 ≡ wrote s i r)
Takes (step.ApplyRead t r) s s2 =
    (i : ℕ) × IsReadAt s t i × (mode_of (modes_in s) r ≡ Rw) × (s2 ≡ has_read s i r)
Takes (step.Ack t r) s s2 =
    (i : ℕ) × IsCallAt s t i × IsTaken (part_at (open_at s.calls i).parts r) × (s2 ≡ acked s i r)
Takes (step.Fault stream r count) s s2 = MayFault s stream r count × (s2 ≡ faulted s stream r count)
Takes (step.Complete t) s s2 = Completes s t s2
Takes (step.Maint x) s s2 = TakesMaint x s s2
Takes (step.Rebuild x) s s2 = TakesRebuild x s s2
Takes (step.Backup x) s s2 = TakesBackup x s s2

-- something stands against the step: its condition or its guard fails
abbrev pub IsAgainst : Step → State → Type 0
IsAgainst (step.Enrol stream c) s = MayEnrol s stream c → ⊥
IsAgainst (step.AnswerNow stream c) s = MayAnswer s stream c → ⊥
IsAgainst (step.Admit t) s = IsWaiting s t → ⊥
IsAgainst (step.Withdraw t) s = IsWaiting s t → ⊥
IsAgainst (step.ApplyWrite t r) s = (why : NotThis) × AgainstWrite s t r why
IsAgainst (step.ApplyRead t r) s = (why : NotThis) × AgainstRead s t r why
IsAgainst (step.Ack t r) s = (why : NotThis) × AgainstAck s t r why
IsAgainst (step.Fault stream r count) s =
    (IsStream s stream → ⊥) ⊎ ((why : NotThis) × AgainstFault s stream r count why)
IsAgainst (step.Complete t) s = (why : NotThis) × AgainstEnd s t why
IsAgainst (step.Maint x) s = IsAgainstMaint x s
IsAgainst (step.Rebuild x) s = IsAgainstRebuild x s
IsAgainst (step.Backup x) s = IsAgainstBackup x s

-- the step is taken, or something stands against it, and it is skipped
abbrev pub Makes : Step → State → State → Type 0
Makes x s s2 = Takes x s s2 ⊎ (IsAgainst x s × (s2 ≡ s))

-- the steps make that of the World, one after another
abbrev pub MakeInTurn : List Step → State → State → Type 0
MakeInTurn [] s s2 = s2 ≡ s
MakeInTurn (x ∷ xs) s s2 = (middle : State) × Makes x s middle × MakeInTurn xs middle s2

-- those before one of them do, and for that one memory ran out, which leaves more places and nothing else
pub record MakeUntil (xs : List Step) (s s2 : State) : Type 0 where
  pub done : ℕ
  pub within : done < length xs
  pub middle : State
  pub made : MakeInTurn (take done xs) s middle
  pub roomier : IsRoomier middle s2
