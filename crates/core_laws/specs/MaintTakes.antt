-- What each step of the maintenance turn, on the whole volume and of folding makes of a World.
use Rattle.std.specs.Prelude.{◌≡◌, ℕ, ◌⊎◌, length, Option}
use Rattle.range_turns.specs.declared.turns.MayStart.{MayStart}
use Rattle.range_turns.specs.Order.{IsFresh}
use Rattle.step_answers.specs.declared.answers.NotThis.{NotThis}
use Rattle.volume_core.specs.State.{State}
use Rattle.volume_core.specs.Steps.{without_call}
use Rattle.step_answers.specs.declared.answers.AdmitWhole.{AdmitWhole}
use Rattle.volume_core.specs.Turn.{without_command, IsFreeTurn}
use Rattle.volume_maint.specs.Steps.{maint_enrolled, turn_abandoned}
use Rattle.volume_maint.specs.Places.{AwaitsTurn, AwaitsWhole}
use Rattle.volume_maint.specs.Answers.{TurnsTo, EndsTurn, EnrolsWhole, AdmitsWhole}
use Rattle.volume_maint.specs.Answers.{TakesPart, AcksPart, EndsWhole, FoldsPage}
use Rattle.volume_maint.specs.Answers.{AgainstEndTurn, AgainstPart, AgainstAckPart, AgainstEndWhole, AgainstFold}
use Rattle.core_laws.specs.declared.maint_step.MaintStep.{MaintStep}
use Rattle.core_laws.specs.declared.maint_step.MaintStep.TheVariants as step
use Rattle.core_laws.specs.MaintGuards.{MayWant, IsAwaitingTurn, MayEnrolWhole, IsAwaitingWhole, HasPage}

-- the step could be taken, and makes that of the World
abbrev pub TakesMaint : MaintStep → State → State → Type 0
TakesMaint (step.Enrol stream c) s s2 = MayWant s stream c × ((number : ℕ) × IsFresh s.maint number
    × (s2 ≡ maint_enrolled s number (record { stream = stream; saw = length s.book.entries; command = c })))
TakesMaint (step.Admit t) s s2 = (may : MayStart) × TurnsTo s t may s2
TakesMaint (step.Withdraw t) s s2 = (k : ℕ) × AwaitsTurn s t k × (s2 ≡ without_command s k)
TakesMaint (step.End t r) s s2 = EndsTurn s t r s2
TakesMaint (step.Abandon t) s s2 = IsFreeTurn s t × (s2 ≡ turn_abandoned s)
TakesMaint (step.EnrolWhole stream op) s s2 =
    MayEnrolWhole s stream op × ((t : Option ℕ) × EnrolsWhole s stream op t s2)
TakesMaint (step.AdmitWhole t) s s2 = (a : AdmitWhole) × AdmitsWhole s t a s2
TakesMaint (step.WithdrawWhole t) s s2 = (i : ℕ) × AwaitsWhole s t i × (s2 ≡ without_call s i)
TakesMaint (step.Part t r) s s2 = TakesPart s t r s2
TakesMaint (step.AckWhole t r) s s2 = AcksPart s t r s2
TakesMaint (step.CompleteWhole t) s s2 = EndsWhole s t s2
TakesMaint (step.FoldPage r parent page) s s2 = HasPage s page × FoldsPage s r parent page s2

-- something stands against the step: its condition or its guard fails
abbrev pub IsAgainstMaint : MaintStep → State → Type 0
IsAgainstMaint (step.Enrol stream c) s = MayWant s stream c → ⊥
IsAgainstMaint (step.Admit t) s = IsAwaitingTurn s t → ⊥
IsAgainstMaint (step.Withdraw t) s = IsAwaitingTurn s t → ⊥
IsAgainstMaint (step.End t r) s = (why : NotThis) × AgainstEndTurn s t r why
IsAgainstMaint (step.Abandon t) s = IsFreeTurn s t → ⊥
IsAgainstMaint (step.EnrolWhole stream op) s = MayEnrolWhole s stream op → ⊥
IsAgainstMaint (step.AdmitWhole t) s = IsAwaitingWhole s t → ⊥
IsAgainstMaint (step.WithdrawWhole t) s = IsAwaitingWhole s t → ⊥
IsAgainstMaint (step.Part t r) s = (why : NotThis) × AgainstPart s t r why
IsAgainstMaint (step.AckWhole t r) s = (why : NotThis) × AgainstAckPart s t r why
IsAgainstMaint (step.CompleteWhole t) s = (why : NotThis) × AgainstEndWhole s t why
IsAgainstMaint (step.FoldPage r parent page) s =
    (HasPage s page → ⊥) ⊎ ((why : NotThis) × AgainstFold s r parent why)

-- the step is taken, or something stands against it, and it is skipped
abbrev pub MakesMaint : MaintStep → State → State → Type 0
MakesMaint x s s2 = TakesMaint x s s2 ⊎ (IsAgainstMaint x s × (s2 ≡ s))
