-- A call that a replica has acknowledged, and that ends thereby or cannot end yet.
use Rattle.std.specs.Prelude.{◌≡◌, ℕ, Bool, true, false}
use Rattle.step_answers.specs.Parts.{part_at, IsTaken}
use Rattle.step_answers.specs.declared.answers.NotThis.{NotThis}
use Rattle.open_calls.specs.Calls.{open_at}
use Rattle.volume_core.specs.State.{State}
use Rattle.volume_core.specs.Places.{IsCallAt}
use Rattle.volume_core.specs.Steps.{acked}
use Rattle.volume_core.specs.Answers.{Completes}
use Rattle.volume_core.specs.Against.{AgainstEnd}
use Rattle.volume_core.specs.Streams.{ForOwner, MayGo, IsAnsweredTo}

-- the call ends, and its owner sees its answer
pub record Ends (s : State) (t : ℕ) (s2 : State) : Type 0 where
  pub completes : Completes s t s2
  pub may : ForOwner t s (λ n c. MayGo n s s2)
  pub sees : ForOwner t s (λ n c. IsAnsweredTo n c s s2)

-- it goes on, and this stands against its end
pub record GoesOnAcked (s : State) (t : ℕ) (s2 : State) : Type 0 where
  pub same : s2 ≡ s
  pub against : NotThis
  pub why : AgainstEnd s t against

abbrev pub EndsOrNot : State → ℕ → Bool → State → Type 0
EndsOrNot s t true s2 = Ends s t s2
EndsOrNot s t false s2 = GoesOnAcked s t s2

-- a replica, which had its step of the call, has acknowledged it, and there it ends or goes on
pub record AcksThen (s : State) (t r : ℕ) (ended : Bool) (s2 : State) : Type 0 where
  pub between : State
  pub acks : (i : ℕ) × IsCallAt s t i × IsTaken (part_at (open_at s.calls i).parts r) × (between ≡ acked s i r)
  pub may : ForOwner t s (λ n c. MayGo n s between)
  pub ends : EndsOrNot between t ended s2
