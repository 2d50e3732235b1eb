-- A step that tells why it is refused was taken, or something stands against it and nothing has changed.
use Rattle.std.proofs.Common.{◌≡◌, ◌≢◌, ℕ, Result, Ok, Err as Failed, OnOk, OnErr, IfErr, inl, inr}
use Rattle.volume_model.specs.declared.call.Reply.{Reply}
use Rattle.volume_model.specs.declared.mode.Mode.TheVariants.{Rw, Err}
use Rattle.volume_model.specs.Modes.{mode_of}
use Rattle.open_calls.specs.Calls.{open_at}
use Rattle.step_answers.specs.Parts.{IsTaken, part_at}
use Rattle.step_answers.specs.declared.answers.NotThis.{NotThis}
use Rattle.volume_core.specs.Against.{AgainstWrite, AgainstRead, AgainstAck}
use Rattle.volume_core.specs.Places.{IsWriteAt, IsReadAt, IsCallAt}
use Rattle.volume_core.specs.State.{State, modes_in}
use Rattle.volume_core.specs.Steps.{wrote, has_read, acked}
use Rattle.volume_maint.specs.Answers.{EndsTurn, AgainstEndTurn}
use Rattle.core_laws.specs.declared.step.Step.TheVariants as step
use Rattle.core_laws.specs.declared.maint_step.MaintStep.TheVariants as maint_step
use Rattle.core_laws.specs.Takes.{Makes}
use Rattle.core_laws.specs.MaintTakes.{MakesMaint}

module _ {A : Type 0} (s s2 : State) (t : ℕ) (res : Result A NotThis) (same : OnErr res (s2 ≡ s)) where
  pub write_made : (r : ℕ) → OnOk res ((i : ℕ) × IsWriteAt s t i × (s2 ≡ wrote s i r))
      → OnOk res (mode_of (modes_in s) r ≢ Err) → IfErr res (AgainstWrite s t r) → Makes (step.ApplyWrite t r) s s2
  write_made r = by res same
    where
      by : (x : Result A NotThis) → OnErr x (s2 ≡ s) → OnOk x ((i : ℕ) × IsWriteAt s t i × (s2 ≡ wrote s i r))
          → OnOk x (mode_of (modes_in s) r ≢ Err) → IfErr x (AgainstWrite s t r) → Makes (step.ApplyWrite t r) s s2
      by (Ok a) stays taken up why = inl (taken.0, taken.1, up, taken.2)
      by (Failed e) stays taken up why = inr ((e, why), stays)

  pub read_made : (r : ℕ) (rest : ℕ → Type 0) → OnOk res ((i : ℕ) × IsReadAt s t i × (s2 ≡ has_read s i r) × rest i)
      → OnOk res (mode_of (modes_in s) r ≡ Rw) → IfErr res (AgainstRead s t r) → Makes (step.ApplyRead t r) s s2
  read_made r rest = by res same
    where
      by : (x : Result A NotThis) → OnErr x (s2 ≡ s) → OnOk x ((i : ℕ) × IsReadAt s t i × (s2 ≡ has_read s i r) × rest i)
          → OnOk x (mode_of (modes_in s) r ≡ Rw) → IfErr x (AgainstRead s t r) → Makes (step.ApplyRead t r) s s2
      by (Ok a) stays taken up why = inl (taken.0, taken.1, up, taken.2)
      by (Failed e) stays taken up why = inr ((e, why), stays)

  pub ack_made : (r : ℕ) → OnOk res ((i : ℕ) × IsCallAt s t i × IsTaken (part_at (open_at s.calls i).parts r) × (s2 ≡ acked s i r))
      → IfErr res (AgainstAck s t r) → Makes (step.Ack t r) s s2
  ack_made r = by res same
    where
      by : (x : Result A NotThis) → OnErr x (s2 ≡ s)
          → OnOk x ((i : ℕ) × IsCallAt s t i × IsTaken (part_at (open_at s.calls i).parts r) × (s2 ≡ acked s i r))
          → IfErr x (AgainstAck s t r) → Makes (step.Ack t r) s s2
      by (Ok a) stays taken why = inl taken
      by (Failed e) stays taken why = inr ((e, why), stays)

  pub end_made : (r : Reply) → OnOk res (EndsTurn s t r s2) → IfErr res (AgainstEndTurn s t r)
      → MakesMaint (maint_step.End t r) s s2
  end_made r = by res same
    where
      by : (x : Result A NotThis) → OnErr x (s2 ≡ s) → OnOk x (EndsTurn s t r s2)
          → IfErr x (AgainstEndTurn s t r) → MakesMaint (maint_step.End t r) s s2
      by (Ok a) stays taken why = inl taken
      by (Failed e) stays taken why = inr ((e, why), stays)
