-- What steps of commands leave as it is: the operation on the whole volume that has started, and which streams gave a
-- command up, of which home tells.
use Rattle.std.proofs.Common.{◌≡◌, ℕ, Bool, List, Result, Ok, OnOk, OnErr, IfOk, ap, ◌∙◌}
use Rattle.std.proofs.Common.{Err as Failed}
use Rattle.volume_model.specs.declared.command.Command.{Command}
use Rattle.range_turns.specs.declared.turns.MayStart.{MayStart}
use Rattle.range_turns.specs.declared.turns.MayStart.TheVariants as may_start
use Rattle.volume_model.specs.declared.call.Reply.{Reply}
use Rattle.volume_core.specs.State.{State, gave_up_at}
use Rattle.volume_maint.specs.Steps.{maint_enrolled}
use Rattle.volume_maint.specs.Answers as world
use Rattle.world_holder.specs.View.{IsFound}
use Rattle.world_steps.proofs.Turns.{asked}

-- what is known of it after a turn of the stream, in which no stream gave a command up
pub flag_kept : (a : Bool) (n : ℕ) (s x y u : State) → IsFound a n s x → u ≡ y → y.gave_up ≡ x.gave_up
    → gave_up_at u.gave_up n ≡ gave_up_at s.gave_up n
flag_kept a n s x y u found left gave =
    ap (λ (z : State). gave_up_at z.gave_up n) left ∙ ap (λ (l : List Bool). gave_up_at l n) gave ∙ found.later.gave_up

-- and home then: the holder's, the stream, and that
pub home_kept : {A : Type 0} {n : ℕ} {h h1 h2 : A} {b b2 : Bool} → h1 ≡ h → h2 ≡ h1 → b2 ≡ b → ◌≡◌ {A = A × ℕ × Bool} (h2, n, b2) (h, n, b)
home_kept {n = n} first next flag = λ i. ((next ∙ first) i, n, flag i)

-- the operation on the whole volume and what is known of commands that were given up are as they were
pub record KeepsWhole (s s2 : State) : Type 0 where
  pub whole : s2.whole ≡ s.whole
  pub gave_up : s2.gave_up ≡ s.gave_up

module _ (s s2 : State) where
  pub still_same : s2 ≡ s → KeepsWhole s s2
  still_same e = record { whole = ap (λ (z : State). z.whole) e; gave_up = ap (λ (z : State). z.gave_up) e }

  pub enrols_still : {E : Type 0} (n : ℕ) (c : Command) (res : Result ℕ E)
      → IfOk res (λ number. s2 ≡ maint_enrolled s number (asked n c s)) → OnErr res (s2 ≡ s) → KeepsWhole s s2
  enrols_still n c (Ok number) e err = record { whole = ap (λ (z : State). z.whole) e; gave_up = ap (λ (z : State). z.gave_up) e }
  enrols_still n c (Failed x) e err = still_same err

  pub admits_still : (t : ℕ) (told : MayStart) → world.TurnsTo s t told s2 → KeepsWhole s s2
  admits_still t may_start.Yes x = record { whole = ap (λ (z : State). z.whole) x.1; gave_up = ap (λ (z : State). z.gave_up) x.1 }
  admits_still t (may_start.After number) x = still_same x.4

  pub ends_still : {E : Type 0} (t : ℕ) (y : Reply) (res : Result ℕ E) → OnOk res (world.EndsTurn s t y s2)
      → OnErr res (s2 ≡ s) → KeepsWhole s s2
  ends_still t y (Ok at) x err =
      record { whole = ap (λ (z : State). z.whole) x.state; gave_up = ap (λ (z : State). z.gave_up) x.state }
  ends_still t y (Failed e) x err = still_same err

  pub folds_still : {E : Type 0} (q page : ℕ) (p : List ℕ) (res : Result (Unit {0}) E)
      → OnOk res (world.FoldsPage s q p page s2) → OnErr res (s2 ≡ s) → KeepsWhole s s2
  folds_still q page p (Ok u) y err =
      record { whole = ap (λ (z : State). z.whole) y.state; gave_up = ap (λ (z : State). z.gave_up) y.state }
  folds_still q page p (Failed e) y err = still_same err
