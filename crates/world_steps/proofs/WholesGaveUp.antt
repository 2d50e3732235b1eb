-- Which streams gave a command up, as each step on the whole volume leaves it, and so what home tells of its own stream.
use Rattle.std.proofs.Common.{◌≡◌, ℕ, Bool, Option, Some, None, Result, Ok, OnOk, OnErr, IfOk, ap, ◌∙◌}
use Rattle.std.proofs.Common.{Err as Failed}
use Rattle.step_answers.specs.declared.whole_op.WholeOp.{WholeOp}
use Rattle.step_answers.specs.declared.whole_op.WholeOp.TheVariants as whole
use Rattle.volume_core.specs.State.{State, gave_up_at}
use Rattle.volume_core.specs.Steps.{with_place, without_call}
use Rattle.step_answers.specs.declared.answers.AdmitWhole.{AdmitWhole}
use Rattle.step_answers.specs.declared.answers.AdmitWhole.TheVariants as admit
use Rattle.volume_maint.specs.Steps.{without_whole}
use Rattle.volume_maint.specs.Answers as world
use Rattle.volume_maint.specs.Places as place
use Rattle.world_holder.specs.View.{IsFound}
use Rattle.world_steps.proofs.GaveUp.{flag_kept, home_kept}
use Rattle.world_steps.proofs.WholeEnds.{over_same, ends_over}

-- home after a turn of the stream, in which no stream gave a command up
pub home_whole : {A : Type 0} (a : Bool) (n : ℕ) (s x y u : State) (h h1 h2 : A) → IsFound a n s x → y.gave_up ≡ x.gave_up
    → u ≡ y → h1 ≡ h → h2 ≡ h1 → ◌≡◌ {A = A × ℕ × Bool} (h2, n, gave_up_at u.gave_up n) (h, n, gave_up_at s.gave_up n)
home_whole a n s x y u h h1 h2 found gave left first next = home_kept first next (flag_kept a n s x y u found left gave)

module _ (s s2 : State) where
  pub snap_gave : {E : Type 0} (n : ℕ) (op : WholeOp) (res : Result ℕ E)
      → IfOk res (λ k. world.EnrolsWhole s n op (Some k) s2) → OnErr res (s2 ≡ s) → s2.gave_up ≡ s.gave_up
  snap_gave n op (Ok k) x err = ap (λ (z : State). z.gave_up) x.1
  snap_gave n op (Failed e) x err = ap (λ (z : State). z.gave_up) err

  asks_gave : (n : ℕ) (op : WholeOp) (v : Option ℕ) → world.EnrolsWhole s n op v s2 → s2.gave_up ≡ s.gave_up
  asks_gave n op (Some k) x = ap (λ (z : State). z.gave_up) x.1
  asks_gave n op None x = ap (λ (z : State). z.gave_up) x.1

  pub whole_gave : {E : Type 0} (n : ℕ) (op : WholeOp) (res : Result (Option ℕ) E)
      → IfOk res (λ v. world.EnrolsWhole s n op v s2) → OnErr res (s2 ≡ s) → s2.gave_up ≡ s.gave_up
  whole_gave n op (Ok v) x err = asks_gave n op v x
  whole_gave n op (Failed e) x err = ap (λ (z : State). z.gave_up) err

  begins_gave : (i : ℕ) (op : WholeOp) → world.BeginsWhole s i op s2 → s2.gave_up ≡ s.gave_up
  begins_gave i (whole.Snapshot name) y = ap (λ (z : State). z.gave_up) y.2
  begins_gave i (whole.Remove name) y = ap (λ (z : State). z.gave_up) y.2
  begins_gave i (whole.Revert name) y = ap (λ (z : State). z.gave_up) y.2
  begins_gave i (whole.Purge f) y = ap (λ (z : State). z.gave_up) y.2
  begins_gave i (whole.Barrier r) y = ap (λ (z : State). z.gave_up) y.state

  starts_gave : (t : ℕ) (ans : AdmitWhole) → world.AdmitsWhole s t ans s2 → s2.gave_up ≡ s.gave_up
  starts_gave t admit.Go y = begins_gave y.0 y.1 y.5
  starts_gave t (admit.After number) y = ap (λ (z : State). z.gave_up) y.3
  starts_gave t admit.Never y = ap (λ (z : State). z.gave_up) y.4
  starts_gave t (admit.Refused why at) y = ap (λ (z : State). z.gave_up) y.6 ∙ (over_same y.1 (without_whole (with_place s) y.0)).gave_up

  pub admit_gave : {E : Type 0} (t : ℕ) (res : Result AdmitWhole E) → IfOk res (λ ans. world.AdmitsWhole s t ans s2)
      → OnErr res (s2 ≡ s) → s2.gave_up ≡ s.gave_up
  admit_gave t (Ok ans) y err = starts_gave t ans y
  admit_gave t (Failed e) y err = ap (λ (z : State). z.gave_up) err

  pub withdraws_gave : (t : ℕ) → (i : ℕ) × place.AwaitsWhole s t i × (s2 ≡ without_call s i) → s2.gave_up ≡ s.gave_up
  withdraws_gave t y = ap (λ (z : State). z.gave_up) y.2

  pub takes_gave : {E : Type 0} (t q : ℕ) (res : Result (Unit {0}) E) → OnOk res (world.TakesPart s t q s2)
      → OnErr res (s2 ≡ s) → s2.gave_up ≡ s.gave_up
  takes_gave t q (Ok u) y err = ap (λ (z : State). z.gave_up) y.state
  takes_gave t q (Failed e) y err = ap (λ (z : State). z.gave_up) err

  pub acks_gave : {E : Type 0} (t q : ℕ) (res : Result (Unit {0}) E) → OnOk res (world.AcksPart s t q s2)
      → OnErr res (s2 ≡ s) → s2.gave_up ≡ s.gave_up
  acks_gave t q (Ok u) y err = ap (λ (z : State). z.gave_up) y.state
  acks_gave t q (Failed e) y err = ap (λ (z : State). z.gave_up) err

  pub completes_gave : {E : Type 0} (t : ℕ) (res : Result ℕ E) → OnOk res (world.EndsWhole s t s2) → OnErr res (s2 ≡ s)
      → s2.gave_up ≡ s.gave_up
  completes_gave t (Ok at) y err = (ends_over t s s2 y).gave_up
  completes_gave t (Failed e) y err = ap (λ (z : State). z.gave_up) err
