-- No step that a stream's worker takes changes the commands that have the maintenance turn or wait for it, which
-- streams gave a command up, or the operation on the whole volume that has started.
use Rattle.std.proofs.Common.{◌≡◌, ℕ, Bool, true, false, cond, List, [], length, Result, Ok, Err as Failed, OnOk}
use Rattle.std.proofs.Common.{OnErr, IfOk, Option, Some, None, refl, ap, ◌∙◌, arith}
use Rattle.volume_model.specs.declared.call.Call.{Call}
use Rattle.volume_model.specs.declared.mark.Mark.TheVariants as mark
use Rattle.volume_model.specs.declared.mode.Mode.{Mode}
use Rattle.volume_model.specs.declared.mode.Mode.TheVariants.{Rw, Wo, Err}
use Rattle.volume_model.specs.Modes.{mode_of}
use Rattle.range_turns.specs.declared.ticket.Kind.{Kind}
use Rattle.range_turns.specs.declared.ticket.Kind.TheVariants as kind
use Rattle.range_turns.specs.Order.{ticket_at}
use Rattle.open_calls.specs.Calls.{open_at}
use Rattle.step_answers.specs.Parts.{part_at, IsTaken}
use Rattle.step_answers.specs.declared.answers.Admit.{Admit}
use Rattle.step_answers.specs.declared.answers.Admit.TheVariants as admit
use Rattle.step_answers.specs.declared.answers.Enrolled.{Enrolled}
use Rattle.step_answers.specs.declared.answers.Enrolled.TheVariants as enrol
use Rattle.volume_core.specs.Answers.{EnrolsAs, IsAdmit, BeginsBy, IsRoomier, IsAnsweredNow, Completes}
use Rattle.volume_core.specs.Answers.{failed_in, after_fail, failed_by}
use Rattle.volume_core.specs.Places.{IsWriteAt, IsReadAt, IsCallAt, IsWaitingAt}
use Rattle.volume_core.specs.State.{State, modes_in}
use Rattle.volume_core.specs.Steps.{with_place, without_call, wrote, has_read, acked, faulted, failed, marked}
use Rattle.volume_core.specs.Steps.{aborted, has_part, aborted_with, behind_fall}
use Rattle.volume_core.specs.Sound.{IsSound, AreAdds}
use Rattle.volume_core.proofs.Appends.{Appends, fall_appends}
use Rattle.open_rebuild.specs.declared.rebuilding.Rebuilding.{Rebuilding}
use Rattle.volume_core.specs.declared.world.EndedRebuild.{EndedRebuild}
use Rattle.open_calls.specs.declared.maint.MaintCall.{MaintCall}
use Rattle.open_calls.specs.declared.whole.Whole.{Whole}
use Rattle.range_turns.specs.declared.ticket.Ticket.{Ticket}

-- where there is no command, no rebuild is open
none_begun : (maint : List Ticket) (commands : List MaintCall) (b : Option Rebuilding) (g : Option EndedRebuild)
    → AreAdds maint commands b g → commands ≡ [] → b ≡ None
none_begun maint commands None g adds none = refl
none_begun maint commands (Some b) g adds none = absurd (omega (arith, adds.of_begun.turn.some, ap length none))

pub no_rebuild : (s : State) → IsSound s → s.commands ≡ [] → s.rebuild ≡ None
no_rebuild s ok none = none_begun s.maint s.commands s.rebuild s.ended ok.adds none

-- what no step changes: these commands, which streams gave a command up, and that operation
pub record Rest : Type 0 where
  pub commands : List MaintCall
  pub gave_up : List Bool
  pub whole : Option Whole

abbrev pub rest_of : State → Rest
rest_of s = record { commands = s.commands; gave_up = s.gave_up; whole = s.whole }

rest_behind : (n : ℕ) (s s1 : State) → Appends n s s1 → s1.whole ≡ s.whole → rest_of s1 ≡ rest_of s
rest_behind n s s1 a e = λ i. record { commands = a.commands i; gave_up = a.gave_up i; whole = e i }

-- a fall ends a rebuild at most
fall_whole : (s : State) (r : ℕ) → (behind_fall s r).whole ≡ s.whole
fall_whole s r = by s.rebuild
  where
    chosen : (c : Bool) (target : ℕ) → (cond c (aborted s target) s).whole ≡ s.whole
    chosen true target = refl
    chosen false target = refl

    by : (b : Option Rebuilding) → (aborted_with b s r).whole ≡ s.whole
    by None = refl
    by (Some b) = chosen (has_part (Some b) r) b.target

same_turns : (s s2 : State) → s2 ≡ s → rest_of s2 ≡ rest_of s
same_turns s s2 e = ap rest_of e

-- ---- enrolled and answered

pub turns_enrolled : {E : Type 0} (n : ℕ) (c : Call) (s s2 : State) (res : Result Enrolled E)
    → IfOk res (λ e. EnrolsAs s n c e s2) → OnErr res (s2 ≡ s) → rest_of s2 ≡ rest_of s
turns_enrolled n c s s2 (Ok (enrol.Ticket t)) is err = ap rest_of is.1.state
turns_enrolled n c s s2 (Ok (enrol.OutOfRange place)) is err = ap rest_of is.2
turns_enrolled n c s s2 (Failed e) is err = same_turns s s2 err

failed_turns : (s : State) (r : ℕ) (m : Mode) → rest_of (failed_in m s r) ≡ rest_of s
failed_turns s r Rw = rest_behind 0 s (failed s r) (fall_appends 0 s (mark.Failed r) r tt) (fall_whole (marked s (mark.Failed r)) r)
failed_turns s r Wo = rest_behind 0 s (failed s r) (fall_appends 0 s (mark.Failed r) r tt) (fall_whole (marked s (mark.Failed r)) r)
failed_turns s r Err = refl

after_turns : (s : State) (f : Option ℕ) → rest_of (after_fail s f) ≡ rest_of s
after_turns s None = refl
after_turns s (Some r) = failed_turns s r (mode_of (modes_in s) r)

pub turns_answered : {E : Type 0} (n : ℕ) (c : Call) (s s2 : State) (res : Result ℕ E)
    → IfOk res (λ place. IsAnsweredNow s n c place s2) → OnErr res (s2 ≡ s) → rest_of s2 ≡ rest_of s
turns_answered n c s s2 (Ok place) is err = ap rest_of is.state ∙ after_turns (with_place s) (failed_by c)
turns_answered n c s s2 (Failed e) is err = same_turns s s2 err

-- ---- started and taken back

begun_turns : (k : Kind) (s s2 : State) (i source : ℕ) → BeginsBy k (with_place s) i source s2 → rest_of s2 ≡ rest_of s
begun_turns kind.Read s s2 i source b = ap rest_of b.state
begun_turns kind.Write s s2 i source b = ap rest_of b.state
begun_turns kind.Whole s s2 i source b = absurd b

pub turns_admitted : {E : Type 0} (t : ℕ) (s s2 : State) (res : Result Admit E) → IfOk res (λ a. IsAdmit s t a s2)
    → OnErr res (IsRoomier s s2) → rest_of s2 ≡ rest_of s
turns_admitted t s s2 (Ok (admit.Go job)) is err = begun_turns (ticket_at s.tickets is.0).kind s s2 is.0 is.3.source is.3.begins
turns_admitted t s s2 (Ok (admit.After k)) is err = same_turns s s2 is.3
turns_admitted t s s2 (Ok (admit.NoReplica place)) is err = ap rest_of is.5
turns_admitted t s s2 (Failed e) is err = ap rest_of err.state

pub turns_withdrawn : (t : ℕ) (s s2 : State) → (i : ℕ) × IsWaitingAt s t i × (s2 ≡ without_call s i) → rest_of s2 ≡ rest_of s
turns_withdrawn t s s2 is = ap rest_of is.2

-- ---- on one replica

pub turns_wrote : {E : Type 0} (t r : ℕ) (s s2 : State) (res : Result (Unit {0}) E)
    → OnOk res ((i : ℕ) × IsWriteAt s t i × (s2 ≡ wrote s i r)) → OnErr res (s2 ≡ s) → rest_of s2 ≡ rest_of s
turns_wrote t r s s2 (Ok u) is err = ap rest_of is.2
turns_wrote t r s s2 (Failed e) is err = same_turns s s2 err

pub turns_read : {E : Type 0} (t r : ℕ) (into : List ℕ) (s s2 : State) (res : Result (Unit {0}) E)
    → OnOk res ((i : ℕ) × IsReadAt s t i × (s2 ≡ has_read s i r) × (into ≡ (open_at s2.calls i).buffer))
    → OnErr res (s2 ≡ s) → rest_of s2 ≡ rest_of s
turns_read t r into s s2 (Ok u) is err = ap rest_of is.2
turns_read t r into s s2 (Failed e) is err = same_turns s s2 err

pub turns_acked : {E : Type 0} (t r : ℕ) (s s2 : State) (res : Result (Unit {0}) E)
    → OnOk res ((i : ℕ) × IsCallAt s t i × IsTaken (part_at (open_at s.calls i).parts r) × (s2 ≡ acked s i r))
    → OnErr res (s2 ≡ s) → rest_of s2 ≡ rest_of s
turns_acked t r s s2 (Ok u) is err = ap rest_of is.3
turns_acked t r s s2 (Failed e) is err = same_turns s s2 err

pub turns_faulted : {E : Type 0} (n r count : ℕ) (s s2 : State) (res : Result (Unit {0}) E)
    → OnOk res (s2 ≡ faulted s n r count) → OnErr res (s2 ≡ s) → rest_of s2 ≡ rest_of s
turns_faulted n r count s s2 (Ok u) is err = ap rest_of is
    ∙ rest_behind n s (faulted s n r count) (fall_appends n s (mark.Fault n r count) r refl)
    (fall_whole (marked s (mark.Fault n r count)) r)
turns_faulted n r count s s2 (Failed e) is err = same_turns s s2 err

pub turns_completed : {E : Type 0} (t : ℕ) (s s2 : State) (res : Result ℕ E) → OnOk res (Completes s t s2)
    → OnErr res (s2 ≡ s) → rest_of s2 ≡ rest_of s
turns_completed t s s2 (Ok place) is err = ap rest_of is.2
turns_completed t s s2 (Failed e) is err = same_turns s s2 err
