-- No step of a stream of frames takes from others' commands what they count on: the rebuild that is open stays, with the
-- blocks of its source's frozen layers, or the fall of a replica aborts it.
use Rattle.std.proofs.Common.{◌≡◌, ℕ, List, Result, Ok, Err as Failed, OnOk, OnErr, IfOk, refl, sym, subst}
use Rattle.volume_model.specs.declared.call.Call.{Call}
use Rattle.volume_model.specs.declared.mark.Mark.TheVariants as mark
use Rattle.range_turns.specs.declared.ticket.Kind.{Kind}
use Rattle.range_turns.specs.declared.ticket.Kind.TheVariants as kind
use Rattle.range_turns.specs.Order.{ticket_at}
use Rattle.replica_node.specs.Node.{Node}
use Rattle.replica_node.specs.Room.{put_at}
use Rattle.open_calls.specs.Calls.{open_at, node_at, whole_of}
use Rattle.step_answers.specs.Parts.{part_at, IsTaken}
use Rattle.open_calls.specs.Starts.{KeepsNodes}
use Rattle.step_answers.specs.declared.answers.Admit.{Admit}
use Rattle.step_answers.specs.declared.answers.Admit.TheVariants as admit
use Rattle.step_answers.specs.declared.answers.Enrolled.{Enrolled}
use Rattle.step_answers.specs.declared.answers.Enrolled.TheVariants as enrol
use Rattle.volume_core.specs.Answers.{EnrolsAs, IsAdmit, BeginsBy, IsRoomier, IsAnsweredNow, Completes}
use Rattle.volume_core.specs.Places.{IsWriteAt, IsReadAt, IsCallAt, IsWaitingAt}
use Rattle.volume_core.specs.State.{State}
use Rattle.volume_core.specs.Steps.{with_place, without_call, wrote, has_read, acked, marked, faulted}
use Rattle.world_holder.specs.Counted.{IsRebuildKept}
use Rattle.world_holder.proofs.CountedLemmas.{kept_same, kept_roomier, kept_put, kept_fall, kept_answered}

-- it is kept
abbrev Kept : State → State → Type 0
Kept s s2 = IsRebuildKept s.rebuild s s2

-- where nothing changes
pub kept_itself : (s : State) → Kept s s
kept_itself s = kept_same s s refl refl refl

-- the World is another, with the same rebuild and the same replicas
same_in : (s z s2 : State) → s2 ≡ z → z.rebuild ≡ s.rebuild → z.ended ≡ s.ended → z.nodes ≡ s.nodes → Kept s s2
same_in s z s2 e rebuild ended nodes = subst (Kept s) (sym e) (kept_same s z rebuild ended nodes)

same : (s s2 : State) → s2 ≡ s → Kept s s2
same s s2 e = same_in s s s2 e refl refl refl

-- ---- enrolled and answered

pub kept_enrolled : {E : Type 0} (n : ℕ) (c : Call) (s s2 : State) (res : Result Enrolled E)
    → IfOk res (λ e. EnrolsAs s n c e s2) → OnErr res (s2 ≡ s) → Kept s s2
kept_enrolled n c s s2 (Ok (enrol.Ticket t)) is err = same_in s _ s2 is.1.state refl refl refl
kept_enrolled n c s s2 (Ok (enrol.OutOfRange place)) is err = same_in s _ s2 is.2 refl refl refl
kept_enrolled n c s s2 (Failed e) is err = same s s2 err

pub kept_now : {E : Type 0} (n : ℕ) (c : Call) (s s2 : State) (res : Result ℕ E)
    → IfOk res (λ place. IsAnsweredNow s n c place s2) → OnErr res (s2 ≡ s) → Kept s s2
kept_now n c s s2 (Ok place) is err = kept_answered n c place s s2 is
kept_now n c s s2 (Failed e) is err = same s s2 err

-- ---- started and taken back

roomed : (s z s2 : State) (nodes : List Node) → s2 ≡ z → z.rebuild ≡ s.rebuild → z.ended ≡ s.ended → z.nodes ≡ nodes
    → KeepsNodes s.nodes nodes → Kept s s2
roomed s z s2 nodes e rebuild ended is keeps =
    subst (Kept s) (sym e) (kept_roomier s z rebuild ended (subst (KeepsNodes s.nodes) (sym is) keeps))

kept_begun : (k : Kind) (s s2 : State) (i source : ℕ) → BeginsBy k (with_place s) i source s2 → Kept s s2
kept_begun kind.Read s s2 i source b = same_in s _ s2 b.state refl refl refl
kept_begun kind.Write s s2 i source b = roomed s _ s2 b.nodes b.state refl refl refl b.keeps
kept_begun kind.Whole s s2 i source b = absurd b

pub kept_admitted : {E : Type 0} (t : ℕ) (s s2 : State) (res : Result Admit E) → IfOk res (λ a. IsAdmit s t a s2)
    → OnErr res (IsRoomier s s2) → Kept s s2
kept_admitted t s s2 (Ok (admit.Go job)) is err = kept_begun (ticket_at s.tickets is.0).kind s s2 is.0 is.3.source is.3.begins
kept_admitted t s s2 (Ok (admit.After k)) is err = same s s2 is.3
kept_admitted t s s2 (Ok (admit.NoReplica place)) is err = same_in s _ s2 is.5 refl refl refl
kept_admitted t s s2 (Failed e) is err = roomed s _ s2 err.nodes err.state refl refl refl err.keeps

pub kept_withdrawn : (t : ℕ) (s s2 : State) → (i : ℕ) × IsWaitingAt s t i × (s2 ≡ without_call s i) → Kept s s2
kept_withdrawn t s s2 is = same_in s _ s2 is.2 refl refl refl

-- ---- on one replica

-- the bytes of a write go to its head
put : (s s2 : State) (i r : ℕ) → s2 ≡ wrote s i r → Kept s s2
put s s2 i r e = subst (Kept s) (sym e)
    (kept_put s (wrote s i r) refl refl r
    (put_at (node_at s.nodes r) (ticket_at s.tickets i).range.first (whole_of (open_at s.calls i))) refl refl)

pub kept_wrote : {E : Type 0} (t r : ℕ) (s s2 : State) (res : Result (Unit {0}) E)
    → OnOk res ((i : ℕ) × IsWriteAt s t i × (s2 ≡ wrote s i r)) → OnErr res (s2 ≡ s) → Kept s s2
kept_wrote t r s s2 (Ok u) is err = put s s2 is.0 r is.2
kept_wrote t r s s2 (Failed e) is err = same s s2 err

pub kept_read : {E : Type 0} (t r : ℕ) (into : List ℕ) (s s2 : State) (res : Result (Unit {0}) E)
    → OnOk res ((i : ℕ) × IsReadAt s t i × (s2 ≡ has_read s i r) × (into ≡ (open_at s2.calls i).buffer))
    → OnErr res (s2 ≡ s) → Kept s s2
kept_read t r into s s2 (Ok u) is err = same_in s _ s2 is.2 refl refl refl
kept_read t r into s s2 (Failed e) is err = same s s2 err

pub kept_acked : {E : Type 0} (t r : ℕ) (s s2 : State) (res : Result (Unit {0}) E)
    → OnOk res ((i : ℕ) × IsCallAt s t i × IsTaken (part_at (open_at s.calls i).parts r) × (s2 ≡ acked s i r))
    → OnErr res (s2 ≡ s) → Kept s s2
kept_acked t r s s2 (Ok u) is err = same_in s _ s2 is.3 refl refl refl
kept_acked t r s s2 (Failed e) is err = same s s2 err

pub kept_faulted : {E : Type 0} (n r count : ℕ) (s s2 : State) (res : Result (Unit {0}) E)
    → OnOk res (s2 ≡ faulted s n r count) → OnErr res (s2 ≡ s) → Kept s s2
kept_faulted n r count s s2 (Ok u) is err = subst (Kept s) (sym is) (kept_fall s (marked s (mark.Fault n r count)) refl refl refl r)
kept_faulted n r count s s2 (Failed e) is err = same s s2 err

pub kept_completed : {E : Type 0} (t : ℕ) (s s2 : State) (res : Result ℕ E) → OnOk res (Completes s t s2) → OnErr res (s2 ≡ s) → Kept s s2
kept_completed t s s2 (Ok place) is err = same_in s _ s2 is.2 refl refl refl
kept_completed t s s2 (Failed e) is err = same s s2 err
