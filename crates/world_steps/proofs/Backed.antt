-- What the reply of an ended read or write says of the replicas.
use Rattle.std.proofs.Common.{◌≡◌, ⊎_elim, ℕ, [], subst, sym, ap, ◌∙◌, ◌≢◌, zero, suc, ◌<◌, false, List, ◌∷◌, length}
use Rattle.std.proofs.Common.{◌⊎◌, inl, inr, refl}
use Rattle.range_turns.specs.Order.{ticket_at}
use Rattle.range_turns.specs.declared.ticket.Kind.TheVariants as kind
use Rattle.volume_model.specs.Modes.{mode_of}
use Rattle.volume_model.specs.declared.call.Reply.{Reply}
use Rattle.volume_model.specs.declared.call.Refusal.TheVariants.{NoReplica}
use Rattle.volume_model.specs.declared.mode.Mode.{Mode}
use Rattle.volume_model.specs.declared.mode.Mode.TheVariants.{Rw}
use Rattle.volume_model.specs.declared.call.Reply.TheVariants as reply
use Rattle.open_calls.specs.Calls.{open_at}
use Rattle.step_answers.specs.Parts.{part_at, IsTaken, is_awaited, is_pending_at}
use Rattle.step_answers.specs.declared.parts.Part.{Part}
use Rattle.step_answers.specs.declared.parts.Part.TheVariants.{Apart, Owed, Taken, Acked}
use Rattle.open_calls.specs.Clients.{IsReading}
use Rattle.open_calls.proofs.FreeLemmas.{write_no_whole, read_no_whole}
use Rattle.open_calls.proofs.PartLemmas.{up_in, rw_up, taken_in}
use Rattle.volume_core.specs.State.{State, modes_in}
use Rattle.volume_core.specs.Sound.{IsSound, IsCalm}
use Rattle.volume_core.specs.Places.{IsWriteAt}
use Rattle.volume_core.specs.Answers.{EndsWrite, EndsRead, IsWriteReply}
use Rattle.volume_core.proofs.Keep.{calm_at}
use Rattle.stream_steps.specs.Mine.{OwnCall}
use Rattle.world_holder.specs.View.{own_call}

find_acked : (parts : List Part) → ((r : ℕ) × (part_at parts r ≡ Acked)) ⊎ ((r : ℕ) → part_at parts r ≢ Acked)
find_acked [] = inr (λ r e. none r e)
  where
    none : (r : ℕ) → part_at [] r ≡ Acked → ⊥
    none r e = cc
find_acked (p ∷ ps) = first p (find_acked ps)
  where
    head_not : (p : Part) → p ≢ Acked → ((r : ℕ) → part_at ps r ≢ Acked) → (r : ℕ) → part_at (p ∷ ps) r ≢ Acked
    head_not p h k zero = h
    head_not p h k (suc r) = k r

    first : (p : Part) → ((r : ℕ) × (part_at ps r ≡ Acked)) ⊎ ((r : ℕ) → part_at ps r ≢ Acked)
        → ((r : ℕ) × (part_at (p ∷ ps) r ≡ Acked)) ⊎ ((r : ℕ) → part_at (p ∷ ps) r ≢ Acked)
    first Acked k = inl (0, refl)
    first Apart k = ⊎_elim (λ x. inl (suc x.0, x.1)) (λ x. inr (head_not Apart (λ e. cc) x)) k
    first Owed k = ⊎_elim (λ x. inl (suc x.0, x.1)) (λ x. inr (head_not Owed (λ e. cc) x)) k
    first Taken k = ⊎_elim (λ x. inl (suc x.0, x.1)) (λ x. inr (head_not Taken (λ e. cc) x)) k

acked_unless : (p : Part) → is_awaited p ≡ false → p ≢ Apart → p ≡ Acked
acked_unless Apart e n = absurd (n refl)
acked_unless Owed e n = absurd cc
acked_unless Taken e n = absurd cc
acked_unless Acked e n = refl

read_of : (a b : List ℕ) → reply.Read a ≡ reply.Read b → b ≡ a
read_of a b e = cc

-- what the reply of an ended call says of the replicas
pub record IsBacked (replicas : ℕ) (modes : List Mode) (o : OwnCall) (r : Reply) : Type 0 where
  pub done : r ≡ reply.Done → (q : ℕ) → mode_of modes q ≡ Rw → part_at o.parts q ≡ Acked
  pub read : (bytes : List ℕ) → r ≡ reply.Read bytes → (bytes ≡ o.buffer) × ((q : ℕ) × (q < replicas) × (part_at o.parts q ≡ Acked))

pub refused_backed : (replicas : ℕ) (modes : List Mode) (o : OwnCall) (r : Reply) → r ≡ reply.Refused NoReplica
    → IsBacked replicas modes o r
refused_backed replicas modes o r e =
    record { done = λ d. absurd (no_done (sym e ∙ d)); read = λ bytes d. absurd (no_read bytes (sym e ∙ d)) }
  where
    no_done : reply.Refused NoReplica ≡ reply.Done → ⊥
    no_done e = cc

    no_read : (bytes : List ℕ) → reply.Refused NoReplica ≡ reply.Read bytes → ⊥
    no_read bytes e = cc

module _ (s : State) (i : ℕ) (o : OwnCall) (ok : IsSound s) (within : i < length s.tickets)
    (is : own_call (ticket_at s.tickets i, open_at s.calls i) ≡ o) (r : Reply) where
  calm : {t : ℕ} → IsWriteAt s t i → IsCalm s
  calm at = calm_at s i ok within at.writes.started (write_no_whole (ticket_at s.tickets i).kind at.writes.writes)

  pub write_backed : (t : ℕ) → IsWriteAt s t i → EndsWrite s i r → IsBacked (length s.nodes) (modes_in s) o r
  write_backed t at e = record {
    done = λ d q read.
        let inside : q < length s.nodes = subst (λ k. q < k) (calm at).clients.agree.as_many
        (up_in (modes_in s) q (rw_up (mode_of (modes_in s) q) read)) in
        let pending : is_awaited (part_at (open_at s.calls i).parts q) ≡ false =
        subst (λ m. is_pending_at m (part_at (open_at s.calls i).parts q) ≡ false) read (e.acknowledged q inside) in
        let owed = ((calm at).clients.writes i within at.writes).owed q (rw_up (mode_of (modes_in s) q) read) in
        subst (λ (x : OwnCall). part_at x.parts q ≡ Acked) is (acked_unless (part_at (open_at s.calls i).parts q) pending owed);
    read = λ bytes d. absurd (subst (IsWriteReply (modes_in s)) d e.reply);
  }

  pub read_backed : IsReading (ticket_at s.tickets i) → EndsRead s i r → IsBacked (length s.nodes) (modes_in s) o r
  read_backed reads e = ⊎_elim
      (λ found.
      let bytes = e.bytes found.0 found.1 in
      let calm = calm_at s i ok within reads.started (read_no_whole (ticket_at s.tickets i).kind reads.reads) in
      let many : length (open_at s.calls i).parts ≡ length s.nodes =
      (calm.clients.fits i within).parts reads.started (λ whole. not_whole (sym reads.reads ∙ whole)) in
      let inside : found.0 < length s.nodes =
      subst (λ k. found.0 < k) many (taken_in (open_at s.calls i).parts found.0 (subst IsTaken (sym found.1) tt)) in
      record {
        done = λ d. absurd (no_done (open_at s.calls i).buffer (sym bytes ∙ d));
        read = λ b d. (
          read_of (open_at s.calls i).buffer b (sym bytes ∙ d) ∙ ap (λ (x : OwnCall). x.buffer) is,
          (found.0, inside, subst (λ (x : OwnCall). part_at x.parts found.0 ≡ Acked) is found.1),
        );
      })
      (λ none. refused_backed (length s.nodes) (modes_in s) o r (e.none none).0)
      (find_acked (open_at s.calls i).parts)
    where
      not_whole : kind.Read ≡ kind.Whole → ⊥
      not_whole e = cc

      no_done : (b : List ℕ) → reply.Read b ≡ reply.Done → ⊥
      no_done b e = cc
