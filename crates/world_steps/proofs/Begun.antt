-- What a stream knows of the rebuild that its add began, while the add has the turn: whatever others do, it stays open or is
-- aborted.
use Rattle.std.proofs.Common.{◌≡◌, ℕ, Bool, true, false, cond, ◌⊎◌, inl, inr, Option, None, Some, IsSome}
use Rattle.std.proofs.Common.{Result, Ok, OnOk, OnErr, subst, sym, refl, ap, ◌∙◌, arith}
use Rattle.std.proofs.Common.{Err as Failed}
use Rattle.volume_model.specs.declared.command.Command.{Command}
use Rattle.volume_model.specs.declared.command.Command.TheVariants as command
use Rattle.volume_model.specs.declared.mark.Mark.TheVariants as mark
use Rattle.volume_model.specs.Modes.{source_of}
use Rattle.volume_model.proofs.SpotLemmas.{has_source, no_source}
use Rattle.range_turns.specs.Order.{ticket_at}
use Rattle.step_answers.specs.declared.whole_op.WholeOp.{WholeOp}
use Rattle.step_answers.specs.declared.whole_op.WholeOp.TheVariants as whole
use Rattle.open_calls.specs.declared.maint.MaintCall.{MaintCall}
use Rattle.open_calls.specs.Maint.{command_at, IsAskedBy, HasTurn}
use Rattle.open_rebuild.specs.declared.rebuilding.Rebuilding.{Rebuilding}
use Rattle.volume_core.specs.State.{State, modes_in}
use Rattle.volume_core.specs.Sound.{IsSound}
use Rattle.volume_core.specs.Steps.{aborted, aborted_with, behind_fall, faulted, has_part, marked}
use Rattle.volume_core.specs.Streams.{turning}
use Rattle.volume_maint.specs.Answers as world
use Rattle.volume_maint.specs.Answers.{whole_done, whole_lost}
use Rattle.volume_maint.specs.Steps.{barrier_ended}
use Rattle.stream_steps.specs.Mine.{OwnCall}
use Rattle.stream_steps.specs.Maint as stream
use Rattle.world_holder.specs.Counted.{IsRebuildKept, WasAborted}
use Rattle.world_holder.specs.Laid.{IsLater}
use Rattle.world_holder.proofs.CountedLemmas.{kept_in_turn}
use Rattle.world_steps.proofs.Places.{turn_place, first}
use Rattle.world_steps.proofs.Queue.{first_only}
use Rattle.world_steps.proofs.RebuildKept.{kept_faulted}
use Rattle.world_steps.proofs.Shapes.{has_call, has_turn}
use Rattle.world_steps.proofs.Wholes.{HasSome, whole_op}
use Rattle.world_steps.specs.Rebuild.{AddsInTurn, IsBegunIn, IsOpenFrom, IsUnbegun}
use Rattle.world_holder.specs.View.{view, IsFound}

-- ---- whose turn it is

-- the first command is it
pub adds_first : (n r : ℕ) (s : State) → IsSound s → AddsInTurn n r s → (command_at s.commands 0).command ≡ command.Add r
adds_first n r s ok its =
    let at = turn_place n s its.p ok its.turns in
    ap (λ k. (command_at s.commands k).command) (sym (first n s its.p at ok its.started))
    ∙ ap (λ (c : MaintCall). c.command) at.command ∙ its.adds

pub first_adds : (n r : ℕ) (s : State) → IsSound s → HasTurn s.maint s.commands n (command.Add r) → AddsInTurn n r s
first_adds n r s ok turn = record {
  p = (ticket_at s.maint 0, command_at s.commands 0);
  turns = first_only n s.maint s.commands turn.some ok.maint.queued.paired turn.own ok.maint.queued.alone;
  started = turn.started;
  adds = turn.command;
}

-- so nothing else is asked for the whole volume but its barrier
module _ (n r : ℕ) (s : State) (ok : IsSound s) (its : AddsInTurn n r s) where
  not_here : (c : Command) → (command.Add r ≡ c → ⊥) → HasTurn s.maint s.commands n c → ⊥
  not_here c other turn = other (sym (adds_first n r s ok its) ∙ turn.command)

  none_else : (op : WholeOp) → IsAskedBy s.maint s.commands n op → (q : ℕ) × (op ≡ whole.Barrier q)
  none_else (whole.Snapshot name) asked =
      let at = turn_place n s its.p ok its.turns in
      absurd (asked.1 at.place (omega (arith, at.stands.within, ok.maint.queued.paired))
      (ap (λ (c : MaintCall). c.stream) at.command ∙ at.by))
  none_else (whole.Remove name) asked = absurd (not_here (command.Remove name) (λ e. cc) asked)
  none_else (whole.Revert name) asked = absurd (not_here (command.Revert name) (λ e. cc) asked)
  none_else (whole.Purge f) asked = absurd (not_here command.Purge (λ e. cc) asked)
  none_else (whole.Barrier q) asked = (q, refl)

-- ---- what others do, and the steps of its own

module _ (n : ℕ) (s t : State) (past : Bool) (source r : ℕ) where
  open_kept : IsRebuildKept s.rebuild s t → IsOpenFrom s past source r ⊎ WasAborted s → IsOpenFrom t past source r ⊎ WasAborted t
  open_kept kept (inl is) = by (subst (λ (o : Option Rebuilding). IsRebuildKept o s t) is.is kept)
    where
      by : IsRebuildKept (Some is.b) s t → IsOpenFrom t past source r ⊎ WasAborted t
      by (inl on) = inl (record { b = is.b; is = on.is; from = is.from; to = is.to; ended = is.ended })
      by (inr off) = inr off
  open_kept kept (inr off) =
      let none = subst (λ (o : Option Rebuilding). IsRebuildKept o s t) off.none kept in
      inr (record { none = none.none; ended = subst IsSome (sym none.ended) off.ended })

  -- the turn stays, and the rebuild is kept
  pub begun_then : turning t n ≡ turning s n → IsRebuildKept s.rebuild s t → IsBegunIn n s past source r → IsBegunIn n t past source r
  begun_then turns kept begun =
      let its = begun.turn in
      record {
        turn = record { p = its.p; turns = turns ∙ its.turns; started = its.started; adds = its.adds };
        is = open_kept kept begun.is;
      }

  -- so it is of what is found
  pub begun_found : IsLater n s t → IsBegunIn n s past source r → IsBegunIn n t past source r
  begun_found later begun =
      let its = begun.turn in
      begun_then later.turns (kept_in_turn n s t its.p.0 its.p.1 later its.turns its.started) begun

-- where a command of the stream has the turn that began none, it is so of what is found too
pub unbegun_found : (a : Bool) (n t : ℕ) (s x : State) → IsFound a n s x → (c : Command)
    → ((o : OwnCall) × stream.HasTurn t c o (view a n x)) → IsUnbegun s → IsUnbegun x
unbegun_found a n t s x found c h none =
    let one = has_turn a n x h.0 c found.sound h.1.is h.1.call h.1.wants in
    let kept = kept_in_turn n s x one.p.0 one.p.1 found.later (sym found.later.turns ∙ one.turns)
    (ap (λ (y : OwnCall). y.started) one.is ∙ h.1.started) in
    let still = subst (λ (o : Option Rebuilding). IsRebuildKept o s x) none.closed kept in
    record { closed = still.none; first = still.ended ∙ none.first }

-- neither the turn nor the rebuild changes
pub record IsSameTurn (n : ℕ) (s t : State) : Type 0 where
  pub turns : turning t n ≡ turning s n
  pub rebuild : t.rebuild ≡ s.rebuild
  pub ended : t.ended ≡ s.ended

pub same_turn : (n : ℕ) (s t : State) → t ≡ s → IsSameTurn n s t
same_turn n s t e = record {
  turns = ap (λ (z : State). turning z n) e;
  rebuild = ap (λ (z : State). z.rebuild) e;
  ended = ap (λ (z : State). z.ended) e;
}

pub begun_same : (n : ℕ) (s t : State) (past : Bool) (source r : ℕ) → IsSameTurn n s t → IsBegunIn n s past source r
    → IsBegunIn n t past source r
begun_same n s t past source r same begun =
    let its = begun.turn in
    record {
      turn = record { p = its.p; turns = same.turns ∙ its.turns; started = its.started; adds = its.adds };
      is = by begun.is;
    }
  where
    by : IsOpenFrom s past source r ⊎ WasAborted s → IsOpenFrom t past source r ⊎ WasAborted t
    by (inl is) = inl (record { b = is.b; is = same.rebuild ∙ is.is; from = is.from; to = is.to; ended = is.ended })
    by (inr off) = inr (record { none = same.rebuild ∙ off.none; ended = subst IsSome (sym same.ended) off.ended })

-- ---- a replica falls

fall_turns : (n r : ℕ) (s : State) → turning (behind_fall s r) n ≡ turning s n
fall_turns n r s = by s.rebuild
  where
    chosen : (c : Bool) (target : ℕ) → turning (cond c (aborted s target) s) n ≡ turning s n
    chosen true target = refl
    chosen false target = refl

    by : (b : Option Rebuilding) → turning (aborted_with b s r) n ≡ turning s n
    by None = refl
    by (Some b) = chosen (has_part (Some b) r) b.target

pub begun_fall : {E : Type 0} (n q count : ℕ) (s t : State) (res : Result (Unit {0}) E) → OnOk res (t ≡ faulted s n q count)
    → OnErr res (t ≡ s) → (past : Bool) (source r : ℕ) → IsBegunIn n s past source r → IsBegunIn n t past source r
begun_fall {E = E} n q count s t res ok err past source r =
    begun_then n s t past source r (turns res ok err) (kept_faulted n q count s t res ok err)
  where
    turns : (z : Result (Unit {0}) E) → OnOk z (t ≡ faulted s n q count) → OnErr z (t ≡ s) → turning t n ≡ turning s n
    turns (Ok u) e err = ap (λ (z : State). turning z n) e ∙ fall_turns n q (marked s (mark.Fault n q count))
    turns (Failed f) ok err = ap (λ (z : State). turning z n) err

-- ---- its barrier ends

module _ (n : ℕ) (s t : State) (source r : ℕ) where
  past_it : (i : ℕ) → t ≡ barrier_ended s i → (p q : Bool) → IsBegunIn n s p source r → IsBegunIn n t q source r
  past_it i e p q begun = subst (λ (z : State). IsBegunIn n z q source r) (sym e) (record {
    turn = record { p = begun.turn.p; turns = begun.turn.turns; started = begun.turn.started; adds = begun.turn.adds };
    is = by begun.is;
  })
    where
      by : IsOpenFrom s p source r ⊎ WasAborted s → IsOpenFrom (barrier_ended s i) q source r ⊎ WasAborted (barrier_ended s i)
      by (inl is) = inl (record {
        b = record is.b { may_copy = true };
        is = ap (λ (o : Option Rebuilding). (barrier_ended (record s { rebuild = o }) i).rebuild) is.is;
        from = is.from;
        to = is.to;
        ended = λ past. refl;
      })
      by (inr off) = inr (record {
        none = ap (λ (o : Option Rebuilding). (barrier_ended (record s { rebuild = o }) i).rebuild) off.none;
        ended = off.ended;
      })

  -- whatever ends for the stream whose add has the turn
  module _ (a : Bool) (k : ℕ) (ok : IsSound s) (some : HasSome k (view a n s)) where
    barrier_over : (i q : ℕ) (op : WholeOp) → op ≡ whole.Barrier q → (t ≡ whole_done s i op) ⊎ (t ≡ whole_lost s i op)
        → t ≡ barrier_ended s i
    barrier_over i q op is (inl e) = e ∙ ap (whole_done s i) is
    barrier_over i q op is (inr e) = e ∙ ap (whole_lost s i) is

    ends_as : (y : world.EndsWhole s k t) → (t ≡ whole_done s y.i y.w.op) ⊎ (t ≡ whole_lost s y.i y.w.op)
    ends_as y = by (source_of (modes_in s)) refl
      where
        by : (v : Option ℕ) → source_of (modes_in s) ≡ v → (t ≡ whole_done s y.i y.w.op) ⊎ (t ≡ whole_lost s y.i y.w.op)
        by (Some at) e = inl (y.done (has_source (modes_in s) at e))
        by None e = inr (y.lost (no_source (modes_in s) e))

    pub begun_past : world.EndsWhole s k t → (p q : Bool) → IsBegunIn n s p source r → IsBegunIn n t q source r
    begun_past y p q begun =
        let x = has_call a n s k some.0 some.1 some.2 ok some.3 in
        let same = whole_op a n s k some.0 some.1 some.2 x ok y.w y.at.is y.at.number in
        let barrier = none_else n r s ok begun.turn some.0 x.asked in
        past_it y.i (barrier_over y.i barrier.0 y.w.op (same ∙ barrier.1) (ends_as y)) p q begun

-- ---- in one turn: the World that was seen as s is found as x, left as y, and seen so as u

module _ (a : Bool) (n : ℕ) (s x y u : State) (found : IsFound a n s x) (left : u ≡ y) (past : Bool) (source r : ℕ) where
  pub begun_over : (IsBegunIn n x past source r → IsBegunIn n y past source r) → IsBegunIn n s past source r
      → IsBegunIn n u past source r
  begun_over step begun =
      subst (λ (z : State). IsBegunIn n z past source r) (sym left) (step (begun_found n s x past source r found.later begun))
