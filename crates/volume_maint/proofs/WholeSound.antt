-- Each step of a call on the whole volume that has started keeps the invariant.
use Rattle.std.proofs.Common.{◌≡◌, ◌≢◌, ℕ, ◌+◌, ◌<◌, ◌≤◌, ◌^◌, List, [], ◌∷◌, length, sym, subst, ◌∙◌, arith}
use Rattle.std.specs.Prelude.{Option, Some, IfSome}
use Rattle.volume_model.specs.declared.entry.Entry.{Entry}
use Rattle.volume_model.specs.Modes.{mode_of}
use Rattle.volume_model.specs.declared.mode.Mode.TheVariants.{Err}
use Rattle.volume_model.specs.PlainState.{PlainState}
use Rattle.volume_model.specs.Replay.{replay, after_entry}
use Rattle.volume_model.proofs.OwnNames.{entry_raises}
use Rattle.step_answers.specs.declared.parts.Part.TheVariants.{Owed}
use Rattle.open_calls.specs.Calls.{node_at}
use Rattle.step_answers.specs.Parts.{part_at, IsTaken}
use Rattle.open_calls.specs.declared.whole.Whole.{Whole}
use Rattle.open_calls.specs.Due.{due, due_of, forms, formed}
use Rattle.open_calls.specs.Whole.{IsWhole, IsStarted, IsFit, spare_at}
use Rattle.open_calls.proofs.Ops.{fits}
use Rattle.open_calls.proofs.PartSteps.{part_taken, part_told, parted_clients, told_clients, part_maint, owed_in}
use Rattle.open_rebuild.specs.Claim.{IsRebuilding}
use Rattle.open_rebuild.proofs.WholeSteps as rebuilds
use Rattle.volume_core.specs.State.{State, opening_of, told_of, modes_in}
use Rattle.volume_core.specs.Sound.{IsSound, IsSoundOn}
use Rattle.volume_core.proofs.TurnLemmas.{told_named}
use Rattle.volume_maint.specs.Steps.{whole_parted, whole_acked}
use Rattle.volume_maint.specs.Places.{IsWholeOn}
use Rattle.volume_maint.specs.Answers.{AcksPart}

-- ---- what the journal tells

-- each entry raises the head's number by one at most
replay_raises : (p : PlainState) (es : List Entry) → (replay p es).volume.snapshots.number ≤ p.volume.snapshots.number + length es
replay_raises p [] = omega arith
replay_raises p (e ∷ es) = omega (arith, entry_raises p e, replay_raises (after_entry p e) es)

pub number_fits : (s : State) → IsSound s → length s.book.entries < 2 ^ 63 → (told_of s).volume.snapshots.number + 1 < 2 ^ 64
number_fits s ok few = omega (arith, replay_raises (opening_of s).state s.book.entries, ok.on.opened.number, few)

-- ---- the call that has started

module _ (s : State) (w : Whole) (ok : IsSound s) (is : s.whole ≡ Some w) where
  pub is_started : IsStarted (told_of s) (modes_in s) s.tickets s.calls s.nodes w
  is_started = subst (λ (x : Option Whole). IsWhole (told_of s) (modes_in s) s.tickets s.calls s.nodes x) is ok.whole

  pub on_due : IsSoundOn (due_of w.op (told_of s).volume) (formed w.op w.parts s.nodes) s
  on_due = subst (λ (x : Option Whole). IsSoundOn (due x (told_of s).volume) (forms x s.nodes) s) is ok.on

  pub its_rebuild : IsRebuilding s.size (modes_in s) s.tickets s.calls (Some w) s.nodes s.rebuild
  its_rebuild = subst (λ (x : Option Whole). IsRebuilding s.size (modes_in s) s.tickets s.calls x s.nodes s.rebuild) is ok.rebuild

  -- it stands there and nowhere else
  pub place_is : (t i : ℕ) → IsWholeOn s t w i → i ≡ is_started.place
  place_is t i at = is_started.stands.only i at.stands.within (at.stands.is ∙ sym at.number)

  -- ---- a replica takes its part

  module _ (r : ℕ) (owed : part_at w.parts r ≡ Owed) where
    pub part_fits : length s.book.entries < 2 ^ 63 → mode_of (modes_in s) r ≢ Err → IsFit w.op (node_at s.nodes r)
    part_fits few up =
        fits w.op (told_of s) (node_at s.nodes r) (spare_at w.spares r) (told_named s ok) (is_started.takes r up owed)
        is_started.may (number_fits s ok few)

    pub part_there : r < length s.nodes
    part_there = omega (arith, owed_in w.parts r owed, is_started.parts)

    pub part_kept : IsSound (whole_parted s w r)
    part_kept = record {
      on = record {
        opened = on_due.opened;
        told = on_due.told;
        clients = parted_clients (told_of s) (modes_in s) s.tickets s.calls s.nodes w r is_started
            (due_of w.op (told_of s).volume) s.size (length s.indices) s.book.entries owed on_due.clients;
        spare = on_due.spare;
        spare_data = on_due.spare_data;
      };
      whole = part_taken (told_of s) (modes_in s) s.tickets s.calls s.nodes w r is_started owed;
      maint = record {
        queued = ok.maint.queued;
        fits = part_maint s.book.entries (told_of s) (modes_in s) s.tickets s.calls s.nodes w r s.maint s.commands
            (told_named s ok) on_due.clients.seen on_due.clients.paired is_started owed ok.maint.fits;
      };
      disk = ok.disk;
      rebuild = rebuilds.whole_parted s.size (modes_in s) s.tickets s.calls s.nodes s.rebuild w r owed part_there its_rebuild;
      adds = ok.adds;
      caused = ok.caused;
      streams = ok.streams;
    }

  -- ---- a replica acknowledges its part

  pub ack_kept : (r : ℕ) → IsTaken (part_at w.parts r) → IsSound (whole_acked s w r)
  ack_kept r taken = record {
    on = record {
      opened = on_due.opened;
      told = on_due.told;
      clients = told_clients (told_of s) (modes_in s) s.tickets s.calls s.nodes w r is_started
          (due_of w.op (told_of s).volume) s.size (length s.indices) s.book.entries taken on_due.clients;
      spare = on_due.spare;
      spare_data = on_due.spare_data;
    };
    whole = part_told (told_of s) (modes_in s) s.tickets s.calls s.nodes w r is_started taken;
    maint = record { queued = ok.maint.queued; fits = ok.maint.fits };
    disk = ok.disk;
    rebuild = rebuilds.whole_told s.size (modes_in s) s.tickets s.calls s.nodes s.rebuild w r taken its_rebuild;
    adds = ok.adds;
    caused = ok.caused;
    streams = ok.streams;
  }

-- ---- as the steps ask it

pub if_whole : (o : Option Whole) (w : Whole) (P : Whole → Type 0) → o ≡ Some w → IfSome o P → P w
if_whole o w P e all = subst (λ (x : Option Whole). IfSome x P) e all

pub whole_if : (o : Option Whole) (w : Whole) (P : Whole → Type 0) → o ≡ Some w → P w → IfSome o P
whole_if o w P e it = subst (λ (x : Option Whole). IfSome x P) (sym e) it

-- it owes its part of the operation of that ticket
abbrev pub OwesPart : State → ℕ → ℕ → Type 0
OwesPart s t r = (w : Whole) × (i : ℕ) × IsWholeOn s t w i × (part_at w.parts r ≡ Owed)

module _ (s : State) (t r : ℕ) (ok : IsSound s) (owes : OwesPart s t r) where
  pub owes_fits : length s.book.entries < 2 ^ 63 → mode_of (modes_in s) r ≢ Err → IfSome s.whole (λ w. IsFit w.op (node_at s.nodes r))
  owes_fits few up = whole_if s.whole owes.0 (λ w. IsFit w.op (node_at s.nodes r)) owes.2.is
      (part_fits s owes.0 ok owes.2.is r owes.3 few up)

  pub owes_kept : (s2 : State) → IfSome s.whole (λ w. s2 ≡ whole_parted s w r) → IsSound s2
  owes_kept s2 all = subst IsSound (sym (if_whole s.whole owes.0 (λ w. s2 ≡ whole_parted s w r) owes.2.is all))
      (part_kept s owes.0 ok owes.2.is r owes.3)

-- and acknowledges its part
pub acks_kept : (s s2 : State) (t r : ℕ) → IsSound s → AcksPart s t r s2 → IsSound s2
acks_kept s s2 t r ok a = subst IsSound (sym a.state) (ack_kept s a.w ok a.at.is r a.taken)
