-- The end of a call on the whole volume, as its steps ask it.
use Rattle.std.proofs.Common.{◌≡◌, ℕ, ◌<◌, true, false, List, length, refl, sym, subst, ◌∙◌, arith}
use Rattle.std.specs.Prelude.{Option, None, Some, IfSome, is_some}
use Rattle.std.proofs.lemmas.List.{get_or_default}
use Rattle.volume_model.specs.declared.mode.Mode.{Mode}
use Rattle.volume_model.specs.declared.mode.Mode.TheVariants.{Rw, Err}
use Rattle.volume_model.specs.Modes.{mode_of, source_of, HasSource, HasNoSource}
use Rattle.volume_model.proofs.SpotLemmas.{has_source, no_source}
use Rattle.step_answers.specs.declared.whole_op.WholeOp.{WholeOp}
use Rattle.step_answers.specs.declared.whole_op.WholeOp.TheVariants as whole
use Rattle.step_answers.specs.Parts.{part_at, is_pending_at}
use Rattle.open_calls.specs.declared.whole.Whole.{Whole}
use Rattle.open_calls.proofs.Forms.{length-formed}
use Rattle.volume_core.specs.State.{State, modes_in}
use Rattle.volume_core.specs.Sound.{IsSound}
use Rattle.volume_maint.specs.Steps.{turn_over}
use Rattle.volume_maint.specs.Places.{IsWholeOn}
use Rattle.volume_maint.specs.Answers.{whole_done, whole_lost, AreDone, EndsWhole}
use Rattle.volume_maint.proofs.WholeSound.{on_due, if_whole}
use Rattle.volume_maint.proofs.WholeEnds.{done_kept, lost_kept}

-- ---- the answer

pub over_book : (op : WholeOp) (s : State) → (turn_over op s).book ≡ s.book
over_book (whole.Snapshot name) s = refl
over_book (whole.Remove name) s = refl
over_book (whole.Revert name) s = refl
over_book (whole.Purge f) s = refl
over_book (whole.Barrier r) s = refl

-- ---- it ends

-- none has still to acknowledge
abbrev pub HasNonePending : State → Whole → Type 0
HasNonePending s w = (r : ℕ) → r < length (modes_in s) → is_pending_at (mode_of (modes_in s) r) (part_at w.parts r) ≡ false

module _ (s s2 : State) (t i : ℕ) (ok : IsSound s) (at : (w : Whole) × IsWholeOn s t w i)
    (pending : IfSome s.whole (λ w. HasNonePending s w))
    (done : IfSome s.whole (λ w. HasSource (modes_in s) → s2 ≡ whole_done s i w.op))
    (lost : IfSome s.whole (λ w. HasNoSource (modes_in s) → s2 ≡ whole_lost s i w.op)) where
  all_done : AreDone s at.0
  all_done = λ r l. if_whole s.whole at.0 (λ w. HasNonePending s w) at.1.is pending r
      (omega (arith, l, (on_due s at.0 ok at.1.is).clients.agree.as_many, length-formed at.0.op at.0.parts s.nodes))

  is_done : HasSource (modes_in s) → s2 ≡ whole_done s i at.0.op
  is_done = if_whole s.whole at.0 (λ w. HasSource (modes_in s) → s2 ≡ whole_done s i w.op) at.1.is done

  is_lost : HasNoSource (modes_in s) → s2 ≡ whole_lost s i at.0.op
  is_lost = if_whole s.whole at.0 (λ w. HasNoSource (modes_in s) → s2 ≡ whole_lost s i w.op) at.1.is lost

  pub ends_whole : EndsWhole s t s2
  ends_whole = record { w = at.0; i = i; at = at.1; acknowledged = all_done; done = is_done; lost = is_lost }

  pub ends_sound : IsSound s2
  ends_sound = by (source_of (modes_in s)) refl
    where
      by : (x : Option ℕ) → source_of (modes_in s) ≡ x → IsSound s2
      by (Some q) e = let source = has_source (modes_in s) q e in
          subst IsSound (sym (is_done source)) (done_kept s at.0 ok at.1.is t i at.1 all_done source)
      by None e = let none = no_source (modes_in s) e in subst IsSound (sym (is_lost none)) (lost_kept s at.0 ok at.1.is t i at.1 none)

-- where one is read, there is a first
pub has_first : (ms : List Mode) → HasSource ms → is_some (source_of ms) ≡ true
has_first ms has = by (source_of ms) refl
  where
    by : (x : Option ℕ) → source_of ms ≡ x → is_some x ≡ true
    by (Some q) e = refl
    by None e = absurd (no_source ms e has.0 (get_or_default ms has.0 Err Rw has.1 ∙ has.2))
