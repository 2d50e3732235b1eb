-- The journal of streams that one worker answers, one stream after another, is a legal history.
use Rattle.std.proofs.Common.{◌≡◌, ◌≢◌, ℕ, zero, suc, ◌+◌, ◌<◌, ◌≤◌, ◌^◌, eqb, Bool, true, false, cond, List, [], ◌∷◌}
use Rattle.std.proofs.Common.{◌++◌, length, map, refl, sym, ap, subst, ◌∙◌, arith, set}
use Rattle.std.specs.Prelude.{Option, None, Some}
use Rattle.std.specs.Option.{option_or}
use Rattle.std.proofs.lemmas.Bool.{eq-eqb, ne_eqb, true≢false}
use Rattle.std.proofs.lemmas.Bool.Decides.{nat_tests}
use Rattle.std.proofs.lemmas.List.{append-nil, append_assoc, length-append, length-set}
use Rattle.vol_units.specs.Name.{begins_sys, sys_name}
use Rattle.volume_model.specs.declared.command.Command.TheVariants as command
use Rattle.volume_model.specs.declared.call.Call.{Call}
use Rattle.volume_model.specs.declared.call.Call.TheVariants as call
use Rattle.volume_model.specs.declared.call.Refusal.{Refusal}
use Rattle.volume_model.specs.declared.entry.Answer.{Answer}
use Rattle.volume_model.specs.declared.entry.Entry.{Entry}
use Rattle.volume_model.specs.declared.entry.Entry.TheVariants as entry
use Rattle.volume_model.specs.declared.mark.FoldOrDrop.{FoldOrDrop}
use Rattle.volume_model.specs.declared.mark.FoldOrDrop.TheVariants as part
use Rattle.volume_model.specs.declared.mark.Mark.TheVariants as mark
use Rattle.volume_model.specs.declared.mark.Rebuild.{Rebuild}
use Rattle.volume_model.specs.declared.mark.Rebuild.TheVariants as rebuild
use Rattle.volume_model.specs.declared.mode.Mode.{Mode}
use Rattle.volume_model.specs.declared.mode.Mode.TheVariants.{Rw, Wo, Err}
use Rattle.volume_model.specs.Snapshots.{Snapshots, layer_count}
use Rattle.volume_model.specs.PlainState.{Volume, PlainState}
use Rattle.volume_model.specs.PlainStep.{most_layers, room_refusal, add_refusal}
use Rattle.volume_model.specs.Purge.{CanBeDone, IsPurged, next_of, with_part, parts_behind, parts_within, parts_of}
use Rattle.volume_model.specs.Marks.{after_mark, marks_of}
use Rattle.volume_model.specs.Replay.{is_refusal, replay}
use Rattle.volume_model.specs.Modes.{mode_of, modes_after, HasSource, source_of}
use Rattle.volume_model.specs.Faults.{fault_counts, RisesTo}
use Rattle.volume_model.specs.Names.{AreOwnFree}
use Rattle.volume_model.specs.Rebuilds.{added_by, rebuild_after_add, rebuild_from, rebuild_of, MayBegin}
use Rattle.volume_model.specs.History.{Spot, IsAnswered, IsEnded, EndsAdd, LegalAfter, answers_from, InOrderFrom, IsHistory}
use Rattle.volume_model.specs.OneWorker.{Against, Store, behind_entries, fail_marks, add_marks, after_streams, want_of_replica}
use Rattle.volume_model.specs.OneWorker.{refused_at, refused_by, entries_by, call_marks, marks_unless, reply_for, answer_for, entries_for}
use Rattle.volume_model.specs.OneWorker.{entries_at, after_done, behind, served_from, after_calls, served_streams}
use Rattle.volume_model.specs.OneWorker.{served, IsProper, AreProper, AllProper, call_count, stream_of}
use Rattle.volume_model.proofs.PurgeLemmas.{next_can, purged_after, after_parts}
use Rattle.volume_model.proofs.StepLemmas.{replay-push, replay-append, modes_after-append}
use Rattle.volume_model.proofs.FaultLemmas.{fault_counts-append}
use Rattle.volume_model.proofs.LegalLemmas.{LegalAfter-append, answers_from-append}
use Rattle.volume_model.proofs.PushLemmas.{modes_after-push}
use Rattle.volume_model.proofs.RebuildLemmas.{rebuild_from-append, rebuild_of-push}
use Rattle.volume_model.proofs.ModeLemmas.{failed_is}
use Rattle.volume_model.proofs.FallLemmas.{behind_falls_none}
use Rattle.volume_model.proofs.NoAborted.{none_aborted}
use Rattle.volume_model.proofs.WithinLemmas.{served_within}
use Rattle.volume_model.proofs.OwnNames.{own_entry, own_sys, entry_raises}
use Rattle.volume_model.proofs.SpotLemmas.{source_is, has_source, answer_by, answered_there, answered_by_store}
use Rattle.volume_model.proofs.SpotLemmas.{asks_none, by_store}

-- ---- where the worker stands behind a journal

-- no rebuild was begun, and the engine's own names are free
pub record Here (opening : Spot) (before : List Entry) (spot : Spot) : Type 0 where
  pub state : replay opening.state before ≡ spot.state
  pub modes : modes_after opening.modes before ≡ spot.modes
  pub idle : (q : ℕ) → rebuild_of q before ≡ rebuild.Unasked
  pub free : AreOwnFree spot.state
  pub many : length spot.modes ≡ length opening.modes

-- entries that one worker may make there of a call
pub record Goes (opening : Spot) (before : List Entry) (spot : Spot) (es : List Entry) : Type 0 where
  pub legal : LegalAfter opening before es
  pub free : AreOwnFree (replay spot.state es)
  pub idle : (q place : ℕ) → rebuild_from q place rebuild.Unasked es ≡ rebuild.Unasked
  pub raise : (replay spot.state es).volume.snapshots.number ≤ spot.state.volume.snapshots.number + 1
  pub faults : (stream replica : ℕ) → fault_counts stream replica es ≡ []

pub length-modes_after : (modes : List Mode) (es : List Entry) → length (modes_after modes es) ≡ length modes
length-modes_after modes [] = refl
length-modes_after modes (entry.Answer a ∷ es) = length-modes_after modes es
length-modes_after modes (entry.Mark (mark.Purged p) ∷ es) = length-modes_after modes es
length-modes_after modes (entry.Mark (mark.Fault s r n) ∷ es) = length-modes_after (set modes r Err) es ∙ length-set modes r Err
length-modes_after modes (entry.Mark (mark.Failed r) ∷ es) = length-modes_after (set modes r Err) es ∙ length-set modes r Err
length-modes_after modes (entry.Mark (mark.Added r s name) ∷ es) = length-modes_after (set modes r Wo) es ∙ length-set modes r Wo
length-modes_after modes (entry.Mark (mark.Promoted r) ∷ es) = length-modes_after (set modes r Rw) es ∙ length-set modes r Rw
length-modes_after modes (entry.Mark (mark.Aborted r) ∷ es) = length-modes_after (set modes r Err) es ∙ length-set modes r Err

-- behind them
here_behind : (opening : Spot) (before : List Entry) (spot : Spot) (es : List Entry) → Here opening before spot
    → Goes opening before spot es → Here opening (before ++ es) (behind_entries spot es)
here_behind opening before spot es here goes = record {
  state = replay-append opening.state before es ∙ ap (λ s. replay s es) here.state;
  modes = modes_after-append opening.modes before es ∙ ap (λ ms. modes_after ms es) here.modes;
  idle = λ q. rebuild_from-append q 0 rebuild.Unasked before es
      ∙ ap (λ b. rebuild_from q (0 + length before) b es) (here.idle q) ∙ goes.idle q (0 + length before);
  free = goes.free;
  many = length-modes_after spot.modes es ∙ here.many;
}

-- ---- the entries of one call

module _ (opening : Spot) (before : List Entry) (spot : Spot) (here : Here opening before spot)
    (fits : spot.state.volume.snapshots.number < 2 ^ 64) (stream place index : ℕ) where
  -- what holds where the worker stands holds behind the journal
  pub as_answered : (a : Answer) → IsAnswered spot.state spot.modes a
      → IsAnswered (replay opening.state before) (modes_after opening.modes before) a
  as_answered a answered = subst (λ s. IsAnswered s (modes_after opening.modes before) a) (sym here.state)
      (subst (λ ms. IsAnswered spot.state ms a) (sym here.modes) answered)

  -- a call that makes no marks, and is refused for that, if it is
  quiet_by : (c : Call) (why : Option Refusal) → ((name : List ℕ) → c ≡ call.Command (command.Snapshot name) → begins_sys name ≡ false)
      → added_by c ≡ None → IsAnswered spot.state spot.modes (answer_by spot c why stream place index)
      → (marks : List Entry) → marks ≡ [] → Goes opening before spot (marks ++ answer_for why spot stream place index c ∷ [])
  quiet_by c why user none answered marks empty =
      let a = answer_by spot c why stream place index in
      subst (λ l. Goes opening before spot (l ++ entry.Answer a ∷ [])) (sym empty) (record {
        legal = (
          subst (λ x. IsEnded x before (replay opening.state before) (modes_after opening.modes before) a) (sym none)
              (as_answered a answered),
          tt,
        );
        free = own_entry spot.state (entry.Answer a) user here.free;
        idle = λ q place. ap (λ x. rebuild_after_add q rebuild.Unasked x) none;
        raise = entry_raises spot.state (entry.Answer a);
        faults = λ s r. refl;
      })

  quiet : (c : Call) → ((name : List ℕ) → c ≡ call.Command (command.Snapshot name) → begins_sys name ≡ false) → added_by c ≡ None
      → ((r : ℕ) → c ≡ call.Command (command.Fail r) → mode_of spot.modes r ≡ Err)
      → (c ≡ call.Command command.Purge → is_refusal (reply_for (refused_at spot c) spot c) ≡ false
      → IsPurged spot.state.volume.snapshots.tree spot.state.volume.snapshots.on)
      → (marks : List Entry) → marks ≡ [] → Goes opening before spot
      (marks ++ answer_for (refused_at spot c) spot stream place index c ∷ [])
  quiet c user none fails purged =
      quiet_by c (refused_at spot c) user none (answered_there spot c stream place index fails purged)

  no_marks : (why : Option Refusal) (c : Call) → call_marks spot c ≡ [] → marks_unless why spot c ≡ []
  no_marks (Some why) c e = refl
  no_marks None c e = e

-- ---- a purge

-- the state after these parts
abbrev pub with_parts : PlainState → List FoldOrDrop → PlainState
with_parts state parts = record state { volume = record state.volume { snapshots = after_parts state.volume.snapshots parts } }

pub replay-marks : (state : PlainState) (parts : List FoldOrDrop)
    → replay state (marks_of parts) ≡ with_parts state parts
replay-marks state [] = refl
replay-marks state (f ∷ fs) = replay-marks (after_mark state (mark.Purged f)) fs

pub parts_keep_number : (s : Snapshots) (parts : List FoldOrDrop) → (after_parts s parts).number ≡ s.number
parts_keep_number s [] = refl
parts_keep_number s (part.Fold p c ∷ fs) = parts_keep_number (with_part s (part.Fold p c)) fs
parts_keep_number s (part.Drop p ∷ fs) = parts_keep_number (with_part s (part.Drop p)) fs

pub marks_keep_modes : (modes : List Mode) (parts : List FoldOrDrop) → modes_after modes (marks_of parts) ≡ modes
marks_keep_modes modes [] = refl
marks_keep_modes modes (f ∷ fs) = marks_keep_modes modes fs

marks_keep_rebuild : (q place : ℕ) (b : Rebuild) (parts : List FoldOrDrop) → rebuild_from q place b (marks_of parts) ≡ b
marks_keep_rebuild q place b [] = refl
marks_keep_rebuild q place b (f ∷ fs) = marks_keep_rebuild q (suc place) b fs

marks_tell_none : (stream replica : ℕ) (parts : List FoldOrDrop) → fault_counts stream replica (marks_of parts) ≡ []
marks_tell_none stream replica [] = refl
marks_tell_none stream replica (f ∷ fs) = marks_tell_none stream replica fs

-- each part of a purge could be done
parts_legal :
    (most : ℕ) (opening : Spot) (before : List Entry) (state : PlainState) (modes : List Mode) → HasSource modes
    → modes_after opening.modes before ≡ modes → replay opening.state before ≡ state
    → LegalAfter opening before (marks_of (parts_within most state.volume.snapshots))
parts_legal zero opening before state modes source same at = tt
parts_legal (suc most) opening before state modes source same at =
    go (λ b s d h. parts_legal most opening b s modes source d h) (next_of state.volume.snapshots) refl
  where
    go : ((b : List Entry) (s : PlainState) → modes_after opening.modes b ≡ modes → replay opening.state b ≡ s
        → LegalAfter opening b (marks_of (parts_within most s.volume.snapshots)))
        → (n : Option FoldOrDrop) → next_of state.volume.snapshots ≡ n
        → LegalAfter opening before (marks_of (parts_behind (parts_within most) state.volume.snapshots n))
    go rest None is = tt
    go rest (Some f) is =
        let e = entry.Mark (mark.Purged f) in (
          (
            subst (λ (s : PlainState). CanBeDone s.volume.snapshots.tree s.volume.snapshots.on f) (sym at)
                (next_can state.volume.snapshots.tree state.volume.snapshots.on f is).can,
            subst HasSource (sym same) source,
          ),
          rest (before ++ e ∷ []) (after_mark state (mark.Purged f)) (modes_after-push opening.modes before e ∙ same)
              (replay-push opening.state before e ∙ ap (λ s. after_mark s (mark.Purged f)) at),
        )

-- the engine's own names stay free
parts_free : (state : PlainState) (parts : List FoldOrDrop) → AreOwnFree state → AreOwnFree (with_parts state parts)
parts_free state parts free number low most = free number (omega (arith, low, parts_keep_number state.volume.snapshots parts)) most

purge_goes : (opening : Spot) (before : List Entry) (spot : Spot) (stream place index s : ℕ) → Here opening before spot
    → source_of spot.modes ≡ Some s
    → Goes opening before spot (entries_for None spot stream place index (call.Command command.Purge))
purge_goes opening before spot stream place index s here source =
    let parts = parts_of spot.state.volume.snapshots in
    let marks = marks_of parts in
    let a = answer_by spot (call.Command command.Purge) None stream place index in
    let e = entry.Answer a in
    let behind_marks : replay spot.state (marks ++ e ∷ []) ≡ with_parts spot.state parts =
    replay-append spot.state marks (e ∷ []) ∙ replay-marks spot.state parts in
    let found : replay opening.state (before ++ marks) ≡ with_parts spot.state parts =
    replay-append opening.state before marks ∙ ap (λ s. replay s marks) here.state ∙ replay-marks spot.state parts in
    let same : modes_after opening.modes (before ++ marks) ≡ spot.modes = modes_after-append opening.modes before marks
    ∙ ap (λ ms. modes_after ms marks) here.modes ∙ marks_keep_modes spot.modes parts in
    record {
      legal = LegalAfter-append opening before marks (e ∷ [])
          (parts_legal (length spot.state.volume.snapshots.tree) opening before spot.state spot.modes
          (has_source spot.modes s source) here.modes here.state) (
            record {
              reply = λ says. refl;
              none = λ says. absurd cc;
              store = λ says. absurd cc;
              fails = λ r is. absurd cc;
              source = λ change done. subst HasSource (sym same) (has_source spot.modes s source);
              purged = λ is done. subst (λ (s : PlainState). IsPurged s.volume.snapshots.tree s.volume.snapshots.on) (sym found)
                  (purged_after spot.state.volume.snapshots);
            },
            tt,
          );
      free = subst AreOwnFree (sym behind_marks) (parts_free spot.state parts here.free);
      idle = λ q p. rebuild_from-append q p rebuild.Unasked marks (e ∷ []) ∙ marks_keep_rebuild q p rebuild.Unasked parts;
      raise = omega (
        arith,
        ap (λ (s : PlainState). s.volume.snapshots.number) behind_marks,
        parts_keep_number spot.state.volume.snapshots parts,
      );
      faults = λ stream replica. fault_counts-append stream replica marks (e ∷ [])
          ∙ ap (λ l. l ++ []) (marks_tell_none stream replica parts);
    }

-- ---- a replica that is told to fail

fail_goes : (opening : Spot) (before : List Entry) (spot : Spot) (stream place index r : ℕ) → Here opening before spot
    → mode_of spot.modes r ≢ Err
    → Goes opening before spot (entry.Mark (mark.Failed r) ∷ answer_for None spot stream place index (call.Command (command.Fail r)) ∷ [])
fail_goes opening before spot stream place index r here up =
    let m = entry.Mark (mark.Failed r) in
    let now : modes_after opening.modes (before ++ m ∷ []) ≡ set spot.modes r Err = modes_after-push opening.modes before m
    ∙ ap (λ ms. set ms r Err) here.modes in
    record {
      legal = (
        (
          record {
            up = subst (λ ms. mode_of ms r ≢ Err) (sym here.modes) up;
            ends = λ q s is who. absurd (unasked≢open s (sym (here.idle q) ∙ is));
          },
          refl,
        ),
        (
          record {
            reply = λ says. refl;
            none = λ says. absurd cc;
            store = λ says. absurd cc;
            fails = λ q is. subst (λ ms. mode_of ms q ≡ Err) (sym now)
                (subst (λ n. mode_of (set spot.modes r Err) n ≡ Err) (same_replica r q is) (failed_is spot.modes r));
            source = λ change done. absurd cc;
            purged = λ is done. absurd cc;
          },
          tt,
        ),
      );
      free = here.free;
      idle = λ q p. refl;
      raise = omega arith;
      faults = λ s q. refl;
    }
  where
    same_replica : (r q : ℕ) → call.Command (command.Fail r) ≡ call.Command (command.Fail q) → r ≡ q
    same_replica r q e = cc

    unasked≢open : (t : ℕ) → rebuild.Unasked ≢ rebuild.Open t
    unasked≢open t e = cc

-- ---- a replica that is to be rebuilt

clear_parts : (x y : Option Refusal) → option_or x y ≡ None → (x ≡ None) × (y ≡ None)
clear_parts (Some why) y e = absurd cc
clear_parts None y e = (refl, e)

clear_source : (source : Option ℕ) → want_of_replica true source ≡ None → (s : ℕ) × (source ≡ Some s)
clear_source None e = absurd cc
clear_source (Some s) e = (s, refl)

clear_add : (m : Mode) (volume : Volume) → add_refusal m volume ≡ None → (m ≡ Err) × (room_refusal volume ≡ None)
clear_add Rw volume e = absurd cc
clear_add Wo volume e = absurd cc
clear_add Err volume e = (refl, e)

clear_room : (volume : Volume) → room_refusal volume ≡ None → layer_count volume.snapshots < most_layers
clear_room volume e = grind (arith, nat_tests, e)

added_and_answered : (b : Bool) (s : ℕ)
    → cond b rebuild.Unasked (cond b rebuild.Promoted (cond b (rebuild.Open s) rebuild.Unasked)) ≡ rebuild.Unasked
added_and_answered true s = refl
added_and_answered false s = refl

same_test : (r : ℕ) (a b : Rebuild) → cond (eqb r r) a b ≡ a
same_test r a b = ap (λ t. cond t a b) (eq-eqb r r refl)

unasked≢open : (t : ℕ) → rebuild.Unasked ≢ rebuild.Open t
unasked≢open t e = cc

add_goes : (opening : Spot) (before : List Entry) (spot : Spot) (stream place index r : ℕ) → Here opening before spot
    → spot.state.volume.snapshots.number < 2 ^ 64 → r < length opening.modes
    → refused_at spot (call.Command (command.Add r)) ≡ None
    → Goes opening before spot (entries_for None spot stream place index (call.Command (command.Add r)))
add_goes opening before spot stream place index r here fits there clear =
    let both = clear_parts (add_refusal (mode_of spot.modes r) spot.state.volume) (want_of_replica true (source_of spot.modes)) clear in
    let ready = clear_add (mode_of spot.modes r) spot.state.volume both.0 in
    let source = clear_source (source_of spot.modes) both.1 in
    one ready.0 (clear_room spot.state.volume ready.1) source.0 source.1
  where
    name : List ℕ
    name = sys_name spot.state.volume.snapshots.number

    a : Answer
    a = answer_by spot (call.Command (command.Add r)) None stream place index

    rebuilt : (s : ℕ) → rebuild_of r ((before ++ entry.Mark (mark.Added r s name) ∷ []) ++ entry.Mark (mark.Promoted r)
        ∷ []) ≡ rebuild.Promoted
    rebuilt s = rebuild_of-push r (before ++ entry.Mark (mark.Added r s name) ∷ []) (entry.Mark (mark.Promoted r))
        ∙ same_test r rebuild.Promoted (rebuild_of r (before ++ entry.Mark (mark.Added r s name) ∷ []))

    one : mode_of spot.modes r ≡ Err → layer_count spot.state.volume.snapshots < most_layers → (s : ℕ) → source_of spot.modes ≡ Some s
        → Goes opening before spot (entries_for None spot stream place index (call.Command (command.Add r)))
    one failed room s is = subst (λ x. Goes opening before spot (add_marks spot.state r x ++ entry.Answer a ∷ [])) (sym is) (record {
      legal = (
        subst (λ (state : PlainState). MayBegin (modes_after opening.modes before) state before r s name) (sym here.state)
            (subst (λ modes. MayBegin modes spot.state before r s name) (sym here.modes) (record {
              replica = omega (arith, there, here.many);
              failed = failed;
              source = source_is spot.modes s is;
              room = room;
              own = refl;
              new = here.free spot.state.volume.snapshots.number (omega arith) fits;
              alone = λ q t e. unasked≢open t (sym (here.idle q) ∙ e);
            })),
        (
          record {
            source = s;
            begun = rebuild_of-push r before (entry.Mark (mark.Added r s name))
                ∙ same_test r (rebuild.Open s) (rebuild_of r before);
            ends = refl;
          },
          (
            subst (λ b. EndsAdd b ((before ++ entry.Mark (mark.Added r s name) ∷ []) ++ entry.Mark (mark.Promoted r) ∷ [])
                (replay opening.state ((before ++ entry.Mark (mark.Added r s name) ∷ []) ++ entry.Mark (mark.Promoted r) ∷ []))
                (modes_after opening.modes ((before ++ entry.Mark (mark.Added r s name) ∷ []) ++ entry.Mark (mark.Promoted r) ∷ [])) a r)
                (sym (rebuilt s))
                (refl, (before ++ entry.Mark (mark.Added r s name) ∷ [], refl)),
            tt,
          ),
        ),
      );
      free = own_sys spot.state fits here.free;
      idle = λ q p. added_and_answered (eqb r q) s;
      raise = omega arith;
      faults = λ s q. refl;
    })

-- ---- the entries of one call

module _ (opening : Spot) (before : List Entry) (spot : Spot) (here : Here opening before spot)
    (fits : spot.state.volume.snapshots.number < 2 ^ 64) (stream place index : ℕ) where
  -- a call that makes no marks at all
  plain : (c : Call) → ((name : List ℕ) → c ≡ call.Command (command.Snapshot name) → begins_sys name ≡ false) → added_by c ≡ None
      → ((r : ℕ) → c ≡ call.Command (command.Fail r) → ⊥) → (c ≡ call.Command command.Purge → ⊥) → call_marks spot c ≡ []
      → Goes opening before spot (entries_at spot stream place index c)
  plain c user none fails purged empty = quiet opening before spot here fits stream place index c user none
      (λ r is. absurd (fails r is)) (λ is done. absurd (purged is))
      (marks_unless (refused_at spot c) spot c) (no_marks opening before spot here fits stream place index (refused_at spot c) c empty)

  purge_entries : (source : Option ℕ) → source_of spot.modes ≡ source
      → Goes opening before spot (entries_for (option_or None (want_of_replica true source)) spot stream place index
      (call.Command command.Purge))
  purge_entries (Some s) is = purge_goes opening before spot stream place index s here is
  purge_entries None is =
      subst (λ x. Goes opening before spot
      (entries_for (option_or None (want_of_replica true x)) spot stream place index (call.Command command.Purge))) is
      (quiet opening before spot here fits stream place index (call.Command command.Purge) (λ name e. absurd cc) refl (λ r e. absurd cc)
      (λ e done. absurd (not_done (source_of spot.modes) is done))
      (marks_unless (refused_at spot (call.Command command.Purge)) spot (call.Command command.Purge))
      (ap (λ x. marks_unless (option_or None (want_of_replica true x)) spot (call.Command command.Purge)) is))
    where
      not_done : (x : Option ℕ) → x ≡ None
          → is_refusal (reply_for (option_or None (want_of_replica true x)) spot (call.Command command.Purge)) ≡ false → ⊥
      not_done None e done = true≢false done
      not_done (Some s) e done = absurd cc

  fail_entries : (r : ℕ) (m : Mode) → mode_of spot.modes r ≡ m
      → Goes opening before spot (fail_marks r m ++ answer_for None spot stream place index (call.Command (command.Fail r))
      ∷ [])
  fail_entries r Rw is = fail_goes opening before spot stream place index r here (λ e. absurd (rw_not (sym is ∙ e)))
    where
      rw_not : Rw ≢ Err
      rw_not e = cc
  fail_entries r Wo is = fail_goes opening before spot stream place index r here (λ e. absurd (wo_not (sym is ∙ e)))
    where
      wo_not : Wo ≢ Err
      wo_not e = cc
  fail_entries r Err is = quiet opening before spot here fits stream place index (call.Command (command.Fail r))
      (λ name e. absurd cc) refl (λ q e. subst (λ n. mode_of spot.modes n ≡ Err) (same_replica r q e) is)
      (λ e done. absurd cc) [] refl
    where
      same_replica : (r q : ℕ) → call.Command (command.Fail r) ≡ call.Command (command.Fail q) → r ≡ q
      same_replica r q e = cc

  add_entries : (r : ℕ) → r < length opening.modes → (why : Option Refusal) → refused_at spot (call.Command (command.Add r)) ≡ why
      → Goes opening before spot (entries_for why spot stream place index (call.Command (command.Add r)))
  add_entries r there None is = add_goes opening before spot stream place index r here fits there is
  add_entries r there (Some why) is =
      let c = call.Command (command.Add r) in
      let a = answer_by spot c (refused_at spot c) stream place index in
      let refusal : is_refusal a.reply ≡ true = ap (λ x. is_refusal (reply_for x spot c)) is in
      subst (λ x. Goes opening before spot (entries_for x spot stream place index c)) is
      (subst (λ l. Goes opening before spot (l ++ entry.Answer a ∷ [])) (sym (ap (λ x. marks_unless x spot c) is))
      (record {
        legal = (
          subst (λ b. EndsAdd b before (replay opening.state before) (modes_after opening.modes before) a r) (sym (here.idle r)) (
            as_answered opening before spot here fits stream place index a
                (answered_there spot c stream place index (λ q e. absurd cc) (λ e done. absurd cc)),
            refusal,
          ),
          tt,
        );
        free = own_entry spot.state (entry.Answer a) (λ name e. absurd cc) here.free;
        idle = λ q p. either (eqb r q);
        raise = entry_raises spot.state (entry.Answer a);
        faults = λ s q. refl;
      }))
    where
      either : (b : Bool) → cond b rebuild.Unasked rebuild.Unasked ≡ rebuild.Unasked
      either true = refl
      either false = refl

  pub call_goes : (c : Call) → IsProper (length opening.modes) c → Goes opening before spot (entries_at spot stream place index c)
  call_goes (call.Read offset n) proper = plain (call.Read offset n) (λ name e. absurd cc) refl (λ r e. absurd cc) (λ e. absurd cc) refl
  call_goes (call.Write offset bytes) proper = plain (call.Write offset bytes) (λ name e. absurd cc) refl (λ r e. absurd cc)
      (λ e. absurd cc) refl
  call_goes call.Ping proper = plain call.Ping (λ name e. absurd cc) refl (λ r e. absurd cc) (λ e. absurd cc) refl
  call_goes (call.Other kind) proper = plain (call.Other kind) (λ name e. absurd cc) refl (λ r e. absurd cc) (λ e. absurd cc) refl
  call_goes (call.Command (command.Snapshot name)) proper =
      plain (call.Command (command.Snapshot name)) (λ n e. subst (λ x. begins_sys x ≡ false) (same_name name n e) proper)
      refl (λ r e. absurd cc) (λ e. absurd cc) refl
    where
      same_name : (x y : List ℕ) → call.Command (command.Snapshot x) ≡ call.Command (command.Snapshot y) → x ≡ y
      same_name x y e = cc
  call_goes (call.Command (command.Remove name)) proper =
      plain (call.Command (command.Remove name)) (λ n e. absurd cc) refl (λ r e. absurd cc) (λ e. absurd cc) refl
  call_goes (call.Command (command.Revert name)) proper =
      plain (call.Command (command.Revert name)) (λ n e. absurd cc) refl (λ r e. absurd cc) (λ e. absurd cc) refl
  call_goes (call.Command command.Purge) proper = purge_entries (source_of spot.modes) refl
  call_goes (call.Command command.Status) proper = plain (call.Command command.Status) (λ n e. absurd cc) refl
      (λ r e. absurd cc) (λ e. absurd cc) refl
  call_goes (call.Command (command.Fail r)) proper = fail_entries r (mode_of spot.modes r) refl
  call_goes (call.Command (command.Add r)) proper = add_entries r proper (refused_at spot (call.Command (command.Add r))) refl
  call_goes (call.Command (command.Backup backup snapshot)) proper =
      plain (call.Command (command.Backup backup snapshot)) (λ n e. absurd cc) refl (λ r e. absurd cc) (λ e. absurd cc) refl

  backup_goes : (told : Option Against) (backup snapshot : List ℕ)
      → Goes opening before spot (entries_by told spot stream place index (call.Command (command.Backup backup snapshot)))
  backup_goes None backup snapshot = call_goes (call.Command (command.Backup backup snapshot)) tt
  backup_goes (Some against) backup snapshot =
      let c = call.Command (command.Backup backup snapshot) in
      let why = refused_by (Some against) spot c in
      quiet_by opening before spot here fits stream place index c why (λ n e. absurd cc) refl
      (answered_by_store spot backup snapshot against stream place index)
      (marks_unless why spot c) (no_marks opening before spot here fits stream place index why c refl)

  -- the same, whatever the store tells of it
  pub call_goes_by : (told : Option Against) (c : Call) → IsProper (length opening.modes) c
      → Goes opening before spot (entries_by told spot stream place index c)
  call_goes_by told = by_store (λ c. IsProper (length opening.modes) c
      → Goes opening before spot (entries_by told spot stream place index c))
      (λ c apart proper. subst (λ why. Goes opening before spot (entries_for why spot stream place index c))
      (sym (asks_none told spot c apart)) (call_goes c proper))
      (λ backup snapshot proper. backup_goes told backup snapshot)

-- ---- one call after another

-- of which stream a call is, and at which place, is nothing to what it leaves
after_by : (why : Option Refusal) (spot : Spot) (stream place index : ℕ) (c : Call)
    → behind_entries spot (entries_for why spot stream place index c) ≡ behind_entries spot (entries_for why spot 0 0 0 c)
after_by why spot stream place index c =
    let marks = marks_unless why spot c in
    let a = answer_for why spot stream place index c in
    let b = answer_for why spot 0 0 0 c in
    both _ _ _ _ (replay-append spot.state marks (a ∷ []) ∙ sym (replay-append spot.state marks (b ∷ [])))
    (modes_after-append spot.modes marks (a ∷ []) ∙ sym (modes_after-append spot.modes marks (b ∷ [])))
  where
    spot_of : PlainState → List Mode → Spot
    spot_of s ms = record { state = s; modes = ms }

    both : (s t : PlainState) (ms ns : List Mode) → s ≡ t → ms ≡ ns → spot_of s ms ≡ spot_of t ns
    both s t ms ns e f = cc

-- a backup leaves all as it was
after_backup : (why : Option Refusal) (spot : Spot) (backup snapshot : List ℕ)
    → behind_entries spot (entries_for why spot 0 0 0 (call.Command (command.Backup backup snapshot))) ≡ spot
after_backup (Some why) spot backup snapshot = refl
after_backup None spot backup snapshot = refl

-- nor is what the store tells of it
pub same_after : (told : Option Against) (spot : Spot) (stream place index : ℕ) (c : Call)
    → behind_entries spot (entries_by told spot stream place index c) ≡ after_done spot c
same_after told spot stream place index c = after_by (refused_by told spot c) spot stream place index c ∙ by_store
    (λ c. behind_entries spot (entries_by told spot 0 0 0 c) ≡ after_done spot c)
    (λ c apart. ap (λ why. behind_entries spot (entries_for why spot 0 0 0 c)) (asks_none told spot c apart))
    (λ backup snapshot. after_backup (refused_by told spot (call.Command (command.Backup backup snapshot))) spot backup snapshot
    ∙ sym (after_backup (refused_at spot (call.Command (command.Backup backup snapshot))) spot backup snapshot)) c

-- entries that one worker makes there of so many calls, and where it stands then
record Ran (opening : Spot) (before : List Entry) (spot : Spot) (es : List Entry) (next : Spot) (calls : ℕ) : Type 0 where
  legal : LegalAfter opening before es
  here : Here opening (before ++ es) next
  raise : next.state.volume.snapshots.number ≤ spot.state.volume.snapshots.number + calls
  faults : (stream replica : ℕ) → fault_counts stream replica es ≡ []

ran_none : (opening : Spot) (before : List Entry) (spot : Spot) → Here opening before spot → Ran opening before spot [] spot 0
ran_none opening before spot here =
    record {
      legal = tt;
      here = subst (λ l. Here opening l spot) (sym (append-nil before)) here;
      raise =
          omega arith;
      faults = λ s r. refl;
    }

ran_more : (opening : Spot) (before : List Entry) (spot : Spot) (xs ys : List Entry) (next last : Spot) (m n total : ℕ) → m + n ≡ total
    → Ran opening before spot xs next m → Ran opening (before ++ xs) next ys last n → Ran opening before spot (xs ++ ys) last total
ran_more opening before spot xs ys next last m n total sum a b = record {
  legal = LegalAfter-append opening before xs ys a.legal b.legal;
  here = subst (λ l. Here opening l last) (append_assoc before xs ys) b.here;
  raise = omega (arith, sum, a.raise, b.raise);
  faults = λ s r. fault_counts-append s r xs ys ∙ nil_nil (a.faults s r) (b.faults s r);
}
  where
    nil_nil : {xs ys : List ℕ} → xs ≡ [] → ys ≡ [] → xs ++ ys ≡ []
    nil_nil e f = cc

ran_call : (told : Option Against) (opening : Spot) (before : List Entry) (spot : Spot) (stream place index : ℕ) (c : Call)
    → Here opening before spot → spot.state.volume.snapshots.number < 2 ^ 64
    → IsProper (length opening.modes) c → Ran opening before spot (entries_by told spot stream place index c) (after_done spot c) 1
ran_call told opening before spot stream place index c here fits proper =
    let goes = call_goes_by opening before spot here fits stream place index told c proper in
    let same = same_after told spot stream place index c in
    record {
      legal = goes.legal;
      here = subst (Here opening (before ++ entries_by told spot stream place index c)) same
          (here_behind opening before spot (entries_by told spot stream place index c) here goes);
      raise = subst (λ (s : Spot). s.state.volume.snapshots.number ≤ spot.state.volume.snapshots.number + 1) same goes.raise;
      faults = goes.faults;
    }

ran_calls : (store : Store) (opening : Spot) (before : List Entry) (spot : Spot) (stream place index : ℕ) (cs : List Call)
    → Here opening before spot → spot.state.volume.snapshots.number + length cs ≤ 2 ^ 64
    → AreProper (length opening.modes) cs → Ran opening before spot (served_from store spot stream place index cs)
    (after_calls spot cs) (length cs)
ran_calls store opening before spot stream place index [] here fits proper = ran_none opening before spot here
ran_calls store opening before spot stream place index (c ∷ cs) here fits proper =
    let first = entries_by (store place) spot stream place index c in
    let one = ran_call (store place) opening before spot stream place index c here (omega (arith, fits)) proper.0 in
    let rest = ran_calls store opening (before ++ first) (after_done spot c) stream (behind place first) (suc index) cs one.here
    (omega (arith, fits, one.raise)) proper.1 in
    ran_more opening before spot first (served_from store (after_done spot c) stream (behind place first) (suc index) cs)
    (after_done spot c) (after_calls (after_done spot c) cs) 1 (length cs) (length (c ∷ cs)) (omega arith) one rest

ran_streams : (store : Store) (opening : Spot) (before : List Entry) (spot : Spot) (stream place : ℕ) (css : List (List Call))
    → Here opening before spot → spot.state.volume.snapshots.number + call_count css ≤ 2 ^ 64
    → AllProper (length opening.modes) css → Ran opening before spot (served_streams store spot stream place css)
    (after_streams spot css) (call_count css)
ran_streams store opening before spot stream place [] here fits proper = ran_none opening before spot here
ran_streams store opening before spot stream place (cs ∷ css) here fits proper =
    let own = served_from store spot stream place 0 cs in
    let one = ran_calls store opening before spot stream place 0 cs here (omega (arith, fits)) proper.0 in
    let rest = ran_streams store opening (before ++ own) (after_calls spot cs) (suc stream) (behind place own) css one.here
    (omega (arith, fits, one.raise)) proper.1 in
    ran_more opening before spot own (served_streams store (after_calls spot cs) (suc stream) (behind place own) css)
    (after_calls spot cs) (after_streams (after_calls spot cs) css) (length cs) (call_count css) (call_count (cs ∷ css))
    (omega arith) one rest

-- ---- the answers of each stream

-- marks are none
pub no_marks_of : (stream place : ℕ) (parts : List FoldOrDrop) → answers_from stream place (marks_of parts) ≡ []
no_marks_of stream place [] = refl
no_marks_of stream place (f ∷ fs) = no_marks_of stream (suc place) fs

none_before : (spot : Spot) (why : Option Refusal) (c : Call) (stream place : ℕ) → answers_from stream place (marks_unless why spot c) ≡ []
none_before spot (Some why) c stream place = refl
none_before spot None (call.Read offset n) stream place = refl
none_before spot None (call.Write offset bytes) stream place = refl
none_before spot None call.Ping stream place = refl
none_before spot None (call.Other kind) stream place = refl
none_before spot None (call.Command (command.Snapshot name)) stream place = refl
none_before spot None (call.Command (command.Remove name)) stream place = refl
none_before spot None (call.Command (command.Revert name)) stream place = refl
none_before spot None (call.Command command.Purge) stream place = no_marks_of stream place (parts_of spot.state.volume.snapshots)
none_before spot None (call.Command command.Status) stream place = refl
none_before spot None (call.Command (command.Fail r)) stream place = failed (mode_of spot.modes r)
  where
    failed : (m : Mode) → answers_from stream place (fail_marks r m) ≡ []
    failed Rw = refl
    failed Wo = refl
    failed Err = refl
none_before spot None (call.Command (command.Add r)) stream place = added (source_of spot.modes)
  where
    added : (x : Option ℕ) → answers_from stream place (add_marks spot.state r x) ≡ []
    added None = refl
    added (Some s) = refl
none_before spot None (call.Command (command.Backup backup snapshot)) stream place = refl

own_answer :
    (told : Option Against) (spot : Spot) (stream place index n : ℕ) (c : Call)
    → answers_from stream n (answer_for (refused_by told spot c) spot stream place index c ∷ []) ≡ (
      n,
      answer_by spot c (refused_by told spot c) stream place index,
    ) ∷ []
own_answer told spot stream place index n c = rw (eq-eqb stream stream refl) refl

other_answer :
    (told : Option Against) (spot : Spot) (stream other place index n : ℕ) (c : Call) → (stream ≡ other → ⊥)
    → answers_from other n (answer_for (refused_by told spot c) spot stream place index c ∷ []) ≡ []
other_answer told spot stream other place index n c apart = rw (ne_eqb stream other apart) refl

-- a call's answer stands under its stream, behind its marks
own_entries :
    (told : Option Against) (spot : Spot) (stream place index n : ℕ) (c : Call) (es : List Entry)
    → answers_from stream n (entries_by told spot stream place index c ++ es)
    ≡ (n + length (marks_unless (refused_by told spot c) spot c), answer_by spot c (refused_by told spot c) stream place index)
    ∷ answers_from stream (behind n (entries_by told spot stream place index c)) es
own_entries told spot stream place index n c es =
    let marks = marks_unless (refused_by told spot c) spot c in
    let a = answer_for (refused_by told spot c) spot stream place index c in
    let one : answers_from stream n (marks ++ a ∷ []) ≡
    (n + length marks, answer_by spot c (refused_by told spot c) stream place index) ∷ [] =
    answers_from-append stream n marks (a ∷ []) ∙ ap (λ l. l ++ answers_from stream (n + length marks) (a ∷ []))
    (none_before spot (refused_by told spot c) c stream n)
    ∙ own_answer told spot stream place index (n + length marks) c in
    answers_from-append stream n (marks ++ a ∷ []) es ∙ ap (λ l. l ++ answers_from stream (behind n (marks ++ a ∷ [])) es) one

-- and under no other
other_entries :
    (told : Option Against) (spot : Spot) (stream other place index n : ℕ) (c : Call) (es : List Entry) → (stream ≡ other → ⊥)
    → answers_from other n (entries_by told spot stream place index c ++ es)
    ≡ answers_from other (behind n (entries_by told spot stream place index c)) es
other_entries told spot stream other place index n c es apart =
    let marks = marks_unless (refused_by told spot c) spot c in
    let a = answer_for (refused_by told spot c) spot stream place index c in
    let none : answers_from other n (marks ++ a ∷ []) ≡ [] =
    answers_from-append other n marks (a ∷ []) ∙ ap (λ l. l ++ answers_from other (n + length marks) (a ∷ []))
    (none_before spot (refused_by told spot c) c other n)
    ∙ other_answer told spot stream other place index (n + length marks) c apart in
    answers_from-append other n (marks ++ a ∷ []) es ∙ ap (λ l. l ++ answers_from other (behind n (marks ++ a ∷ [])) es) none

-- the answers of a stream's calls are in order
pub served_in_order :
    (store : Store) (spot : Spot) (stream place index least : ℕ) (cs : List Call) → least ≤ place
    → InOrderFrom index least (answers_from stream place (served_from store spot stream place index cs))
served_in_order store spot stream place index least [] low = tt
served_in_order store spot stream place index least (c ∷ cs) low =
    let marks_unless_here = marks_unless (refused_by (store place) spot c) spot c in
    let next = after_done spot c in
    let first = entries_by (store place) spot stream place index c in
    let last : behind place first ≡ suc (place + length marks_unless_here) =
    omega (arith, length-append marks_unless_here (answer_for (refused_by (store place) spot c) spot stream place index c ∷ [])) in
    subst (InOrderFrom index least)
    (sym (own_entries (store place) spot stream place index place c (served_from store next stream (behind place first) (suc index) cs))) (
      refl,
      low,
      omega arith,
      served_in_order store next stream (behind place first) (suc index) (suc (place + length marks_unless_here)) cs (omega (arith, last)),
    )

-- and those calls are in it, each once
pub served_calls :
    (store : Store) (spot : Spot) (stream place index : ℕ) (cs : List Call)
    → map (λ p. p.1.call) (answers_from stream place (served_from store spot stream place index cs)) ≡ cs
served_calls store spot stream place index [] = refl
served_calls store spot stream place index (c ∷ cs) =
    let next = after_done spot c in
    let first = entries_by (store place) spot stream place index c in
    ap (map (λ p. p.1.call)) (own_entries (store place) spot stream place index place c
    (served_from store next stream (behind place first) (suc index) cs))
    ∙ ap (λ l. c ∷ l) (served_calls store next stream (behind place first) (suc index) cs)

-- no other stream has answers among them
pub served_no_other :
    (store : Store) (spot : Spot) (stream other n place index : ℕ) (cs : List Call) → (stream ≡ other → ⊥)
    → answers_from other n (served_from store spot stream place index cs) ≡ []
served_no_other store spot stream other n place index [] apart = refl
served_no_other store spot stream other n place index (c ∷ cs) apart =
    let next = after_done spot c in
    let first = entries_by (store place) spot stream place index c in
    other_entries (store place) spot stream other place index n c (served_from store next stream (behind place first) (suc index) cs) apart
    ∙ served_no_other store next stream other (behind n first) (behind place first) (suc index) cs apart

-- nor has a stream of a lower number, among those of streams
pub none_below :
    (store : Store) (spot : Spot) (stream other n place : ℕ) (css : List (List Call)) → other < stream
    → answers_from other n (served_streams store spot stream place css) ≡ []
none_below store spot stream other n place [] low = refl
none_below store spot stream other n place (cs ∷ css) low =
    let next = after_calls spot cs in
    let own = served_from store spot stream place 0 cs in
    answers_from-append other n own (served_streams store next (suc stream) (behind place own) css)
    ∙ joined (served_no_other store spot stream other n place 0 cs (λ e. apart stream other low e))
    (none_below store next (suc stream) other _ (behind place own) css (omega arith))
  where
    apart : (s o : ℕ) → o < s → s ≡ o → ⊥
    apart s o low e = omega arith

    joined : {xs ys : List (ℕ × Answer)} → xs ≡ [] → ys ≡ [] → xs ++ ys ≡ []
    joined e f = cc

-- the answers of a stream among those of streams are those of its calls, from some state and place on
pub record AnswersOf (store : Store) (stream : ℕ) (calls : List Call) (answers : List (ℕ × Answer)) : Type 0 where
  pub spot : Spot
  pub place : ℕ
  pub are : answers ≡ answers_from stream place (served_from store spot stream place 0 calls)

-- a journal whose front has none of them
AnswersOf-behind :
    (store : Store) (stream stream' place place' : ℕ) (calls : List Call) (front rest : List Entry)
    → stream ≡ stream' → place + length front ≡ place' → answers_from stream place front ≡ []
    → AnswersOf store stream' calls (answers_from stream' place' rest)
    → AnswersOf store stream calls (answers_from stream place (front ++ rest))
AnswersOf-behind store stream stream' place place' calls front rest same at none found = record {
  spot = found.spot;
  place = found.place;
  are = answers_from-append stream place front rest ∙ ap (λ l. l ++ answers_from stream (place + length front) rest) none
      ∙ moved stream stream' _ place' same at
      ∙ found.are ∙ ap (λ s. answers_from s found.place (served_from store found.spot s found.place 0 calls)) (sym same);
}
  where
    moved : (s s' p p' : ℕ) → s ≡ s' → p ≡ p' → answers_from s p rest ≡ answers_from s' p' rest
    moved s s' p p' e f = cc

pub its_answers :
    (store : Store) (spot : Spot) (stream k place : ℕ) (css : List (List Call))
    → AnswersOf store (stream + k) (stream_of css k) (answers_from (stream + k) place (served_streams store spot stream place css))
its_answers store spot stream k place [] = record { spot = spot; place = place; are = refl }
its_answers store spot stream zero place (cs ∷ css) =
    let own = served_from store spot stream place 0 cs in
    let rest = served_streams store (after_calls spot cs) (suc stream) (behind place own) css in
    record {
      spot = spot;
      place = place;
      are = answers_from-append (stream + 0) place own rest
          ∙ ap (λ l. answers_from (stream + 0) place own ++ l)
          (none_below store (after_calls spot cs) (suc stream) (stream + 0) _ (behind place own) css (omega arith))
          ∙ append-nil _ ∙ ap (λ s. answers_from (stream + 0) place (served_from store spot s place 0 cs)) (omega arith);
    }
its_answers store spot stream (suc k) place (cs ∷ css) =
    let own = served_from store spot stream place 0 cs in
    AnswersOf-behind store (stream + suc k) (suc stream + k) place (behind place own) (stream_of css k) own _ (omega arith)
    refl (served_no_other store spot stream (stream + suc k) place place 0 cs (apart stream k))
    (its_answers store (after_calls spot cs) (suc stream) k (behind place own) css)
  where
    apart : (n k : ℕ) → n ≡ n + suc k → ⊥
    apart n k e = omega arith

-- so they are in order
pub AnswersOf-in_order :
    (store : Store) (stream : ℕ) (calls : List Call) (answers : List (ℕ × Answer)) → AnswersOf store stream calls answers
    → InOrderFrom 0 0 answers
AnswersOf-in_order store stream calls answers found =
    subst (InOrderFrom 0 0) (sym found.are) (served_in_order store found.spot stream found.place 0 0 calls (omega arith))

-- and each call is answered once
pub AnswersOf-calls :
    (store : Store) (stream : ℕ) (calls : List Call) (answers : List (ℕ × Answer)) → AnswersOf store stream calls answers
    → map (λ p. p.1.call) answers ≡ calls
AnswersOf-calls store stream calls answers found =
    ap (map (λ p. p.1.call)) found.are ∙ served_calls store found.spot stream found.place 0 calls

-- ---- the law

pub served_is_history :
    (store : Store) (opening : Spot) (counted : ℕ → ℕ → ℕ) (streams : List (List Call)) → AllProper (length opening.modes) streams
    → AreOwnFree opening.state → opening.state.volume.snapshots.number + call_count streams ≤ 2 ^ 64
    → IsHistory opening counted (stream_of streams) (served store opening streams)
served_is_history store opening counted streams proper free fits =
    let ran = ran_streams store opening [] opening 0 0 streams
    (record { state = refl; modes = refl; idle = λ q. refl; free = free; many = refl }) fits proper in
    record {
      legal = ran.legal;
      fell = behind_falls_none [] (served store opening streams) (none_aborted store opening 0 0 streams);
      within = served_within store opening 0 0 streams [] refl;
      order = λ stream. AnswersOf-in_order store stream (stream_of streams stream) _ (its stream);
      each_once = λ stream. AnswersOf-calls store stream (stream_of streams stream) _ (its stream);
      faults = λ stream replica. subst (RisesTo (counted stream replica) 0) (sym (ran.faults stream replica)) tt;
    }
  where
    its : (stream : ℕ) → AnswersOf store stream (stream_of streams stream) (answers_from stream 0 (served store opening streams))
    its stream = subst (λ s. AnswersOf store s (stream_of streams stream) (answers_from s 0 (served store opening streams)))
        (from_none stream) (its_answers store opening 0 stream 0 streams)
      where
        from_none : (s : ℕ) → 0 + s ≡ s
        from_none s = omega arith
