-- A call on the whole volume ends with the answer of its command.
use Rattle.std.proofs.Common.{◌≡◌, ℕ, ◌+◌, ◌<◌, ◌≤◌, true, false, List, [], ◌∷◌, ◌++◌, length, set, length-set, refl}
use Rattle.std.proofs.Common.{sym, ap, subst, ◌∙◌, arith}
use Rattle.std.specs.Prelude.{None, Some}
use Rattle.std.specs.List.{count_by, remove}
use Rattle.std.proofs.lemmas.Bool.{lt-ltb}
use Rattle.vol_units.specs.Name.{begins_sys}
use Rattle.volume_model.specs.declared.command.Command.TheVariants as command
use Rattle.volume_model.specs.declared.call.Call.TheVariants as call
use Rattle.volume_model.specs.declared.call.Refusal.{Refusal}
use Rattle.volume_model.specs.declared.call.Refusal.TheVariants.{NoReplica}
use Rattle.volume_model.specs.declared.call.Reply.{Reply}
use Rattle.volume_model.specs.declared.call.Reply.TheVariants as reply
use Rattle.volume_model.specs.declared.entry.Answer.{Answer}
use Rattle.volume_model.specs.declared.entry.Entry.{Entry}
use Rattle.volume_model.specs.declared.entry.Entry.TheVariants as entry
use Rattle.volume_model.specs.declared.mode.Mode.{Mode}
use Rattle.volume_model.specs.History.{IsAnswered, subject_of}
use Rattle.volume_model.specs.Modes.{HasSource, HasNoSource, asks_replica}
use Rattle.volume_model.specs.OneWorker.{reply_for}
use Rattle.volume_model.specs.PlainState.{PlainState, Volume}
use Rattle.volume_model.specs.PlainStep.{refusal_of, most_layers, step_unless}
use Rattle.volume_model.specs.Rebuilds.{added_by}
use Rattle.volume_model.specs.Replay.{after_entry, is_refusal}
use Rattle.volume_model.specs.Snapshots.{Snapshots, layer_count}
use Rattle.volume_model.proofs.OwnNames.{IsOwn}
use Rattle.volume_model.proofs.PushLemmas.{modes_after-push}
use Rattle.volume_model.proofs.SpotLemmas.{answered_there}
use Rattle.volume_model.proofs.StepLemmas.{replay-push}
use Rattle.range_turns.specs.declared.ticket.Kind.TheVariants as kind
use Rattle.range_turns.specs.declared.ticket.Ticket.{Ticket}
use Rattle.range_turns.specs.Order.{ticket_at}
use Rattle.step_answers.specs.declared.whole_op.WholeOp.{WholeOp}
use Rattle.step_answers.specs.declared.whole_op.WholeOp.TheVariants as whole
use Rattle.step_answers.specs.Asked.{command_of}
use Rattle.open_calls.specs.Calls.{open_at}
use Rattle.open_calls.specs.Clients.{AreClients}
use Rattle.open_calls.proofs.Gone.{seen_clients}
use Rattle.open_calls.proofs.FreeLemmas.{not_both}
use Rattle.open_calls.proofs.SeenLemmas.{seen_answer, idle_once_gone}
use Rattle.open_calls.specs.declared.maint.MaintCall.{MaintCall}
use Rattle.open_calls.specs.Due.{due_of}
use Rattle.open_calls.specs.Whole.{MayBeDone}
use Rattle.open_calls.specs.Maint.{IsAskedBy, IsOfTurn, FitsMaint, AreMaint}
use Rattle.open_calls.proofs.Answered.{snapshot_answered, turn_answered}
use Rattle.open_calls.proofs.Ops.{IsPlain}
use Rattle.open_calls.proofs.PartSteps.{asked_there, saw_there, turn_of}
use Rattle.volume_core.specs.State.{State, opening_of, told_of, modes_in, index_at}
use Rattle.volume_core.specs.Steps.{answered}
use Rattle.volume_core.specs.Sound.{IsSound, IsSoundOn, IsTold, AreAdds, AreCaused, NoneGaveUp, is_up, owed_end}
use Rattle.volume_core.proofs.Answered.{not_replicas, replicas_not_store}
use Rattle.volume_core.proofs.Caused.{caused_answer, caused_ended}
use Rattle.volume_core.proofs.Ends.{same_clients}
use Rattle.volume_core.proofs.DataLemmas.{owed_gone}
use Rattle.volume_core.proofs.Keep.{of_calm}
use Rattle.open_rebuild.specs.Claim.{IsRebuilding}
use Rattle.volume_core.proofs.Told.{answer_told}
use Rattle.volume_maint.specs.Steps.{whole_ended}
use Rattle.volume_core.specs.State.{spot_of}
use Rattle.volume_maint.specs.Answers.{refused_in}
use Rattle.volume_core.proofs.TurnLemmas.{none_adds}
use Rattle.volume_maint.proofs.Adds.{no_rebuild, turn_no_add}
use Rattle.volume_maint.proofs.Barriers.{refused_add_told}

-- ---- the answer

no_fail : (op : WholeOp) (r : ℕ) → call.Command (command_of op) ≡ call.Command (command.Fail r) → ⊥
no_fail (whole.Snapshot name) r e = cc
no_fail (whole.Remove name) r e = cc
no_fail (whole.Revert name) r e = cc
no_fail (whole.Purge f) r e = cc
no_fail (whole.Barrier q) r e = cc

no_add : (op : WholeOp) → IsPlain op → added_by (call.Command (command_of op)) ≡ None
no_add (whole.Snapshot name) other = refl
no_add (whole.Remove name) other = refl
no_add (whole.Revert name) other = refl
no_add (whole.Purge f) other = refl
no_add (whole.Barrier r) other = absurd other

asks_one : (op : WholeOp) → asks_replica (call.Command (command_of op)) ≡ true
asks_one (whole.Snapshot name) = refl
asks_one (whole.Remove name) = refl
asks_one (whole.Revert name) = refl
asks_one (whole.Purge f) = refl
asks_one (whole.Barrier r) = refl

-- the operation is a part of a purge
abbrev pub IsPart : WholeOp → Type 0
IsPart (whole.Snapshot name) = ⊥
IsPart (whole.Remove name) = ⊥
IsPart (whole.Revert name) = ⊥
IsPart (whole.Purge f) = Unit {0}
IsPart (whole.Barrier r) = ⊥

-- nothing stands against what may be done
may_free : (op : WholeOp) (ms : List Mode) (p : PlainState) → IsPlain op → MayBeDone op p
    → refusal_of ms p (call.Command (command_of op)) ≡ None
may_free (whole.Snapshot name) ms p other may = rw may.1 (rw (lt-ltb (layer_count p.volume.snapshots) most_layers may.2) refl)
may_free (whole.Remove name) ms p other may = rw may refl
may_free (whole.Revert name) ms p other may = rw may.0 refl
may_free (whole.Purge f) ms p other may = refl
may_free (whole.Barrier r) ms p other may = absurd other

-- what a command is answered that nothing stands against
done_reply : (op : WholeOp) (ms : List Mode) (p : PlainState) → reply.Done ≡ (step_unless None ms p (call.Command (command_of op))).1
done_reply (whole.Snapshot name) ms p = refl
done_reply (whole.Remove name) ms p = refl
done_reply (whole.Revert name) ms p = refl
done_reply (whole.Purge f) ms p = refl
done_reply (whole.Barrier r) ms p = refl

no_purge : (op : WholeOp) → (IsPart op → ⊥) → call.Command (command_of op) ≡ call.Command command.Purge → ⊥
no_purge (whole.Snapshot name) not e = cc
no_purge (whole.Remove name) not e = cc
no_purge (whole.Revert name) not e = cc
no_purge (whole.Purge f) not e = not tt
no_purge (whole.Barrier r) not e = cc

-- what it leaves
pub after_done : (op : WholeOp) (p : PlainState) (index saw stream : ℕ) → (IsPart op → ⊥)
    → (after_entry p (entry.Answer
    (record { call = call.Command (command_of op); reply = reply.Done; index = index; saw = saw; stream = stream }))).volume ≡ due_of
    op p.volume
after_done (whole.Snapshot name) p index saw stream not = refl
after_done (whole.Remove name) p index saw stream not = refl
after_done (whole.Revert name) p index saw stream not = refl
after_done (whole.Purge f) p index saw stream not = absurd (not tt)
after_done (whole.Barrier r) p index saw stream not = refl

-- it is done
pub done_answered : (op : WholeOp) (ms : List Mode) (p : PlainState) (a : Answer) → IsPlain op → MayBeDone op p
    → HasSource ms → (IsPart op → ⊥)
    → a.call ≡ call.Command (command_of op) → a.reply ≡ reply.Done → IsAnswered p ms a
done_answered op ms p a other may source not asks is =
    Rattle.volume_core.proofs.Answered.plainly ms p a
    (is ∙ done_reply op ms p ∙ ap (λ w. (step_unless w ms p (call.Command (command_of op))).1)
    (sym (may_free op ms p other may)) ∙ ap (λ x. (step_unless (refusal_of ms p x) ms p x).1) (sym asks))
    (λ r e. absurd (no_fail op r (sym asks ∙ e)))
    (λ change done. source)
    (λ e done. no_purge op not (sym asks ∙ e))

-- no replica is left that is read
pub lost_answered : (op : WholeOp) (ms : List Mode) (p : PlainState) (a : Answer) → IsPlain op → MayBeDone op p → HasNoSource ms
    → a.call ≡ call.Command (command_of op) → a.reply ≡ reply.Refused NoReplica → IsAnswered p ms a
lost_answered op ms p a other may none asks is = record {
  reply = λ says. absurd (not_replicas a.reply says (ap subject_of is));
  store = λ says. absurd (replicas_not_store a.reply (ap subject_of is) says);
  none = λ says. record {
    asks = ap asks_replica asks ∙ asks_one op;
    refused = ap (refusal_of ms p) asks
        ∙ may_free op ms p other may;
    none = none;
  };
  fails = λ r e. absurd (no_fail op r (sym asks ∙ e));
  source = λ change done. absurd (not_both (is_refusal a.reply) done (ap is_refusal is));
  purged = λ e done. absurd (not_both (is_refusal a.reply) done (ap is_refusal is));
}

-- it is refused
pub refused_answered : (s : State) (op : WholeOp) (stream saw index : ℕ) (why : Refusal) → refused_in s (command_of op) ≡ Some why
    → IsAnswered (told_of s) (modes_in s)
    (record { call = call.Command (command_of op); reply = reply.Refused why; index = index; saw = saw; stream = stream })
refused_answered s op stream saw index why refused =
    subst (λ (x : Reply). IsAnswered (told_of s) (modes_in s)
    (record { call = call.Command (command_of op); reply = x; index = index; saw = saw; stream = stream }))
    (is)
    (answered_there (spot_of s) (call.Command (command_of op)) stream saw index (λ q e. absurd (no_fail op q e))
    (λ e done. absurd (not_both _ done (ap is_refusal is))))
  where
    is : reply_for (refused_in s (command_of op)) (spot_of s) (call.Command (command_of op)) ≡ reply.Refused why
    is = ap (λ w. reply_for w (spot_of s) (call.Command (command_of op))) refused

-- ---- the operation at a place ends

-- fewer commands are left
fewer_left : (commands : List MaintCall) → length (remove commands 0) ≤ length commands
fewer_left [] = omega arith
fewer_left (c ∷ cs) = omega arith

abbrev pub answer_at : State → ℕ → WholeOp → Reply → Answer
answer_at s i op r = record {
  call = call.Command (command_of op);
  reply = r;
  index = index_at s.indices (open_at s.calls i).stream;
  saw = (open_at s.calls i).saw;
  stream = (open_at s.calls i).stream;
}

-- a barrier ends so only as it is refused, where no rebuild was begun
abbrev pub EndsSo : State → WholeOp → Reply → Type 0
EndsSo s (whole.Barrier r) y = (is_refusal y ≡ true) × (s.rebuild ≡ None) × (s.ended ≡ None)
EndsSo s op y = Unit {0}

pub ends_other : (s : State) (op : WholeOp) (y : Reply) → IsPlain op → EndsSo s op y
ends_other s (whole.Snapshot name) y other = tt
ends_other s (whole.Remove name) y other = tt
ends_other s (whole.Revert name) y other = tt
ends_other s (whole.Purge f) y other = tt
ends_other s (whole.Barrier r) y other = absurd other

-- The operation at i can end with that reply and leave that volume: no call on the whole volume is started once it went,
-- the replicas are the volume, what waits fits it, and there is a place for the answer.
pub record CanEnd (s : State) (i : ℕ) (op : WholeOp) (v : Volume) (r : Reply) : Type 0 where
  pub none : (j : ℕ) → j < length (remove s.tickets i) → (ticket_at (remove s.tickets i) j).kind ≡ kind.Whole
      → (ticket_at (remove s.tickets i) j).started ≡ false
  pub clients : AreClients v s.size (length s.indices) s.book.entries (modes_in s) (remove s.tickets i) (remove s.calls i) s.nodes
  pub left : (j : ℕ) → j < length (remove s.tickets i)
      → FitsMaint v.snapshots (modes_in s) s.nodes s.maint s.commands (ticket_at (remove s.tickets i) j)
      (open_at (remove s.calls i) j)
  pub room : count_by (λ t. t.started) (remove s.tickets i) + length s.commands + count_by is_up (modes_in s) + owed_end
      s.rebuild + 1 ≤ s.book.spare
  pub rebuild : IsRebuilding s.size (modes_in s) (remove s.tickets i) (remove s.calls i) None s.nodes s.rebuild
  pub may : IsAnswered (told_of s) (modes_in s) (answer_at s i op r)
  pub after : (after_entry (told_of s) (entry.Answer (answer_at s i op r))).volume ≡ v
  pub so : EndsSo s op r

module _ (s : State) (ok : IsSound s) (i : ℕ) (op : WholeOp) (h : i < length s.tickets)
    (is : (ticket_at s.tickets i).kind ≡ kind.Whole) (asks : (open_at s.calls i).op ≡ Some op) where
  call_in : i < length s.calls
  call_in = omega (arith, h, ok.on.clients.paired)

  pub asked_by : IsAskedBy s.maint s.commands (open_at s.calls i).stream op
  asked_by = asked_there (told_of s).volume.snapshots (modes_in s) s.nodes s.maint s.commands (ticket_at s.tickets i)
      (open_at s.calls i) op is asks (ok.maint.fits i h)

  pub stream_in : (open_at s.calls i).stream < length s.indices
  stream_in = (ok.on.clients.fits i h).stream

  module _ (v : Volume) (r : Reply) (can : CanEnd s i op v r) where
    abbrev its : Answer
    its = answer_at s i op r

    abbrev end_with : List Ticket → List MaintCall → State
    end_with maint commands =
        answered (record s { tickets = remove s.tickets i; calls = remove s.calls i; whole = None; maint = maint; commands = commands })
        (open_at s.calls i).stream (open_at s.calls i).saw (call.Command (command_of op)) r

    -- the journal with its answer
    abbrev longer : List Entry
    longer = s.book.entries ++ entry.Answer its ∷ []

    abbrev fewer_indices : List ℕ
    fewer_indices = set s.indices (open_at s.calls i).stream (index_at s.indices (open_at s.calls i).stream + 1)

    abbrev IsToldSo : Type 0
    IsToldSo = IsTold (opening_of s) longer fewer_indices s.rebuild s.ended

    -- of what is no add
    told_other : IsPlain op → IsOwn (told_of s) (entry.Answer its) → IsToldSo
    told_other other is_own =
        answer_told (opening_of s) s.book.entries s.indices s.rebuild s.ended its ok.on.told is_own (no_add op other)
        can.may stream_in refl (ok.on.clients.seen.past i call_in) (ok.on.clients.seen.saw i call_in)

    -- with these commands left
    with_left : (maint : List Ticket) (commands : List MaintCall) → length commands ≤ length s.commands → IsToldSo
        → AreAdds maint commands s.rebuild s.ended
        → AreMaint v.snapshots (length s.indices) (s.book.entries ++ entry.Answer its ∷ []) (modes_in s)
        (remove s.tickets i) (remove s.calls i) s.nodes maint commands
        → (NoneGaveUp s.gave_up → AreCaused maint commands longer) → IsSound (end_with maint commands)
    with_left maint commands fewer told_so adds queue caused =
        let open_here = open_at s.calls i in
        let length_set_here = length-set s.indices open_here.stream (index_at s.indices open_here.stream + 1) in
        let s2 : State = end_with maint commands in
        let modes : modes_in s ≡ modes_in s2 = sym (modes_after-push (opening_of s).modes s.book.entries (entry.Answer its)) in
        let told : v ≡ (told_of s2).volume = sym can.after
        ∙ ap (λ (p : PlainState). p.volume) (sym (replay-push (opening_of s).state s.book.entries (entry.Answer its))) in
        let on : IsSoundOn v s.nodes s2 = record {
          opened = ok.on.opened;
          told = told_so;
          clients = same_clients v s.size (length s.indices) (length fewer_indices) longer (modes_in s) (modes_in s2)
              (remove s.tickets i) (remove s.calls i) s.nodes
              (sym length_set_here) modes
              (seen_clients v s.size (length s.indices) s.book.entries longer (modes_in s) (remove s.tickets i) (remove s.calls i) s.nodes
              (seen_answer s.book.entries (remove s.calls i) can.clients.seen its
              (idle_once_gone s.book.entries s.calls ok.on.clients.seen i call_in)) can.clients);
          spare = omega (arith, can.room, fewer, ap (count_by is_up) modes);
          spare_data = omega (arith, ok.on.spare_data, owed_gone s.calls i call_in);
        } in
        of_calm s2 refl (subst (λ (x : Volume). IsSoundOn x s.nodes s2) told on) can.none
        (subst (λ (x : Snapshots). AreMaint x (length s2.indices) s2.book.entries (modes_in s2) s2.tickets s2.calls s2.nodes
        s2.maint s2.commands) (ap (λ (x : Volume). x.snapshots) told)
        (subst (λ (x : List Mode). AreMaint v.snapshots (length s2.indices) s2.book.entries x s2.tickets s2.calls s2.nodes
        s2.maint s2.commands) modes
        (subst (λ (x : ℕ). AreMaint v.snapshots x s2.book.entries (modes_in s) s2.tickets s2.calls s2.nodes s2.maint s2.commands)
        (sym length_set_here) queue)))
        (subst (λ (x : List Mode). IsRebuilding s.size x (remove s.tickets i) (remove s.calls i) None s.nodes s.rebuild)
        modes can.rebuild) adds caused
        (ok.streams ∙ sym length_set_here)

    -- an operation of the command that has the turn, which ends with it
    turn_ends : IsOfTurn op → (s.rebuild ≡ None) × (s.ended ≡ None) → IsToldSo → IsSound (end_with (remove s.maint 0) (remove s.commands 0))
    turn_ends of none told_so =
        with_left (remove s.maint 0) (remove s.commands 0) (fewer_left s.commands) told_so
        (none_adds (remove s.maint 0) (remove s.commands 0) s.rebuild s.ended none)
        (turn_answered (told_of s).volume.snapshots v.snapshots (length s.indices) s.book.entries (modes_in s) s.tickets
        s.calls s.nodes s.maint s.commands i op ok.on.clients.seen ok.on.clients.paired h is asks ok.maint can.left its of
        refl)
        (λ gave. caused_ended s.maint s.commands s.book.entries (ok.caused gave) (remove s.maint 0) (remove s.commands 0) its
        (ap call.Command (sym (turn_of s.maint s.commands (open_at s.calls i).stream op of asked_by).command))
        (saw_there (told_of s).volume.snapshots (modes_in s) s.nodes s.maint s.commands (ticket_at s.tickets i)
        (open_at s.calls i) op is asks of (ok.maint.fits i h)))

    -- which is no add
    other_ends : IsOfTurn op → IsPlain op → IsOwn (told_of s) (entry.Answer its)
        → IsSound (end_with (remove s.maint 0) (remove s.commands 0))
    other_ends of other is_own =
        turn_ends of
        (no_rebuild s.maint s.commands s.rebuild s.ended ok.adds
        (turn_no_add s.maint s.commands (open_at s.calls i).stream op other
        (turn_of s.maint s.commands (open_at s.calls i).stream op of asked_by)))
        (told_other other is_own)

    -- a snapshot
    snapshot_ends : (name : List ℕ) → op ≡ whole.Snapshot name → IsToldSo → IsSound (end_with s.maint s.commands)
    snapshot_ends name e told_so =
        with_left s.maint s.commands (omega arith) told_so ok.adds
        (snapshot_answered (told_of s).volume.snapshots v.snapshots (length s.indices) s.book.entries (modes_in s) s.tickets
        s.calls s.nodes s.maint s.commands i op ok.on.clients.seen ok.on.clients.paired h is asks ok.maint can.left name
        its e refl)
        (λ gave. caused_answer s.maint s.commands s.book.entries (ok.caused gave) its)

-- with the answer of its command
pub ends_kept : (s : State) (i : ℕ) (op : WholeOp) (v : Volume) (r : Reply) → IsSound s → i < length s.tickets
    → (ticket_at s.tickets i).kind ≡ kind.Whole → (open_at s.calls i).op ≡ Some op → CanEnd s i op v r
    → IsSound (whole_ended s i op r)
ends_kept s i (whole.Snapshot name) v r ok h is asks can =
    snapshot_ends s ok i (whole.Snapshot name) h is asks v r can name refl
    (told_other s ok i (whole.Snapshot name) h is asks v r can tt
    (λ n e. own n (same n e) (asked_by s ok i (whole.Snapshot name) h is asks).0))
  where
    same : (n : List ℕ) → call.Command (command.Snapshot name) ≡ call.Command (command.Snapshot n) → name ≡ n
    same n e = cc

    own : (n : List ℕ) → name ≡ n → begins_sys name ≡ false → begins_sys n ≡ false
    own n e user = subst (λ (x : List ℕ). begins_sys x ≡ false) e user
ends_kept s i (whole.Remove name) v r ok h is asks can =
    other_ends s ok i (whole.Remove name) h is asks v r can tt tt (λ n e. absurd (other n e))
  where
    other : (n : List ℕ) → call.Command (command.Remove name) ≡ call.Command (command.Snapshot n) → ⊥
    other n e = cc
ends_kept s i (whole.Revert name) v r ok h is asks can =
    other_ends s ok i (whole.Revert name) h is asks v r can tt tt (λ n e. absurd (other n e))
  where
    other : (n : List ℕ) → call.Command (command.Revert name) ≡ call.Command (command.Snapshot n) → ⊥
    other n e = cc
ends_kept s i (whole.Purge f) v r ok h is asks can = other_ends s ok i (whole.Purge f) h is asks v r can tt tt (λ n e. absurd (other n e))
  where
    other : (n : List ℕ) → call.Command command.Purge ≡ call.Command (command.Snapshot n) → ⊥
    other n e = cc
ends_kept s i (whole.Barrier q) v r ok h is asks can =
    let its = answer_at s i (whole.Barrier q) r in
    let seen = ok.on.clients.seen in
    let within : i < length s.calls = omega (arith, h, ok.on.clients.paired) in
    turn_ends s ok i (whole.Barrier q) h is asks v r can tt (can.so.1, can.so.2)
    (refused_add_told (opening_of s) s.book.entries s.indices s.rebuild s.ended its q ok.on.told refl can.so.1 can.so.2
    can.may can.so.0 (stream_in s ok i (whole.Barrier q) h is asks) refl (seen.past i within) (seen.saw i within))
