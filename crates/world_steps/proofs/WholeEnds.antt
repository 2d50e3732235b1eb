-- An operation on the whole volume ends, as the worker of its stream sees it.
use Rattle.std.proofs.Common.{◌≡◌, ◌≢◌, ℕ, inl, inr, Bool, true, List, [], ◌∷◌, ◌++◌, map, Option, Some, None, Result, Ok, OnOk, OnErr}
use Rattle.std.proofs.Common.{IfErr}
use Rattle.std.proofs.Common.{subst, sym, refl, ap, ◌∙◌, append-nil}
use Rattle.std.proofs.Common.{Err as Failed}
use Rattle.std.specs.List.{remove}
use Rattle.range_turns.specs.Order.{StandsAt}
use Rattle.volume_model.specs.declared.call.Call.TheVariants as call
use Rattle.volume_model.specs.declared.call.Reply.{Reply}
use Rattle.volume_model.specs.declared.call.Reply.TheVariants as reply
use Rattle.volume_model.specs.declared.call.Refusal.TheVariants.{NoReplica}
use Rattle.volume_model.specs.declared.entry.Answer.{Answer}
use Rattle.volume_model.specs.declared.entry.Entry.{Entry}
use Rattle.volume_model.specs.declared.entry.Entry.TheVariants as entry
use Rattle.volume_model.specs.declared.mark.FoldOrDrop.{FoldOrDrop}
use Rattle.volume_model.specs.declared.mark.Mark.TheVariants as mark
use Rattle.volume_model.specs.Modes.{mode_of, source_of, HasSource, HasNoSource}
use Rattle.volume_model.proofs.SpotLemmas.{has_source, no_source}
use Rattle.volume_model.proofs.StepLemmas.{has_no_source}
use Rattle.step_answers.specs.declared.whole_op.WholeOp.{WholeOp}
use Rattle.step_answers.specs.declared.whole_op.WholeOp.TheVariants as whole
use Rattle.step_answers.specs.Asked.{command_of}
use Rattle.step_answers.specs.Parts.{part_at, is_pending_at}
use Rattle.step_answers.specs.declared.answers.NotThis.{NotThis}
use Rattle.step_answers.specs.declared.answers.NotThis.TheVariants as against
use Rattle.open_calls.specs.Calls.{open_at}
use Rattle.open_calls.specs.Maint.{IsAskedBy}
use Rattle.volume_core.specs.State.{State, spot_of, modes_in, index_at}
use Rattle.volume_core.specs.Sound.{IsSound}
use Rattle.volume_core.specs.Streams.{calls_in, running, turning, MayGo}
use Rattle.volume_maint.specs.Steps.{barrier_ended, whole_ended, without_whole, turn_over}
use Rattle.volume_maint.specs.Answers as world
use Rattle.volume_maint.specs.Answers.{whole_done, whole_lost}
use Rattle.world_holder.specs.Laid.{parts_of}
use Rattle.world_holder.proofs.Found.{turn_of_none}
use Rattle.world_holder.proofs.Leaves.{parts_stay}
use Rattle.stream_steps.specs.Mine.{OwnCall, Log, answer_placed, with_running}
use Rattle.stream_steps.specs.Maint.{HasWhole, AgainstEndWhole, AnswersWhole, IsWholeReply, EndsWhole, WholeEnds}
use Rattle.world_holder.specs.View.{own_turn, runs, view}
use Rattle.world_holder.proofs.Entries.{own_answer}
use Rattle.world_holder.proofs.Grow.{only_open, grown, grown_by}
use Rattle.world_steps.proofs.Logged.{if_known}
use Rattle.world_steps.proofs.Queue.{first_gone}
use Rattle.world_steps.proofs.Shapes.{HasCall, has_call}
use Rattle.world_steps.proofs.Turns.{runs_as}
use Rattle.world_steps.proofs.Wholes.{none_of, one_of, stream_at, saw_at, whole_op, whole_on, kept_whole, parts_are, parts_else}
use Rattle.world_steps.proofs.Wholes.{calls_left, begun_all, HasSome, HasBegun}

-- the turn is over with the operation, and of all that is told here nothing changes
pub record SameButTurn (z z2 : State) : Type 0 where
  pub tickets : z2.tickets ≡ z.tickets
  pub calls : z2.calls ≡ z.calls
  pub entries : z2.book.entries ≡ z.book.entries
  pub whole : z2.whole ≡ z.whole
  pub gave_up : z2.gave_up ≡ z.gave_up

pub over_same : (p : WholeOp) (z : State) → SameButTurn z (turn_over p z)
over_same (whole.Snapshot name) z = record { tickets = refl; calls = refl; entries = refl; whole = refl; gave_up = refl }
over_same (whole.Remove name) z = record { tickets = refl; calls = refl; entries = refl; whole = refl; gave_up = refl }
over_same (whole.Revert name) z = record { tickets = refl; calls = refl; entries = refl; whole = refl; gave_up = refl }
over_same (whole.Purge f) z = record { tickets = refl; calls = refl; entries = refl; whole = refl; gave_up = refl }
over_same (whole.Barrier r) z = record { tickets = refl; calls = refl; entries = refl; whole = refl; gave_up = refl }

-- where an operation has ended the World keeps none, and no stream gave a command up by that
pub record IsOver (s s2 : State) : Type 0 where
  pub whole : s2.whole ≡ None
  pub gave_up : s2.gave_up ≡ s.gave_up

done_over : (s : State) (i : ℕ) (p : WholeOp) → IsOver s (whole_done s i p)
done_over s i (whole.Snapshot name) = record { whole = refl; gave_up = refl }
done_over s i (whole.Remove name) = record { whole = refl; gave_up = refl }
done_over s i (whole.Revert name) = record { whole = refl; gave_up = refl }
done_over s i (whole.Purge f) = record { whole = refl; gave_up = refl }
done_over s i (whole.Barrier r) = record { whole = refl; gave_up = refl }

lost_over : (s : State) (i : ℕ) (p : WholeOp) → IsOver s (whole_lost s i p)
lost_over s i (whole.Snapshot name) = record { whole = refl; gave_up = refl }
lost_over s i (whole.Remove name) = record { whole = refl; gave_up = refl }
lost_over s i (whole.Revert name) = record { whole = refl; gave_up = refl }
lost_over s i (whole.Purge f) = record { whole = refl; gave_up = refl }
lost_over s i (whole.Barrier r) = record { whole = refl; gave_up = refl }

pub ends_over : (t : ℕ) (s s2 : State) → world.EndsWhole s t s2 → IsOver s s2
ends_over t s s2 y = by (source_of (modes_in s)) refl
  where
    by : (v : Option ℕ) → source_of (modes_in s) ≡ v → IsOver s s2
    by (Some q) e = subst (IsOver s) (sym (y.done (has_source (modes_in s) q e))) (done_over s y.i y.w.op)
    by None e = subst (IsOver s) (sym (y.lost (no_source (modes_in s) e))) (lost_over s y.i y.w.op)

module _ (a : Bool) where
  module _ (n : ℕ) (s : State) (t : ℕ) (op : WholeOp) (turn : List OwnCall) (o : OwnCall) (x : HasCall a n s t op turn o)
      (s2 : State) (may : MayGo n s s2) where
    -- ---- with an answer

    over_gone : IsSound s → (i : ℕ) (spare : ℕ) (p : WholeOp) → IsAskedBy s.maint s.commands n p
        → turning (turn_over p (without_whole (record s { book = record s.book { spare = spare } }) i)) n ≡ []
    over_gone ok i spare (whole.Snapshot name) asked = turn_of_none n s.maint s.commands asked.1
    over_gone ok i spare (whole.Remove name) asked =
        first_gone n s.maint s.commands asked.some ok.maint.queued.paired asked.own ok.maint.queued.alone
    over_gone ok i spare (whole.Revert name) asked =
        first_gone n s.maint s.commands asked.some ok.maint.queued.paired asked.own ok.maint.queued.alone
    over_gone ok i spare (whole.Purge f) asked = first_gone n s.maint s.commands asked.some ok.maint.queued.paired asked.own
        ok.maint.queued.alone
    over_gone ok i spare (whole.Barrier r) asked =
        first_gone n s.maint s.commands asked.some ok.maint.queued.paired asked.own ok.maint.queued.alone

    module _ (ok : IsSound s) (i : ℕ) (at : StandsAt s.tickets t i) (spare : ℕ) (y : Reply)
        (e : s2 ≡ whole_ended (record s { book = record s.book { spare = spare } }) i op y) where
      abbrev z0 : State
      z0 = without_whole (record s { book = record s.book { spare = spare } }) i

      abbrev z1 : State
      z1 = turn_over op z0

      same : SameButTurn z0 z1
      same = over_same op z0

      abbrev stream : ℕ
      stream = (open_at s.calls i).stream

      abbrev answer : Answer
      answer = record {
        call = call.Command (command_of op);
        reply = y;
        index = index_at z1.indices stream;
        saw = (open_at s.calls i).saw;
        stream = stream;
      }

      ended_runs : runs n s2 ≡ []
      ended_runs = runs_as n s2 [] [] s2.whole
          (ap (λ (z : State). turning z n) e ∙ over_gone ok i spare op x.asked)
          (ap (λ (z : State). running z n) e ∙ (λ k. calls_in n (same.tickets k) (same.calls k)) ∙ calls_left a n s t op turn o x i at ok)
          refl

      pub ended_mine : o.call ≡ call.Command (command_of op) → AnswersWhole o y (view a n s) (view a n s2)
      ended_mine asked = record {
        spot = spot_of s;
        answer = answer;
        is = grown n s s2 may a (answer_placed (spot_of s) answer ∷ []) [] (entry.Answer answer ∷ [])
            (ap (λ (z : State). z.book.entries) e ∙ ap (λ es. es ++ entry.Answer answer ∷ []) same.entries)
            (own_answer n (spot_of s) answer (stream_at a n s t op turn o x i at)) refl ended_runs;
        here = if_known a s (λ (log : Log). log.spot ≡ spot_of s) refl;
        call = sym asked;
        by = stream_at a n s t op turn o x i at;
        saw = saw_at a n s t op turn o x i at;
        reply = refl;
      }

    -- ---- or without

    module _ (ok : IsSound s) (i : ℕ) (at : StandsAt s.tickets t i) (turns : turning s2 n ≡ turning s n)
        (calls : running s2 n ≡ calls_in n (remove s.tickets i) (remove s.calls i)) where
      pub turn_left : runs n s2 ≡ turn
      turn_left = runs_as n s2 x.ms [] s2.whole (turns ∙ x.turns) (calls ∙ calls_left a n s t op turn o x i at ok) refl
          ∙ append-nil (map own_turn x.ms) ∙ x.before

  -- ---- by what it answers

  module _ (n t : ℕ) (s : State) (ok : IsSound s) (s2 : State) (may : MayGo n s s2) where
    module _ (turn : List OwnCall) (o : OwnCall) (i : ℕ) (at : StandsAt s.tickets t i) where
      answers_end : (op : WholeOp) → HasCall a n s t op turn o → o.call ≡ call.Command (command_of op) → (y : Reply)
          → IsWholeReply (modes_in s) y → s2 ≡ whole_ended s i op y → EndsWhole o (view a n s) (view a n s2)
      answers_end op x asked y right e = record {
        reply = y;
        answers = ended_mine n s t op turn o x s2 may ok i at s.book.spare y e asked;
        right = if_known a s (λ (log : Log). IsWholeReply log.spot.modes y) right;
      }

      barrier_end : (k : ℕ) → HasCall a n s t (whole.Barrier k) turn o → s2 ≡ barrier_ended s i
          → view a n s2 ≡ with_running (view a n s) turn
      barrier_end k x e = only_open n s s2 may a turn (ap (λ (z : State). z.book.entries) e)
          (turn_left n s t (whole.Barrier k) turn o x s2 may ok i at (ap (λ (z : State). turning z n) e)
          (ap (λ (z : State). running z n) e))

      abbrev its_mark : FoldOrDrop → List Entry
      its_mark f = entry.Mark (mark.Purged f) ∷ []

      done_end : (op : WholeOp) → HasCall a n s t op turn o → o.call ≡ call.Command (command_of op) → HasSource (modes_in s)
          → s2 ≡ whole_done s i op → WholeEnds op turn o (view a n s) (view a n s2)
      done_end (whole.Snapshot name) x asked source e = answers_end (whole.Snapshot name) x asked reply.Done source e
      done_end (whole.Remove name) x asked source e = answers_end (whole.Remove name) x asked reply.Done source e
      done_end (whole.Revert name) x asked source e = answers_end (whole.Revert name) x asked reply.Done source e
      done_end (whole.Barrier k) x asked source e = barrier_end k x e
      done_end (whole.Purge f) x asked source e = record {
        marks = its_mark f;
        is = grown_by n s s2 may a [] turn (its_mark f) (ap (λ (z : State). z.book.entries) e) refl
            (turn_left n s t (whole.Purge f) turn o x s2 may ok i at (ap (λ (z : State). turning z n) e)
            (ap (λ (z : State). running z n) e));
        are = inl refl;
        done = if_known a s (λ (log : Log). HasSource log.spot.modes → its_mark f ≡ its_mark f) (λ source. refl);
        none = if_known a s (λ (log : Log). HasNoSource log.spot.modes → its_mark f ≡ [])
            (λ none. absurd (has_no_source (modes_in s) source none));
      }

      lost_end : (op : WholeOp) → HasCall a n s t op turn o → o.call ≡ call.Command (command_of op) → HasNoSource (modes_in s)
          → s2 ≡ whole_lost s i op → WholeEnds op turn o (view a n s) (view a n s2)
      lost_end (whole.Snapshot name) x asked none e = answers_end (whole.Snapshot name) x asked (reply.Refused NoReplica) (refl, none) e
      lost_end (whole.Remove name) x asked none e = answers_end (whole.Remove name) x asked (reply.Refused NoReplica) (refl, none) e
      lost_end (whole.Revert name) x asked none e = answers_end (whole.Revert name) x asked (reply.Refused NoReplica) (refl, none) e
      lost_end (whole.Barrier k) x asked none e = barrier_end k x e
      lost_end (whole.Purge f) x asked none e = record {
        marks = [];
        is = grown_by n s s2 may a [] turn [] (ap (λ (z : State). z.book.entries) e ∙ sym (append-nil s.book.entries)) refl
            (turn_left n s t (whole.Purge f) turn o x s2 may ok i at (ap (λ (z : State). turning z n) e)
            (ap (λ (z : State). running z n) e));
        are = inr refl;
        done = if_known a s (λ (log : Log). HasSource log.spot.modes → [] ≡ its_mark f)
            (λ source. absurd (has_no_source (modes_in s) source none));
        none = if_known a s (λ (log : Log). HasNoSource log.spot.modes → ◌≡◌ {A = List Entry} [] []) (λ none. refl);
      }

    ends_by : world.EndsWhole s t s2 → (op : WholeOp) (turn : List OwnCall) (o : OwnCall)
        → HasWhole t op turn o (view a n s) → HasCall a n s t op turn o → (v : Option ℕ) → source_of (modes_in s) ≡ v
        → WholeEnds op turn o (view a n s) (view a n s2)
    ends_by y op turn o h x (Some q) e =
        let source = has_source (modes_in s) q e in
        done_end turn o y.i y.at.stands op x h.call source
        (y.done source ∙ ap (whole_done s y.i) (whole_op a n s t op turn o x ok y.w y.at.is y.at.number))
    ends_by y op turn o h x None e =
        let none = no_source (modes_in s) e in
        lost_end turn o y.i y.at.stands op x h.call none
        (y.lost none ∙ ap (whole_lost s y.i) (whole_op a n s t op turn o x ok y.w y.at.is y.at.number))

    pub completes : {E : Type 0} (res : Result ℕ E) → OnOk res (world.EndsWhole s t s2)
        → OnOk res ((op : WholeOp) (turn : List OwnCall) (o : OwnCall) → HasWhole t op turn o (view a n s)
        → WholeEnds op turn o (view a n s) (view a n s2))
    completes (Ok at) y = λ op turn o h. ends_by y op turn o h (has_call a n s t op turn o ok h) (source_of (modes_in s)) refl
    completes (Failed e) y = tt

    pub completes_parts : {E : Type 0} (res : Result ℕ E) → OnOk res (world.EndsWhole s t s2) → OnErr res (s2 ≡ s)
        → HasSome t (view a n s) → (m : ℕ) → m ≢ n → parts_of s2 m ≡ parts_of s m
    completes_parts (Ok at) y err w =
        let x = has_call a n s t w.0 w.1 w.2 ok w.3 in
        parts_else a n s t w.0 w.1 w.2 x s2 may (one_of a t s.whole y.w y.at.is y.at.number)
        (none_of a t s2.whole (ends_over t s s2 y).whole)
    completes_parts (Failed e) y err w = parts_stay n s s2 may (ap (λ (z : State). z.whole) err)

  -- ---- or it does not

  module _ (n t : ℕ) (s : State) (ok : IsSound s) where
    -- that replica has still to acknowledge it
    not_yet : (op : WholeOp) (turn : List OwnCall) (o : OwnCall) → HasWhole t op turn o (view a n s) → o.started ≡ true → (why : NotThis)
        → world.AgainstEndWhole s t why → AgainstEndWhole (modes_in s) o why
    not_yet op turn o h begun against.Ticket z =
        let x = has_call a n s t op turn o ok h in
        let w = kept_whole a n s t op turn o x ok begun in
        absurd (z w.0 x.at.place (whole_on a n s t op turn o x ok begun w.0 w.1))
    not_yet op turn o h begun (against.Pending r) z =
        let x = has_call a n s t op turn o ok h in
        ap (λ ps. is_pending_at (mode_of (modes_in s) r) (part_at ps r)) (parts_are a n s t op turn o x z.0 z.2.is z.2.number) ∙ z.3
    not_yet op turn o h begun (against.Mode m) z = absurd z
    not_yet op turn o h begun against.Page z = absurd z
    not_yet op turn o h begun (against.Count c) z = absurd z

    pub ends_why : (s2 : State) (res : Result ℕ NotThis) → IfErr res (world.AgainstEndWhole s t) → OnErr res (s2 ≡ s)
        → HasBegun t (view a n s)
        → IfErr res (λ why. (op : WholeOp) (turn : List OwnCall) (o : OwnCall) → HasWhole t op turn o (view a n s)
        → AgainstEndWhole (modes_in s2) o why)
    ends_why s2 (Ok at) z err w = tt
    ends_why s2 (Failed why) z err w = λ op turn o h. subst (λ (y : State). AgainstEndWhole (modes_in y) o why) (sym err)
        (not_yet op turn o h (begun_all a n t s ok w op turn o h) why z)
