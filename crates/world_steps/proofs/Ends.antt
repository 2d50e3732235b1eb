-- The end of an add: what each step makes of what its stream knows, of the row of the step.
use Rattle.std.proofs.Common.{◌≡◌, ℕ, Bool, true, false, cond, [], ◌∷◌, ◌++◌, length, inl, inr, Option, Some, None, IfSome}
use Rattle.std.proofs.Common.{subst, sym, refl, ap, ◌∙◌, eq-eqb, append_assoc}
use Rattle.volume_model.specs.declared.command.Command.{Command}
use Rattle.volume_model.specs.declared.command.Command.TheVariants as command
use Rattle.volume_model.specs.declared.call.Call.TheVariants as call
use Rattle.volume_model.specs.declared.call.Reply.{Reply}
use Rattle.volume_model.specs.declared.call.Reply.TheVariants as reply
use Rattle.volume_model.specs.declared.entry.Answer.{Answer}
use Rattle.volume_model.specs.declared.entry.Entry.{Entry}
use Rattle.volume_model.specs.declared.entry.Entry.TheVariants as entry
use Rattle.volume_model.specs.declared.mark.Mark.TheVariants as mark
use Rattle.volume_model.specs.declared.mark.Rebuild.TheVariants as rebuild
use Rattle.volume_model.specs.History.{Spot}
use Rattle.volume_model.specs.OneWorker.{behind_entries}
use Rattle.volume_model.specs.Rebuilds.{rebuild_of}
use Rattle.open_calls.specs.declared.maint.MaintCall.{MaintCall}
use Rattle.open_rebuild.specs.declared.rebuilding.Rebuilding.{Rebuilding}
use Rattle.volume_core.specs.declared.world.EndedRebuild.{EndedRebuild}
use Rattle.volume_core.specs.State.{State, spot_of}
use Rattle.volume_core.specs.Sound.{IsSound, AreAdds, how_far}
use Rattle.volume_core.specs.Streams.{MayGo, running, turning}
use Rattle.volume_core.specs.Turn.{without_command}
use Rattle.volume_maint.specs.Steps.{turn_abandoned, abandoned_with, gives_up}
use Rattle.volume_maint.specs.Answers as world
use Rattle.volume_rebuild.specs.Answers as again
use Rattle.volume_rebuild.specs.Steps.{promoted}
use Rattle.stream_steps.specs.Mine.{OwnCall, answer_placed, with_entries}
use Rattle.stream_steps.specs.Steps.{AreMarks}
use Rattle.stream_steps.specs.Maint.{HasTurn, AnswersWhole}
use Rattle.stream_steps.specs.Add.{HasAdd, Promotes, EndsAborted, AbandonsAdd, LeavesAdd}
use Rattle.world_holder.specs.View.{view}
use Rattle.world_holder.proofs.Grow.{grown_by}
use Rattle.world_steps.proofs.AtOnce.{own_behind}
use Rattle.world_steps.proofs.Turns.{runs_as, ended_answer, turn_one, turn_here, turn_stream, turn_command, its_first, none_left}
use Rattle.world_steps.proofs.Turns.{ended_mine, gone_without}

same_add : (a b : ℕ) → command.Add a ≡ command.Add b → a ≡ b
same_add a b e = cc

-- a rebuild that was aborted is told so by the journal
told_so : (s : State) (q place : ℕ) → IsSound s → s.ended ≡ Some (record { target = q; place = place })
    → rebuild_of q s.book.entries ≡ rebuild.Aborted place
told_so s q place ok e =
    let end : EndedRebuild = record { target = q; place = place } in
    ok.on.told.ordered.rebuild q ∙ ap (λ x. how_far s.rebuild x q) e
    ∙ ap (λ x. how_far x (Some end) q) (none_open s.rebuild (subst (AreAdds s.maint s.commands s.rebuild) e ok.adds))
    ∙ ap (λ (b : Bool). cond b (rebuild.Aborted place) rebuild.Unasked) (eq-eqb q q refl)
  where
    none_open : (x : Option Rebuilding) → AreAdds s.maint s.commands x (Some (record { target = q; place = place })) → x ≡ None
    none_open None adds = refl
    none_open (Some b) adds = absurd cc

module _ (a : Bool) (n t : ℕ) (s s2 : State) (ok : IsSound s) (may : MayGo n s s2) where
  -- ---- behind one mark the command that has the turn is answered

  module _ (c : Command) (o : OwnCall) (h : HasTurn t c o (view a n s)) (m : Entry) (are : AreMarks (m ∷ [])) (y : Reply) where
    abbrev its_answer : Answer
    its_answer = ended_answer s y

    abbrev its_spot : Spot
    its_spot = behind_entries (spot_of s) (m ∷ [])

    its_call : its_answer.call ≡ o.call
    its_call = ap (λ (x : MaintCall). call.Command x.command) (turn_here a n t s ok c o h)
        ∙ ap (λ (x : OwnCall). x.call) (turn_one a n t s ok c o h).is

    its_saw : its_answer.saw ≡ o.saw
    its_saw = ap (λ (x : MaintCall). x.saw) (turn_here a n t s ok c o h) ∙ ap (λ (x : OwnCall). x.saw) (turn_one a n t s ok c o h).is

    -- what the World is then
    record Ends : Type 0 where
      turns : turning s2 n ≡ turning (without_command s 0) n
      calls : running s2 n ≡ running s n
      entries : s2.book.entries ≡ s.book.entries ++ (m ∷ entry.Answer its_answer ∷ [])

    marked_mine : Ends → view a n s2 ≡ with_entries (view a n s) (answer_placed its_spot its_answer ∷ [])
        (m ∷ entry.Answer its_answer ∷ []) []
    marked_mine e =
        let one = turn_one a n t s ok c o h in
        grown_by n s s2 may a (answer_placed its_spot its_answer ∷ []) [] (m ∷ entry.Answer its_answer ∷ []) e.entries
        (own_behind n (spot_of s) (m ∷ []) its_answer are (turn_stream a n t s ok c o h))
        (runs_as n s2 [] [] s2.whole (e.turns ∙ none_left a n t s ok o one h.number (its_first a n t s ok c o h))
        (e.calls ∙ one.calls) refl)

    as_abandoned : Ends → (q place : ℕ) → m ≡ entry.Mark (mark.Aborted q) → y ≡ reply.Aborted place
        → AbandonsAdd o (view a n s) (view a n s2)
    as_abandoned e q place marked told = record {
      place = place;
      marks = m ∷ [];
      are = inr (q, ap (λ x. x ∷ []) marked);
      spot = its_spot;
      answer = its_answer;
      is = marked_mine e;
      call = its_call;
      by = turn_stream a n t s ok c o h;
      saw = its_saw;
      reply = told;
    }

    as_promoted : Ends → (q : ℕ) → m ≡ entry.Mark (mark.Promoted q) → y ≡ reply.Done → Promotes q o (view a n s) (view a n s2)
    as_promoted e q marked told = record {
      spot = its_spot;
      answer = its_answer;
      is = marked_mine e ∙ ap
          (λ x. with_entries (view a n s) (answer_placed its_spot its_answer ∷ []) (x ∷ entry.Answer its_answer ∷ []) [])
          marked;
      call = its_call;
      by = turn_stream a n t s ok c o h;
      saw = its_saw;
      reply = told;
    }

  -- ---- promoted

  module _ (r q : ℕ) (o : OwnCall) (h : HasAdd t r o (view a n s)) where
    promoted_ends : s2 ≡ promoted s q → Ends (command.Add r) o h (entry.Mark (mark.Promoted q)) (tt, tt) reply.Done
    promoted_ends e = record {
      turns = ap (λ (x : State). turning x n) e;
      calls = ap (λ (x : State). running x n) e;
      entries = ap (λ (x : State). x.book.entries) e
          ∙ append_assoc s.book.entries (entry.Mark (mark.Promoted q) ∷ [])
          (entry.Answer (ended_answer s reply.Done) ∷ []);
    }

    given_ends : s2 ≡ gives_up s q → Ends (command.Add r) o h (entry.Mark (mark.Aborted q)) (tt, tt) (reply.Aborted (length s.book.entries))
    given_ends e = record {
      turns = ap (λ (x : State). turning x n) e;
      calls = ap (λ (x : State). running x n) e;
      entries = ap (λ (x : State). x.book.entries) e
          ∙ append_assoc s.book.entries (entry.Mark (mark.Aborted q) ∷ [])
          (entry.Answer (ended_answer s (reply.Aborted (length s.book.entries))) ∷ []);
    }

  pub promote_row : again.Promotes s t s2 → (r : ℕ) (o : OwnCall) → HasAdd t r o (view a n s) → Promotes r o (view a n s) (view a n s2)
  promote_row y r o h =
      let adds : AreAdds s.maint s.commands (Some y.b) s.ended = subst (λ x. AreAdds s.maint s.commands x s.ended) y.past.begun ok.adds in
      let same : y.b.target ≡ r = same_add y.b.target r (sym adds.of_begun.turn.command ∙ turn_command a n t s ok (command.Add r) o h) in
      as_promoted (command.Add r) o h (entry.Mark (mark.Promoted y.b.target)) (tt, tt) reply.Done
      (promoted_ends r y.b.target o h y.state) r (ap (λ k. entry.Mark (mark.Promoted k)) same) refl

  -- ---- aborted

  pub aborted_row : (place : ℕ) → world.EndsTurn s t (reply.Aborted place) s2 → (r : ℕ) (o : OwnCall) → HasAdd t r o (view a n s)
      → EndsAborted r place o (view a n s) (view a n s2)
  aborted_row place y r o h =
      let same : y.may.0 ≡ r = same_add y.may.0 r (sym y.may.1 ∙ turn_command a n t s ok (command.Add r) o h) in
      record {
        answers = ended_mine a n t s s2 ok may (reply.Aborted place) (command.Add r) o h y.state;
        right = known a (told_so s r place ok (y.may.2 ∙ ap (λ k. Some (record { target = k; place = place })) same));
      }
    where
      known : (b : Bool) → rebuild_of r s.book.entries ≡ rebuild.Aborted place
          → IfSome (view b n s).log (λ log. rebuild_of r log.entries ≡ rebuild.Aborted place)
      known true e = e
      known false e = tt

  -- ---- abandoned

  one_more_answer : (place : ℕ) (o : OwnCall) → AnswersWhole o (reply.Aborted place) (view a n s) (view a n s2)
      → AbandonsAdd o (view a n s) (view a n s2)
  one_more_answer place o x = record {
    place = place;
    marks = [];
    are = inl refl;
    spot = x.spot;
    answer = x.answer;
    is = x.is;
    call = x.call;
    by = x.by;
    saw = x.saw;
    reply = x.reply;
  }

  pub abandon_row : s2 ≡ turn_abandoned s → (r : ℕ) (o : OwnCall) → HasAdd t r o (view a n s) → LeavesAdd o (view a n s) (view a n s2)
  abandon_row e r o h = by s.rebuild s.ended e
    where
      by : (x : Option Rebuilding) (g : Option EndedRebuild) → s2 ≡ abandoned_with x g s → LeavesAdd o (view a n s) (view a n s2)
      by (Some b) g f = inr
          (as_abandoned (command.Add r) o h (entry.Mark (mark.Aborted b.target)) (tt, tt)
          (reply.Aborted (length s.book.entries)) (given_ends r b.target o h f) b.target (length s.book.entries) refl refl)
      by None (Some g) f = inr (one_more_answer g.place o (ended_mine a n t s s2 ok may (reply.Aborted g.place) (command.Add r) o h f))
      by None None f = inl (gone_without a n t s s2 ok may (command.Add r) o h f)

-- the operation on the whole volume stays
pub abandon_whole : (s s2 : State) → s2 ≡ turn_abandoned s → s2.whole ≡ s.whole
abandon_whole s s2 e = by s.rebuild s.ended e
  where
    by : (x : Option Rebuilding) (g : Option EndedRebuild) → s2 ≡ abandoned_with x g s → s2.whole ≡ s.whole
    by (Some b) g f = ap (λ (z : State). z.whole) f
    by None (Some g) f = ap (λ (z : State). z.whole) f
    by None None f = ap (λ (z : State). z.whole) f
