-- An add is answered as one worker answers it there, where no line failed.
use Rattle.std.proofs.Common.{◌≡◌, ℕ, inl, inr, ⊎_elim, cond, eqb, is_ok, is_some, true, false, List, [], ◌∷◌, ◌++◌}
use Rattle.std.proofs.Common.{Option, Some, None, IfSome, Result, Ok, Err, OnOk, subst, sym, refl, ap, ◌∙◌}
use Rattle.std.proofs.Common.{append_assoc, append-nil}
use Rattle.std.specs.Prelude.{All}
use Rattle.std.proofs.lemmas.Bool.{eq-eqb}
use Rattle.std.proofs.lemmas.List.Elements.{All-append}
use Rattle.vol_units.specs.Name.{sys_name}
use Rattle.volume_model.specs.declared.command.Command.TheVariants as command
use Rattle.volume_model.specs.declared.call.Call.TheVariants as call
use Rattle.volume_model.specs.declared.call.Refusal.{Refusal}
use Rattle.volume_model.specs.declared.call.Reply.TheVariants as reply
use Rattle.volume_model.specs.declared.entry.Answer.{Answer}
use Rattle.volume_model.specs.declared.entry.Entry.{Entry}
use Rattle.volume_model.specs.declared.entry.Entry.TheVariants as entry
use Rattle.volume_model.specs.declared.mark.Mark.TheVariants as mark
use Rattle.volume_model.specs.declared.mark.Rebuild.{Rebuild}
use Rattle.volume_model.specs.declared.mark.Rebuild.TheVariants as rebuild
use Rattle.volume_model.specs.Modes.{source_of}
use Rattle.volume_model.specs.OneWorker.{refused_at, marks_unless, marks_before, add_marks, reply_for}
use Rattle.volume_model.specs.Rebuilds.{rebuild_of}
use Rattle.volume_model.proofs.RebuildLemmas.{rebuild_of-push}
use Rattle.stream_steps.specs.Mine.{Mine, OwnCall, Log, with_entries, with_more, with_running, longer, length_of, log_length, answer_placed}
use Rattle.stream_steps.specs.Steps.{AreMarks, IsCommandAt}
use Rattle.step_answers.specs.declared.whole_op.WholeOp.TheVariants as whole
use Rattle.stream_steps.specs.Maint.{HasWhole, StartsBarrier}
use Rattle.stream_steps.specs.Add.{HasAdd, Promotes, EndsAborted, LeavesAdd}
use Rattle.stream_steps.proofs.MineLemmas.{entries_none, entries_twice}
use Rattle.control_worker.proofs.ShownLemmas.{StaysShown, stays_running, stays_answer}
use Rattle.control_worker.specs.OwnAnswers.{answers_in}
use Rattle.control_worker.specs.Purges.{MayComeBefore, AreFalls}
use Rattle.control_worker.specs.Serving.{GrewByCommand, LeftUndone}
use Rattle.control_worker.proofs.OwnAnswers.{has_both, has_last}
use Rattle.control_worker.specs.Whole.{GoesOn, RefusedWhole, EndsBehind}
use Rattle.control_worker.proofs.AnswerLemmas.{known, command_at}
use Rattle.control_worker.proofs.Goes.{are_first, aborts_come, comes, none_come, falls_both}
use Rattle.control_worker.specs.Adding.{BeganRebuild, PassesTo, EndsRebuild, AddsTo, GoesAdding}

-- ---- refused

module _ (r : ℕ) (o : OwnCall) (a c d : Mine) (from : c ≡ with_running a (o ∷ []))
    (is : o.call ≡ call.Command (command.Add r)) (saw : IfSome (log_length a) (λ place. o.saw ≡ place)) where
  stream_same : c.stream ≡ a.stream
  stream_same = ap (λ (m : Mine). m.stream) from

  log_same : c.log ≡ a.log
  log_same = ap (λ (m : Mine). m.log) from

  refused_turn : (why : Refusal) (an : Answer) (log : Option Log) → IfSome log (λ l. refused_at l.spot o.call ≡ Some why)
      → an.call ≡ o.call → an.reply ≡ reply.Refused why → an.stream ≡ a.stream
      → IfSome log (λ l. an.saw ≡ length_of l)
      → IfSome log (λ l. AreMarks [] → IsCommandAt a.stream (command.Add r) (entry.Answer an ∷ []) an l)
  refused_turn why an None right asked says by seen = tt
  refused_turn why an (Some l) right asked says by seen = λ are.
      let c = call.Command (command.Add r) in
      let why_at : refused_at l.spot c ≡ Some why = subst (λ x. refused_at l.spot x ≡ Some why) is right in
      command_at l.spot a.stream (length_of l) c [] an (ap (λ w. marks_unless w l.spot c) why_at) (asked ∙ is)
      (says ∙ sym (ap (λ w. reply_for w l.spot c) why_at)) seen by

  pub grew_refused : RefusedWhole o c d → GrewByCommand (command.Add r) a d
  grew_refused s =
      let w = s.answers in
      let by : w.answer.stream ≡ a.stream = w.by ∙ stream_same in
      let seen : IfSome a.log (λ l. w.answer.saw ≡ length_of l) = known a.log o.saw w.answer.saw w.saw saw in
      record {
        own = answer_placed w.spot w.answer ∷ [];
        all = entry.Answer w.answer ∷ [];
        is = w.is ∙ ap (λ (m : Mine). with_more m (answer_placed w.spot w.answer ∷ []) []) from;
        same = refl;
        done = record {
          marks = [];
          answer = w.answer;
          is = refl;
          are = none_come a.stream;
          call = w.call ∙ is;
          by = by;
          saw = seen;
          turn = refused_turn s.why w.answer a.log
              (subst (λ x. IfSome x (λ (l : Log). refused_at l.spot o.call ≡ Some s.why)) log_same s.right) w.call w.reply
              by seen;
        };
      }

  -- ---- promoted

  module _ (g : BeganRebuild r o c d) where
    falls_here : AreFalls a.stream g.marks
    falls_here = subst (λ n. AreFalls n g.marks) stream_same g.falls

    begun : d ≡ with_entries a g.own (entry.Mark (mark.Added r g.source g.name) ∷ g.marks) (o ∷ [])
    begun = g.is ∙ ap (λ (m : Mine). with_entries m g.own (entry.Mark (mark.Added r g.source g.name) ∷ g.marks) (o ∷ [])) from

    added_comes : (es : List Entry) → All (MayComeBefore a.stream) es
        → All (MayComeBefore a.stream) (entry.Mark (mark.Added r g.source g.name) ∷ es)
    added_comes es h = comes a.stream (entry.Mark (mark.Added r g.source g.name)) es (inr tt) h

    stands : IfSome a.log (λ l. refused_at l.spot o.call ≡ None)
    stands = subst (λ x. IfSome x (λ (l : Log). refused_at l.spot o.call ≡ None)) log_same g.free

    from_source : IfSome a.log (λ l. source_of l.spot.modes ≡ Some g.source)
    from_source = subst (λ x. IfSome x (λ (l : Log). source_of l.spot.modes ≡ Some g.source)) log_same g.from

    under_name : IfSome a.log (λ l. g.name ≡ sys_name l.spot.state.volume.snapshots.number)
    under_name = subst (λ x. IfSome x (λ (l : Log). g.name ≡ sys_name l.spot.state.volume.snapshots.number)) log_same g.under

    promoted_turn : (an : Answer) (log : Option Log) → IfSome log (λ l. refused_at l.spot o.call ≡ None)
        → IfSome log (λ l. source_of l.spot.modes ≡ Some g.source)
        → IfSome log (λ l. g.name ≡ sys_name l.spot.state.volume.snapshots.number) → an.call ≡ o.call
        → an.reply ≡ reply.Done → an.stream ≡ a.stream → IfSome log (λ l. an.saw ≡ length_of l)
        → IfSome log (λ l. AreMarks (entry.Mark (mark.Added r g.source g.name) ∷ (g.marks ++ entry.Mark (mark.Promoted r) ∷ []))
        → IsCommandAt a.stream (command.Add r)
        ((entry.Mark (mark.Added r g.source g.name) ∷ (g.marks ++ entry.Mark (mark.Promoted r) ∷ [])) ++ entry.Answer an
        ∷ []) an l)
    promoted_turn an None free source under asked says by seen = tt
    promoted_turn an (Some l) free source under asked says by seen = λ are.
        let c = call.Command (command.Add r) in
        let none : g.marks ≡ [] = falls_here.none (are_first g.marks (entry.Mark (mark.Promoted r) ∷ []) are.1) in
        let free_at : refused_at l.spot c ≡ None = subst (λ x. refused_at l.spot x ≡ None) is free in
        let marks_are : marks_before l.spot c ≡ entry.Mark (mark.Added r g.source g.name) ∷ (g.marks ++ entry.Mark (mark.Promoted r) ∷ []) =
        ap (λ w. marks_unless w l.spot c) free_at ∙ ap (add_marks l.spot.state r) source
        ∙ ap (λ n. entry.Mark (mark.Added r g.source n) ∷ entry.Mark (mark.Promoted r) ∷ []) (sym under)
        ∙ ap (λ ms. entry.Mark (mark.Added r g.source g.name) ∷ (ms ++ entry.Mark (mark.Promoted r) ∷ [])) (sym none) in
        command_at l.spot a.stream (length_of l) c
        (entry.Mark (mark.Added r g.source g.name) ∷ (g.marks ++ entry.Mark (mark.Promoted r) ∷ [])) an marks_are
        (asked ∙ is)
        (says ∙ sym (ap (λ w. reply_for w l.spot c) free_at)) seen by

    pub grew_promoted : (f : Mine) → Promotes r o d f → GrewByCommand (command.Add r) a f
    grew_promoted f p =
        let promoted = entry.Mark (mark.Promoted r) in
        let last = entry.Mark (mark.Promoted r) ∷ entry.Answer p.answer ∷ [] in
        let first = entry.Mark (mark.Added r g.source g.name) ∷ g.marks in
        let own = answer_placed p.spot p.answer ∷ [] in
        let by : p.answer.stream ≡ a.stream = p.by ∙ ap (λ (m : Mine). m.stream) begun in
        let seen : IfSome a.log (λ l. p.answer.saw ≡ length_of l) = known a.log o.saw p.answer.saw p.saw saw in
        record {
          own = g.own ++ own;
          all = first ++ last;
          is = p.is ∙ ap (λ (m : Mine). with_entries m own last []) begun ∙ entries_twice a g.own own first last (o ∷ []) [];
          same = has_both g.own own first last g.same refl;
          done =
              let append_assoc_here = append_assoc g.marks (promoted ∷ []) (entry.Answer p.answer ∷ []) in
              record {
                marks = entry.Mark (mark.Added r g.source g.name) ∷ (g.marks ++ promoted ∷ []);
                answer = p.answer;
                is = ap (λ es. entry.Mark (mark.Added r g.source g.name) ∷ es) (sym append_assoc_here);
                are = added_comes (g.marks ++ promoted ∷ [])
                    (All-append (MayComeBefore a.stream) g.marks (promoted ∷ []) falls_here.come
                    (comes a.stream promoted [] (inr tt) (none_come a.stream)));
                call = p.call ∙ is;
                by = by;
                saw = seen;
                turn = subst (λ es. IfSome a.log
                    (λ (l : Log). AreMarks (entry.Mark (mark.Added r g.source g.name) ∷ (g.marks ++ promoted ∷ []))
                    → IsCommandAt a.stream (command.Add r) es p.answer l))
                    (ap (λ es. entry.Mark (mark.Added r g.source g.name) ∷ es) append_assoc_here)
                    (promoted_turn p.answer a.log stands from_source under_name p.call p.reply by seen);
              };
        }

    -- ---- aborted

    same_test : (x y : Rebuild) → cond (eqb r r) x y ≡ x
    same_test x y = ap (λ t. cond t x y) (eq-eqb r r refl)

    not_open : (place : ℕ) → rebuild.Open g.source ≡ rebuild.Aborted place → ⊥
    not_open place h = cc

    open_still : (l : Log) (place : ℕ)
        → rebuild_of r (l.entries ++ entry.Mark (mark.Added r g.source g.name) ∷ []) ≡ rebuild.Aborted place → ⊥
    open_still l place e =
        not_open place (sym (rebuild_of-push r l.entries (entry.Mark (mark.Added r g.source g.name))
        ∙ same_test (rebuild.Open g.source) (rebuild_of r l.entries)) ∙ e)

    aborted_turn : (place : ℕ) (an : Answer) (log mid : Option Log)
        → mid ≡ longer log (entry.Mark (mark.Added r g.source g.name) ∷ g.marks)
        → IfSome mid (λ l. rebuild_of r l.entries ≡ rebuild.Aborted place)
        → IfSome log (λ l. AreMarks (entry.Mark (mark.Added r g.source g.name) ∷ g.marks)
        → IsCommandAt a.stream (command.Add r)
        ((entry.Mark (mark.Added r g.source g.name) ∷ g.marks) ++ entry.Answer an ∷ []) an l)
    aborted_turn place an None mid more right = tt
    aborted_turn place an (Some l) mid more right = λ are.
        let none : g.marks ≡ [] = falls_here.none are.1 in
        let one : mid ≡ longer (Some l) (entry.Mark (mark.Added r g.source g.name) ∷ []) =
        more ∙ ap (λ ms. longer (Some l) (entry.Mark (mark.Added r g.source g.name) ∷ ms)) none in
        absurd (open_still l place (subst (λ x. IfSome x (λ (y : Log). rebuild_of r y.entries ≡ rebuild.Aborted place)) one right))

    pub grew_aborted : (place : ℕ) (f : Mine) → EndsAborted r place o d f → GrewByCommand (command.Add r) a f
    grew_aborted place f e =
        let w = e.answers in
        let first = entry.Mark (mark.Added r g.source g.name) ∷ g.marks in
        let own = answer_placed w.spot w.answer ∷ [] in
        let by : w.answer.stream ≡ a.stream = w.by ∙ ap (λ (m : Mine). m.stream) begun in
        let seen : IfSome a.log (λ l. w.answer.saw ≡ length_of l) = known a.log o.saw w.answer.saw w.saw saw in
        record {
          own = g.own ++ own;
          all = first ++ entry.Answer w.answer ∷ [];
          is = w.is ∙ ap (λ (m : Mine). with_more m own []) begun
              ∙ entries_twice a g.own own first (entry.Answer w.answer ∷ []) (o ∷ []) [];
          same = has_both g.own own first (entry.Answer w.answer ∷ []) g.same refl;
          done = record {
            marks = first;
            answer = w.answer;
            is = refl;
            are = added_comes g.marks falls_here.come;
            call = w.call ∙ is;
            by = by;
            saw = seen;
            turn = aborted_turn place w.answer a.log d.log (ap (λ (m : Mine). m.log) begun) e.right;
          };
        }

  -- ---- left

  pub left_added : (f : Mine) → GoesAdding o c d → LeavesAdd o d f → LeftUndone (command.Add r) a f
  left_added f g (inl gone) = record {
    own = g.own;
    marks = g.marks;
    last = [];
    is = gone ∙ ap (λ (m : Mine). with_running m []) (g.is ∙ ap (λ (m : Mine). with_entries m g.own g.marks (o ∷ [])) from)
        ∙ ap (λ es. with_entries a g.own es []) (sym (append-nil g.marks));
    same = g.same ∙ ap answers_in (sym (append-nil g.marks));
    are = subst (λ n. All (MayComeBefore n) g.marks) stream_same g.come;
    left = inl refl;
  }
  left_added f g (inr w) =
      let own = answer_placed w.spot w.answer ∷ [] in
      let begun : d ≡ with_entries a g.own g.marks (o ∷ []) = g.is ∙ ap (λ (m : Mine). with_entries m g.own g.marks (o ∷ [])) from in
      let come : All (MayComeBefore a.stream) g.marks = subst (λ n. All (MayComeBefore n) g.marks) stream_same g.come in
      let last = entry.Answer w.answer ∷ [] in
      record {
        own = g.own ++ own;
        marks = g.marks ++ w.marks;
        last = last;
        is = w.is ∙ ap (λ (m : Mine). with_entries m own (w.marks ++ last) []) begun
            ∙ entries_twice a g.own own g.marks (w.marks ++ last) (o ∷ []) []
            ∙ ap (λ es. with_entries a (g.own ++ own) es []) (sym (append_assoc g.marks w.marks last));
        same = has_both g.own own g.marks (w.marks ++ last) g.same
            (has_last a.stream w.spot w.answer w.marks (aborts_come a.stream w.marks w.are))
            ∙ ap answers_in (sym (append_assoc g.marks w.marks last));
        are = All-append (MayComeBefore a.stream) g.marks w.marks come (aborts_come a.stream w.marks w.are);
        left = inr (record {
          replica = r;
          place = w.place;
          answer = w.answer;
          is = refl;
          add = refl;
          call = w.call ∙ is;
          by = w.by ∙ ap (λ (m : Mine). m.stream) begun;
          saw = known a.log o.saw w.answer.saw w.saw saw;
          reply = w.reply;
        });
      }

-- ---- answered

pub grew_added : (r : ℕ) (o : OwnCall) (a c d : Mine) → c ≡ with_running a (o ∷ []) → o.call ≡ call.Command (command.Add r)
    → IfSome (log_length a) (λ place. o.saw ≡ place) → AddsTo r o c d → GrewByCommand (command.Add r) a d
grew_added r o a c d from is saw (inl refused) = grew_refused r o a c d from is saw refused
grew_added r o a c d from is saw (inr done) =
    ⊎_elim (λ (p : Promotes r o done.mid d). grew_promoted r o a c done.mid from is saw done.goes d p)
    (λ (e : (place : ℕ) × EndsAborted r place o done.mid d). grew_aborted r o a c done.mid from is saw done.goes e.0 d e.1) done.ends

-- ---- marks that came, while the add has the turn

pub goes_none : (o : OwnCall) (a b : Mine) → b ≡ with_running a (o ∷ []) → GoesAdding o a b
goes_none o a b e = record { own = []; marks = []; come = none_come a.stream; is = e ∙ sym (entries_none a (o ∷ [])); same = refl }

-- lines failed once it is being rebuilt
pub rebuilds_on : (r : ℕ) (o : OwnCall) (a b c : Mine) → BeganRebuild r o a b → GoesOn b c → BeganRebuild r o a c
rebuilds_on r o a b c g f =
    let run : b.running ≡ o ∷ [] = ap (λ (m : Mine). m.running) g.is in
    let first = entry.Mark (mark.Added r g.source g.name) ∷ g.marks in
    record {
      source = g.source;
      name = g.name;
      own = g.own ++ f.own;
      marks = g.marks ++ f.marks;
      falls = falls_both a.stream g.marks f.marks g.falls (subst (λ n. AreFalls n f.marks) (ap (λ (m : Mine). m.stream) g.is) f.falls);
      is = f.is ∙ ap (λ os. with_entries b f.own f.marks os) run ∙ ap (λ (m : Mine). with_entries m f.own f.marks (o ∷ [])) g.is
          ∙ entries_twice a g.own f.own first f.marks (o ∷ []) (o ∷ []);
      same = has_both g.own f.own g.marks f.marks g.same f.same;
      free = g.free;
      from = g.from;
      under = g.under;
    }

pub rebuilds_goes : (r : ℕ) (o : OwnCall) (a b : Mine) → BeganRebuild r o a b → GoesAdding o a b
rebuilds_goes r o a b g = record {
  own = g.own;
  marks = entry.Mark (mark.Added r g.source g.name) ∷ g.marks;
  come = comes a.stream (entry.Mark (mark.Added r g.source g.name)) g.marks (inr tt) g.falls.come;
  is = g.is;
  same = g.same;
}

-- ---- past its barrier

pub rebuilding_has : (t r : ℕ) (o : OwnCall) (a b : Mine) → HasAdd t r o a → BeganRebuild r o a b → HasAdd t r o b
rebuilding_has t r o a b h g =
    record {
      is = ap (λ (m : Mine). m.running) g.is;
      number = h.number;
      call = h.call;
      wants = h.wants;
      started =
          h.started;
    }

pub passed : (s : Option ℕ) (source r : ℕ) (o : OwnCall) (a b : Mine) → s ≡ Some source → PassesTo s r o a b → BeganRebuild r o a b
passed s source r o a b e p = subst (λ x. PassesTo x r o a b) e p

-- refused, as its barrier was
pub refused_barrier : (o own : OwnCall) (a b c : Mine) → b ≡ with_running a (o ∷ own ∷ []) → own.call ≡ o.call
    → own.saw ≡ o.saw → RefusedWhole own b c → RefusedWhole o a c
refused_barrier o own a b c e call saw s = record {
  why = s.why;
  answers = record {
    spot = s.answers.spot;
    answer = s.answers.answer;
    is = s.answers.is ∙ ap (λ (m : Mine). with_more m (answer_placed s.answers.spot s.answers.answer ∷ []) []) e;
    here = subst (λ x. IfSome x (λ (l : Log). l.spot ≡ s.answers.spot)) (ap (λ (m : Mine). m.log) e) s.answers.here;
    call = s.answers.call ∙ call;
    by = s.answers.by ∙ ap (λ (m : Mine). m.stream) e;
    saw = s.answers.saw ∙ saw;
    reply = s.answers.reply;
  };
  right = subst (λ x. IfSome x (λ (l : Log). refused_at l.spot o.call ≡ Some s.why)) (ap (λ (m : Mine). m.log) e)
      (subst (λ x. IfSome b.log (λ (l : Log). refused_at l.spot x ≡ Some s.why)) call s.right);
}

-- begun, with its barrier started and ended
pub begun_barrier : (r : ℕ) (o own : OwnCall) (a b c d : Mine) → b ≡ with_running a (o ∷ own ∷ []) → own.call ≡ o.call
    → (s : StartsBarrier r (o ∷ []) own b c) → EndsBehind (whole.Barrier r) (o ∷ []) s.own c d → BeganRebuild r o a d
begun_barrier r o own a b c d e call s f =
    let os = o ∷ record s.own { parts = f.parts } ∷ [] in
    let first = entry.Mark (mark.Added r s.source s.name) ∷ [] in
    let begun : c ≡ with_entries a [] first (o ∷ s.own ∷ []) = s.is ∙ ap (λ (m : Mine). with_entries m [] first (o ∷ s.own ∷ [])) e in
    let log : b.log ≡ a.log = ap (λ (m : Mine). m.log) e in
    record {
      source = s.source;
      name = s.name;
      own = f.goes.own;
      marks = f.goes.marks;
      falls = subst (λ n. AreFalls n f.goes.marks) (ap (λ (m : Mine). m.stream) begun) f.goes.falls;
      is = f.ends ∙ ap (λ (m : Mine). with_running m (o ∷ []))
          (f.goes.is ∙ ap (λ (m : Mine). with_entries m f.goes.own f.goes.marks os) begun
          ∙ entries_twice a [] f.goes.own first f.goes.marks (o ∷ s.own ∷ []) os);
      same = f.goes.same;
      free = subst (λ x. IfSome x (λ (l : Log). refused_at l.spot o.call ≡ None)) log
          (subst (λ x. IfSome b.log (λ (l : Log). refused_at l.spot x ≡ None)) call s.free);
      from = subst (λ x. IfSome x (λ (l : Log). source_of l.spot.modes ≡ Some s.source)) log s.from;
      under = subst (λ x. IfSome x (λ (l : Log). s.name ≡ sys_name l.spot.state.volume.snapshots.number)) log s.under;
    }

-- ---- what is answered

pub some_holds : {A P : Type 0} (x : Option A) → is_some x ≡ true → IfSome x (λ a. P) → P
some_holds None e h = absurd cc
some_holds (Some a) e h = h

pub none_holds : {A : Type 0} (x : Option A) → is_some x ≡ false → x ≡ None
none_holds None e = refl
none_holds (Some a) e = absurd cc

-- ---- memory ran out

pub adding_has : (t r : ℕ) (o : OwnCall) (a b : Mine) → HasAdd t r o a → GoesAdding o a b → HasAdd t r o b
adding_has t r o a b h g =
    record {
      is = ap (λ (m : Mine). m.running) g.is;
      number = h.number;
      call = h.call;
      wants = h.wants;
      started =
          h.started;
    }

-- what lines show is shown still
pub leaves_stays : (r : ℕ) (o : OwnCall) (a b : Mine) → o.call ≡ call.Command (command.Add r) → LeavesAdd o a b → StaysShown a b
leaves_stays r o a b is (inl gone) = stays_running [] a b gone
leaves_stays r o a b is (inr w) = stays_answer (command.Add r) w.spot w.answer (w.marks ++ entry.Answer w.answer ∷ []) a b
    w.is (w.call ∙ is)

pub ends_stays : (t r : ℕ) (o : OwnCall) (a b : Mine) → HasAdd t r o a → EndsRebuild r o a b → StaysShown a b
ends_stays t r o a b h (inl p) = stays_answer (command.Add r) p.spot p.answer
    (entry.Mark (mark.Promoted r) ∷ entry.Answer p.answer ∷ []) a b p.is (p.call ∙ h.call)
ends_stays t r o a b h (inr e) =
    let w = e.1.answers in
    stays_answer (command.Add r) w.spot w.answer (entry.Answer w.answer ∷ []) a b w.is (w.call ∙ h.call)

pub on_ok : {T E : Type 0} (r : Result T E) {P : Type 0} → P → OnOk r P
on_ok (Ok x) h = h
on_ok (Err e) h = tt

pub turn_same : (t r : ℕ) (o : OwnCall) (a b : Mine) → HasAdd t r o a → b ≡ a → b ≡ with_running a (o ∷ [])
turn_same t r o a b h e = e ∙ ap (with_running a) h.is

pub barrier_has : (t r : ℕ) (turn : List OwnCall) (o : OwnCall) (a b : Mine) → HasWhole t (whole.Barrier r) turn o a
    → (s : StartsBarrier r turn o a b) → HasWhole t (whole.Barrier r) turn s.own b
barrier_has t r turn o a b h s = record {
  is = ap (λ (m : Mine). m.running) s.is;
  number = ap (λ (x : OwnCall). x.number) s.same ∙ h.number;
  call = ap (λ (x : OwnCall). x.call) s.same ∙ h.call;
  does = ap (λ (x : OwnCall). x.op) s.same ∙ h.does;
}

pub not_ok : {T E : Type 0} (r : Result T E) (P : Type 0) → is_ok r ≡ false → OnOk r P
not_ok (Ok x) P failed = absurd cc
not_ok (Err e) P failed = tt
