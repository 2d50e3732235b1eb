-- A purge takes out what goes next, part after part, until nothing is left.
use Rattle.std.proofs.Common.{◌≡◌, ℕ, zero, suc, ◌⊎◌, inl, inr, arith, true, List, [], ◌∷◌, ◌++◌, Option, Some, None}
use Rattle.std.proofs.Common.{IfSome, Result, Ok, Err, OnErr, subst, sym, refl, ap, ◌∙◌, append_assoc, append-nil}
use Rattle.std.specs.Prelude.{All}
use Rattle.std.proofs.lemmas.List.{map-append}
use Rattle.std.proofs.lemmas.List.Elements.{All-append}
use Rattle.volume_model.specs.declared.call.Call.{Call}
use Rattle.volume_model.specs.declared.call.Call.TheVariants as call
use Rattle.volume_model.specs.declared.call.Refusal.{Refusal}
use Rattle.volume_model.specs.declared.call.Refusal.TheVariants.{NoReplica}
use Rattle.volume_model.specs.declared.call.Reply.{Reply}
use Rattle.volume_model.specs.declared.call.Reply.TheVariants as reply
use Rattle.volume_model.specs.declared.entry.Answer.{Answer}
use Rattle.volume_model.specs.declared.entry.Entry.{Entry}
use Rattle.volume_model.specs.declared.entry.Entry.TheVariants as entry
use Rattle.volume_model.specs.declared.mark.FoldOrDrop.{FoldOrDrop}
use Rattle.volume_model.specs.declared.mark.Mark.TheVariants as mark
use Rattle.volume_model.specs.History.{Spot}
use Rattle.volume_model.specs.Marks.{marks_of}
use Rattle.volume_model.specs.Modes.{modes_after, HasSource, HasNoSource, source_of}
use Rattle.volume_model.specs.OneWorker.{behind_entries, want_of_replica, refused_at, marks_unless, reply_for, entries_at}
use Rattle.volume_model.specs.Purge.{next_of, parts_of}
use Rattle.volume_model.proofs.OneWorkerLemmas.{marks_keep_modes}
use Rattle.volume_model.proofs.OnlyServed.{with_source}
use Rattle.volume_model.proofs.PurgeLemmas.{parts-none, parts-some}
use Rattle.volume_model.proofs.ServedLemmas.{behind-append}
use Rattle.volume_model.proofs.SpotLemmas.{no_source, source_is}
use Rattle.volume_model.specs.declared.command.Command.TheVariants as command
use Rattle.stream_steps.specs.Mine.{Mine, OwnCall, Log, with_entries, with_more, with_running, longer, length_of, log_length, answer_placed}
use Rattle.stream_steps.specs.Steps.{AreMarks, IsCommandAt}
use Rattle.stream_steps.specs.Maint.{AnswersWhole, EndsPart}
use Rattle.stream_steps.proofs.MineLemmas.{entries_none, entries_twice, longer_none}
use Rattle.control_worker.specs.Purges.{MayComeBefore, AreFalls, PurgesFar, IsPurgeReply, PurgesOn, PurgeEnds, GoesNext}
use Rattle.control_worker.specs.Serving.{GrewByCommand, GaveUp}
use Rattle.control_worker.specs.Whole.{Goes, RefusedWhole}
use Rattle.control_worker.proofs.AnswerLemmas.{known, command_at}
use Rattle.control_worker.proofs.Goes.{are_first, are_second, none_come}
use Rattle.control_worker.proofs.OwnAnswers.{has_both, has_none}

-- ---- how far a purge is

pub far_none : (spot : Spot) → PurgesFar spot []
far_none spot = record { parts = []; are = refl; left = refl; none = λ h. refl }

-- a part more, which goes next
pub far_one : (spot : Spot) (f : FoldOrDrop) → next_of spot.state.volume.snapshots ≡ Some f → (HasNoSource spot.modes → ⊥)
    → PurgesFar spot (entry.Mark (mark.Purged f) ∷ [])
far_one spot f next some = record {
  parts = f ∷ [];
  are = refl;
  left = parts-some spot.state.volume.snapshots f next;
  none = λ h. absurd (some h);
}

keep_modes : (spot : Spot) (es : List Entry) (parts : List FoldOrDrop) → es ≡ marks_of parts → (behind_entries spot es).modes ≡ spot.modes
keep_modes spot es parts e = ap (modes_after spot.modes) e ∙ marks_keep_modes spot.modes parts

-- the parts behind those
pub far_then : (spot : Spot) (xs ys : List Entry) → PurgesFar spot xs → PurgesFar (behind_entries spot xs) ys → PurgesFar spot (xs ++ ys)
far_then spot xs ys f g = record {
  parts = f.parts ++ g.parts;
  are = (λ i. f.are i ++ g.are i) ∙ sym (map-append (λ (part : FoldOrDrop). entry.Mark (mark.Purged part)) f.parts g.parts);
  left = f.left ∙ ap (λ ps. f.parts ++ ps) g.left
      ∙ sym (append_assoc f.parts g.parts (parts_of (behind_entries (behind_entries spot xs) ys).state.volume.snapshots))
      ∙ ap (λ (s : Spot). (f.parts ++ g.parts) ++ parts_of s.state.volume.snapshots) (sym (behind-append spot xs ys));
  none = λ h.
      let same = keep_modes spot xs f.parts f.are in
      (λ i. f.none h i ++ g.none (subst HasNoSource (sym same) h) i);
}

-- ---- marks that came

pub on_none : (os : List OwnCall) (a b : Mine) → b ≡ with_running a os → PurgesOn os a b
on_none os a b e = record {
  own = [];
  marks = [];
  is = e ∙ sym (entries_none a os);
  same = refl;
  are = none_come a.stream;
  far = at a.log;
}
  where
    at : (log : Option Log) → IfSome log (λ l. AreMarks [] → PurgesFar l.spot [])
    at None = tt
    at (Some l) = λ are. far_none l.spot

far_more : (log mid : Option Log) (xs ys : List Entry) → mid ≡ longer log xs
    → IfSome log (λ l. AreMarks xs → PurgesFar l.spot xs) → IfSome mid (λ l. AreMarks ys → PurgesFar l.spot ys)
    → IfSome log (λ l. AreMarks (xs ++ ys) → PurgesFar l.spot (xs ++ ys))
far_more None mid xs ys e f g = tt
far_more (Some l) mid xs ys e f g = λ are.
    far_then l.spot xs ys (f (are_first xs ys are))
    ((subst (λ x. IfSome x (λ (y : Log). AreMarks ys → PurgesFar y.spot ys)) e g) (are_second xs ys are))

pub on_then : (os ps : List OwnCall) (a b c : Mine) → PurgesOn os a b → PurgesOn ps b c → PurgesOn ps a c
on_then os ps a b c f g = record {
  own = f.own ++ g.own;
  marks = f.marks ++ g.marks;
  is = g.is ∙ ap (λ (m : Mine). with_entries m g.own g.marks ps) f.is ∙ entries_twice a f.own g.own f.marks g.marks os ps;
  same = has_both f.own g.own f.marks g.marks f.same g.same;
  are = All-append (MayComeBefore a.stream) f.marks g.marks f.are
      (subst (λ n. All (MayComeBefore n) g.marks) (ap (λ (m : Mine). m.stream) f.is) g.are);
  far = far_more a.log b.log f.marks g.marks (ap (λ (m : Mine). m.log) f.is) f.far g.far;
}

-- lines failed
pub on_goes : (os : List OwnCall) (a b : Mine) → Goes os a b → PurgesOn os a b
on_goes os a b g = record {
  own = g.own;
  marks = g.marks;
  is = g.is;
  same = g.same;
  are = g.falls.come;
  far = at a.log;
}
  where
    at : (log : Option Log) → IfSome log (λ l. AreMarks g.marks → PurgesFar l.spot g.marks)
    at None = tt
    at (Some l) = λ are. subst (PurgesFar l.spot) (sym (g.falls.none are)) (far_none l.spot)

-- a part ended
one_part : (spot : Spot) (f : FoldOrDrop) (ms : List Entry) → next_of spot.state.volume.snapshots ≡ Some f
    → (ms ≡ entry.Mark (mark.Purged f) ∷ []) ⊎ (ms ≡ []) → (HasNoSource spot.modes → ms ≡ []) → PurgesFar spot ms
one_part spot f ms next (inl one) none = subst (PurgesFar spot) (sym one) (far_one spot f next (λ h. not_none (sym one ∙ none h)))
  where
    not_none : entry.Mark (mark.Purged f) ∷ [] ≡ [] → ⊥
    not_none e = cc
one_part spot f ms next (inr empty) none = subst (PurgesFar spot) (sym empty) (far_none spot)

part_marks : (stream : ℕ) (f : FoldOrDrop) (ms : List Entry) → (ms ≡ entry.Mark (mark.Purged f) ∷ []) ⊎ (ms ≡ [])
    → All (MayComeBefore stream) ms
part_marks stream f ms (inl one) = subst (All (MayComeBefore stream)) (sym one) (at_one)
  where
    at_one : All (MayComeBefore stream) (entry.Mark (mark.Purged f) ∷ [])
    at_one zero d l = inr tt
    at_one (suc k) d l = absurd (omega (arith, l))
part_marks stream f ms (inr empty) = subst (All (MayComeBefore stream)) (sym empty) (λ k d l. absurd (omega (arith, l)))

part_far : (stream : ℕ) (f : FoldOrDrop) (log mid : Option Log) (xs ms : List Entry) → AreFalls stream xs
    → mid ≡ longer log xs → IfSome log (λ l. next_of l.spot.state.volume.snapshots ≡ Some f)
    → (ms ≡ entry.Mark (mark.Purged f) ∷ []) ⊎ (ms ≡ []) → IfSome mid (λ l. HasNoSource l.spot.modes → ms ≡ [])
    → IfSome log (λ l. AreMarks (xs ++ ms) → PurgesFar l.spot (xs ++ ms))
part_far stream f None mid xs ms falls e next are none = tt
part_far stream f (Some l) mid xs ms falls e next are none = λ marks.
    let no : xs ≡ [] = falls.none (are_first xs ms marks) in
    let same : mid ≡ Some l = e ∙ ap (longer (Some l)) no ∙ longer_none (Some l) in
    let here : HasNoSource l.spot.modes → ms ≡ [] = subst (λ x. IfSome x (λ (y : Log). HasNoSource y.spot.modes → ms ≡ [])) same none in
    subst (PurgesFar l.spot) (ap (λ ys. ys ++ ms) (sym no)) (one_part l.spot f ms next are here)

pub on_part : (f : FoldOrDrop) (os turn : List OwnCall) (a b c : Mine) → Goes os a b → GoesNext f a → EndsPart f turn b c
    → PurgesOn turn a c
on_part f os turn a b c g next e = record {
  own = g.own ++ [];
  marks = g.marks ++ e.marks;
  is = e.is ∙ ap (λ (m : Mine). with_entries m [] e.marks turn) g.is ∙ entries_twice a g.own [] g.marks e.marks os turn;
  same = has_both g.own [] g.marks e.marks g.same (has_none a.stream e.marks (part_marks a.stream f e.marks e.are));
  are = All-append (MayComeBefore a.stream) g.marks e.marks g.falls.come (part_marks a.stream f e.marks e.are);
  far = part_far a.stream f a.log b.log g.marks e.marks g.falls (ap (λ (m : Mine). m.log) g.is) next e.are e.none;
}

-- ---- the answer

-- it ended at once
pub ends_now : (o p : OwnCall) (r : Reply) (a b c : Mine) → b ≡ a → AnswersWhole o r b c → o.call ≡ p.call → o.saw ≡ p.saw
    → IfSome a.log (λ l. IsPurgeReply l.spot r) → PurgeEnds p a c
ends_now o p r a b c e s same saw right = record {
  own = answer_placed s.spot s.answer ∷ [];
  marks = [];
  answer = s.answer;
  is = s.is ∙ ap (λ (m : Mine). with_more m (answer_placed s.spot s.answer ∷ []) []) e;
  same = refl;
  are = λ k d l. absurd (omega (arith, l));
  call = s.call ∙ same;
  by = s.by ∙ ap (λ (m : Mine). m.stream) e;
  saw = s.saw ∙ saw;
  right = at [] refl a.log right;
}
  where
    at : (ms : List Entry) → ms ≡ [] → (log : Option Log) → IfSome log (λ l. IsPurgeReply l.spot r)
        → IfSome log (λ l. AreMarks ms → (ms ≡ []) × IsPurgeReply l.spot s.answer.reply)
    at ms none None h = tt
    at ms none (Some l) h = λ are. (none, subst (IsPurgeReply l.spot) (sym s.reply) h)

-- a part was refused, behind faults: there is no replica
purge_refused : (spot : Spot) (source : Option ℕ) (why : Refusal) → source_of spot.modes ≡ source
    → want_of_replica true source ≡ Some why → IsPurgeReply spot (reply.Refused why)
purge_refused spot None why is e = (refusal_is e, no_source spot.modes is)
  where
    refusal_is : Some NoReplica ≡ Some why → why ≡ NoReplica
    refusal_is h = cc
purge_refused spot (Some s) why is e = absurd cc

refused_far : (stream : ℕ) (why : Refusal) (c : Call) (said : Reply) (log mid : Option Log) (xs : List Entry)
    → c ≡ call.Command command.Purge → AreFalls stream xs → mid ≡ longer log xs → said ≡ reply.Refused why
    → IfSome mid (λ l. refused_at l.spot c ≡ Some why) → IfSome log (λ l. AreMarks xs → (xs ≡ []) × IsPurgeReply l.spot said)
refused_far stream why c said None mid xs is falls e says right = tt
refused_far stream why c said (Some l) mid xs is falls e says right = λ are.
    let no : xs ≡ [] = falls.none are in
    let same : mid ≡ Some l = e ∙ ap (longer (Some l)) no ∙ longer_none (Some l) in
    let here : refused_at l.spot c ≡ Some why = subst (λ x. IfSome x (λ (y : Log). refused_at y.spot c ≡ Some why)) same right in (
      no,
      subst (IsPurgeReply l.spot) (sym says)
          (purge_refused l.spot (source_of l.spot.modes) why refl (subst (λ x. refused_at l.spot x ≡ Some why) is here)),
    )

pub ends_refused : (o p : OwnCall) (os : List OwnCall) (a b c : Mine) → Goes os a b → RefusedWhole o b c
    → o.call ≡ call.Command command.Purge → o.call ≡ p.call → o.saw ≡ p.saw → PurgeEnds p a c
ends_refused o p os a b c g s is same saw =
    let w = s.answers in
    record {
      own = g.own ++ answer_placed w.spot w.answer ∷ [];
      marks = g.marks;
      answer = w.answer;
      is = w.is ∙ ap (λ (m : Mine). with_more m (answer_placed w.spot w.answer ∷ []) []) g.is
          ∙ entries_twice a g.own (answer_placed w.spot w.answer ∷ []) g.marks (entry.Answer w.answer ∷ []) os [];
      same = has_both g.own (answer_placed w.spot w.answer ∷ []) g.marks (entry.Answer w.answer ∷ []) g.same refl;
      are = g.falls.come;
      call = w.call ∙ same;
      by = w.by ∙ ap (λ (m : Mine). m.stream) g.is;
      saw = w.saw ∙ saw;
      right = refused_far a.stream s.why o.call w.answer.reply a.log b.log g.marks is g.falls
          (ap (λ (m : Mine). m.log) g.is) w.reply s.right;
    }

-- ---- the whole purge

no_refusal : (spot : Spot) (source : Option ℕ) → source_of spot.modes ≡ source → HasNoSource spot.modes
    → want_of_replica true (source_of spot.modes) ≡ Some NoReplica
no_refusal spot None is none = ap (want_of_replica true) is
no_refusal spot (Some s) is none = absurd (none s (source_is spot.modes s is).read)

module _ (spot : Spot) (stream place : ℕ) (marks : List Entry) (a : Answer) (far : PurgesFar spot marks)
    (is : a.call ≡ call.Command command.Purge) (by : a.stream ≡ stream) (saw : a.saw ≡ place) where
  abbrev c : Call
  c = call.Command command.Purge

  same_modes : (behind_entries spot marks).modes ≡ spot.modes
  same_modes = keep_modes spot marks far.parts far.are

  -- nothing is left
  when_done : a.reply ≡ reply.Done → IsPurgeReply (behind_entries spot marks) reply.Done
      → marks ++ entry.Answer a ∷ [] ≡ entries_at spot stream place a.index c
  when_done says h =
      let none : refused_at spot c ≡ None = with_source spot c (subst HasSource same_modes h.1) in
      let all : far.parts ≡ parts_of spot.state.volume.snapshots =
      sym (append-nil far.parts) ∙ ap (λ ps. far.parts ++ ps) (sym (parts-none (behind_entries spot marks).state.volume.snapshots h.0))
      ∙ sym far.left in
      command_at spot stream place c marks a (ap (λ w. marks_unless w spot c) none ∙ ap marks_of (sym all) ∙ sym far.are) is
      (says ∙ sym (ap (λ w. reply_for w spot c) none)) saw by

  -- there is no replica
  when_refused : (why : Refusal) → a.reply ≡ reply.Refused why
      → IsPurgeReply (behind_entries spot marks) (reply.Refused why)
      → marks ++ entry.Answer a ∷ [] ≡ entries_at spot stream place a.index c
  when_refused why says h =
      let without : HasNoSource spot.modes = subst HasNoSource same_modes h.1 in
      let some : refused_at spot c ≡ Some NoReplica = no_refusal spot (source_of spot.modes) refl without in
      let no : marks ≡ [] = far.are ∙ ap marks_of (far.none without) in
      command_at spot stream place c marks a (ap (λ w. marks_unless w spot c) some ∙ sym no) is
      (says ∙ ap reply.Refused h.0 ∙ sym (ap (λ w. reply_for w spot c) some)) saw by

  purge_at : (r : Reply) → a.reply ≡ r → IsPurgeReply (behind_entries spot marks) r
      → marks ++ entry.Answer a ∷ [] ≡ entries_at spot stream place a.index c
  purge_at reply.Done says h = when_done says h
  purge_at (reply.Refused why) says h = when_refused why says h
  purge_at (reply.Read bytes) says h = absurd h
  purge_at (reply.Status layers modes) says h = absurd h
  purge_at (reply.Aborted place2) says h = absurd h

purge_turn : (stream : ℕ) (log mid : Option Log) (xs ys : List Entry) (a : Answer) → mid ≡ longer log xs
    → IfSome log (λ l. AreMarks xs → PurgesFar l.spot xs)
    → IfSome mid (λ l. AreMarks ys → (ys ≡ []) × IsPurgeReply l.spot a.reply)
    → a.call ≡ call.Command command.Purge → a.stream ≡ stream → IfSome log (λ l. a.saw ≡ length_of l)
    → IfSome log (λ l. AreMarks (xs ++ ys) → IsCommandAt stream command.Purge ((xs ++ ys) ++ entry.Answer a ∷ []) a l)
purge_turn stream None mid xs ys a e f g is by saw = tt
purge_turn stream (Some l) mid xs ys a e f g is by saw = λ are.
    let end = (subst (λ x. IfSome x (λ (y : Log). AreMarks ys → (ys ≡ []) × IsPurgeReply y.spot a.reply)) e g) (are_second xs ys are) in
    let same : xs ++ ys ≡ xs = ap (λ zs. xs ++ zs) end.0 ∙ append-nil xs in
    ap (λ zs. zs ++ entry.Answer a ∷ []) same ∙ purge_at l.spot stream (length_of l) xs a (f (are_first xs ys are)) is by
    saw a.reply refl end.1

-- its marks and its answer, behind the journal where it was taken up
pub grew_purge : (o : OwnCall) (os : List OwnCall) (a b c : Mine) → PurgesOn os a b → PurgeEnds o b c
    → o.call ≡ call.Command command.Purge → IfSome (log_length a) (λ place. o.saw ≡ place) → GrewByCommand command.Purge a c
grew_purge o os a b c f g is saw =
    let stream : g.answer.stream ≡ a.stream = g.by ∙ ap (λ (m : Mine). m.stream) f.is in
    let seen : IfSome a.log (λ l. g.answer.saw ≡ length_of l) = known a.log o.saw g.answer.saw g.saw saw in
    record {
      own = f.own ++ g.own;
      all = f.marks ++ (g.marks ++ entry.Answer g.answer ∷ []);
      is = g.is ∙ ap (λ (m : Mine). with_entries m g.own (g.marks ++ entry.Answer g.answer ∷ []) []) f.is
          ∙ entries_twice a f.own g.own f.marks (g.marks ++ entry.Answer g.answer ∷ []) os [];
      same = has_both f.own g.own f.marks (g.marks ++ entry.Answer g.answer ∷ []) f.same g.same;
      done = record {
        marks = f.marks ++ g.marks;
        answer = g.answer;
        is = sym (append_assoc f.marks g.marks (entry.Answer g.answer ∷ []));
        are = All-append (MayComeBefore a.stream) f.marks g.marks f.are
            (subst (λ n. All (MayComeBefore n) g.marks) (ap (λ (m : Mine). m.stream) f.is) g.are);
        call = g.call ∙ is;
        by = stream;
        saw = seen;
        turn = turned (purge_turn a.stream a.log b.log f.marks g.marks g.answer (ap (λ (m : Mine). m.log) f.is) f.far
            g.right (g.call ∙ is) stream seen);
      };
    }
  where
    turned : IfSome a.log (λ l. AreMarks (f.marks ++ g.marks)
        → IsCommandAt a.stream command.Purge ((f.marks ++ g.marks) ++ entry.Answer g.answer ∷ []) g.answer l)
        → IfSome a.log (λ l. AreMarks (f.marks ++ g.marks)
        → IsCommandAt a.stream command.Purge (f.marks ++ (g.marks ++ entry.Answer g.answer ∷ [])) g.answer l)
    turned h = subst (λ es. IfSome a.log (λ (l : Log). AreMarks (f.marks ++ g.marks)
        → IsCommandAt a.stream command.Purge es g.answer l)) (append_assoc f.marks g.marks (entry.Answer g.answer ∷ [])) h

-- memory ran out
pub gave_up : (os : List OwnCall) (a b c : Mine) → PurgesOn os a b → c ≡ with_running b [] → GaveUp a c
gave_up os a b c f e = record {
  own = f.own;
  marks = f.marks;
  is = e ∙ ap (λ (m : Mine). with_running m []) f.is;
  same = f.same;
  are = f.are;
}

pub gave_none : (a b : Mine) → a.running ≡ [] → b ≡ a → GaveUp a b
gave_none a b idle e = record {
  own = [];
  marks = [];
  is = e ∙ ap (with_running a) idle ∙ sym (entries_none a []);
  same =
      refl;
  are = λ k d l. absurd (omega (arith, l));
}

pub left_none : {E : Type 0} (res : Result (Unit {0}) E) (a b : Mine) → a.running ≡ [] → OnErr res (b ≡ a) → OnErr res (GaveUp a b)
left_none (Ok u) a b idle err = tt
left_none (Err x) a b idle err = gave_none a b idle err
