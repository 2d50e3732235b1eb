-- Where the calls of a session end.
use Rattle.std.proofs.Common.{◌≡◌, ◌≢◌, ◌∙◌, ℕ, ◌≤◌, ◌+◌, List, [], ◌∷◌, ◌++◌, length, map, Option, Result, Ok, Err, IfSome}
use Rattle.std.proofs.Common.{refl, sym, ap, subst, arith, inl, inr, append_assoc, append-nil, length-append}
use Rattle.std.proofs.KnownBytes.{Appends-nil, Appends-trans}
use Rattle.std.proofs.lemmas.List.Elements.{All-head, All-tail}
use Rattle.std.specs.List.{All}
use Rattle.std.specs.Io.KnownBytes.{Appends}
use Rattle.outer_traits.specs.Causes.{one_more}
use Rattle.outer_traits.specs.Passing.{WritesPrefix}
use Rattle.door_traits.specs.Sessions.{Told}
use Rattle.volume_model.specs.declared.entry.Answer.{Answer}
use Rattle.volume_model.specs.declared.entry.Entry.{Entry}
use Rattle.volume_model.specs.History.{answers_of, calls_of}
use Rattle.volume_model.specs.PlainStep.{longest_call}
use Rattle.frame_stream.specs.Asked.{call_of}
use Rattle.frame_stream.specs.Frames.{spellings, HasNoFrame, IsCall}
use Rattle.frame_stream.specs.Reading.{Fed}
use Rattle.frame_stream.specs.Replies.{reply_frame}
use Rattle.frame_stream.specs.declared.frame.Frame.{Frame}
use Rattle.client_input.specs.Giving.{HasGiven}
use Rattle.frame_stream.proofs.ReadingLaws.{bad_stays}
use Rattle.client_input.proofs.FirstFrame.{bad_goes_on, bad_no_frame, given_begins, given_close, short_no_frame}
use Rattle.client_input.proofs.GivenCalls.{nothing_given}
use Rattle.client_input.proofs.InputEnds.{input_of, behind, begins, at_end}
use Rattle.run_report.specs.declared.session_line.SessionEnd.{SessionEnd}
use Rattle.run_report.specs.declared.session_line.SessionEnd.TheVariants as end
use Rattle.volume_core.specs.State.{State}
use Rattle.world_holder.specs.Lent.{IsSince}
use Rattle.session_workers.specs.Clients.{most_session_calls, HasCalled, SessionEnds, HasStopped, CallsNoMore, CountsSo}
use Rattle.session_workers.specs.Clients.{TakesReplies, replies_in}
use Rattle.session_workers.specs.declared.answer.Written.{Written}
use Rattle.session_workers.specs.declared.coming.Coming.TheVariants as coming
use Rattle.session_workers.specs.Talking.{MakesCall, ComingCount, EndsThere, GetsReply, HasOneMore, HasReplied}
use Rattle.session_workers.proofs.Replies.{asked_more, asked_stay, replies_more, replies_stay}

-- ---- so far

-- no call was made
pub none_replied : (n : ℕ) (left out : Option (List ℕ)) (fed : Fed) (j : List Entry)
    → fed ≡ record { left = []; place = 0; most = longest_call } → answers_of n j ≡ [] → HasReplied n left left out out fed j []
none_replied n left out fed j new none = record {
  given = nothing_given left fed new;
  asked = ap (map (λ (p : ℕ × Answer). p.1.call)) none;
  few = omega arith;
  replies = Appends-nil out;
}

-- one call more was made, and replied to
pub one_replied : (n : ℕ) (left0 left1 left2 out0 out1 out2 : Option (List ℕ)) (fed new : Fed) (i j : List Entry) (fs : List Frame)
    (f : Frame) (a : Answer) → HasReplied n left0 left1 out0 out1 fed i fs → HasGiven left0 left2 new (fs ++ f ∷ [])
    → length fs ≢ most_session_calls → HasOneMore n f i j a → Appends out1 out2 (reply_frame f.head a.call a.reply)
    → HasReplied n left0 left2 out0 out2 new j (fs ++ f ∷ [])
one_replied n left0 left1 left2 out0 out1 out2 fed new i j fs f a so given more one reply = record {
  given = given;
  asked = asked_more n i j fs f a so.asked one;
  few = omega (arith, length-append fs (f ∷ []), so.few, more);
  replies = subst (Appends out0 out2) (sym (replies_more n i j fs f a so.asked one))
      (Appends-trans out0 out1 out2 (replies_in n fs i) (reply_frame f.head a.call a.reply) so.replies reply);
}

-- ---- replies

-- a prefix of more, behind all that went before
prefix_behind : (a b c : Option (List ℕ)) (xs ys : List ℕ) → Appends a b xs → WritesPrefix b c ys → WritesPrefix a c (xs ++ ys)
prefix_behind a b c xs ys all (front, rest, is, part) =
    (xs ++ front, rest, ap (λ l. xs ++ l) is ∙ sym (append_assoc xs front rest), Appends-trans a b c xs front all part)

-- all is a prefix
all_prefix : (a b : Option (List ℕ)) (xs : List ℕ) → Appends a b xs → WritesPrefix a b xs
all_prefix a b xs all = (xs, [], sym (append-nil xs), all)

-- ---- which input

told_as : (o : Option (List ℕ)) (x y : List ℕ) → x ≡ y → IfSome o (λ told. told ≡ x) → IfSome o (λ told. told ≡ y)
told_as o x y e is = subst (λ z. IfSome o (λ told. told ≡ z)) e is

module _ (n : ℕ) (before : Told) (left : Option (List ℕ)) (fed : Fed) (j : List Entry) (fs : List Frame)
    (h : HasGiven before.left left fed fs) (asked : calls_of n j ≡ map call_of fs) (few : length fs ≤ most_session_calls) where
  pub called : HasCalled n before j fs (behind before.left left fed fs h)
  called =
      let input = input_of before.left left fed fs h in
      record {
        input = told_as before.left input.input (spellings fs ++ behind before.left left fed fs h)
            (begins before.left left fed fs h).text input.had;
        calls = h.calls;
        asked = asked;
        few = few;
      }

-- ---- why no more is called

stops : (e : SessionEnd) (calls : ℕ) (left now : Option (List ℕ)) (fed : Fed) (fs : List Frame) (h : HasGiven left now fed fs)
    → calls ≡ length fs → EndsThere e calls fed now → CallsNoMore e fs (behind left now fed fs h) now
stops end.Closed calls left now fed fs h many (new, f, given, close) =
    given_close fed new f (input_of left now fed fs h).rest h.most given close
stops end.Ended calls left now fed fs h many (none, over) = at_end left now fed fs h over ∙ none
stops (end.Frame place) calls left now fed fs h many (inl (new, bad)) =
    let rest = (input_of left now fed fs h).rest in
    (bad_no_frame fed new place rest h.most bad, bad_goes_on fed new place rest bad, (bad_stays fed new place bad).1 ∙ h.place)
stops (end.Frame place) calls left now fed fs h many (inr (is, some, (new, short), over)) =
    let none = at_end left now fed fs h over in
    (subst HasNoFrame (sym none) (short_no_frame fed new h.most short), λ e. some (sym none ∙ e), is ∙ h.place)
stops end.Full calls left now fed fs h many (full, (new, f, given, no_close)) =
    let rest = (input_of left now fed fs h).rest in
    (sym many ∙ full, (f, new.left ++ rest, given_begins fed new f rest h.most given, no_close))
stops end.ReadFault calls left now fed fs h many (new, short) =
    let input = input_of left now fed fs h in
    (fed.left, input.rest, refl, input.has, short_no_frame fed new h.most short)
stops end.WriteFault calls left now fed fs h many is = absurd is

counts : (e : SessionEnd) (calls : ℕ) (before now : Told) (fed : Fed) → EndsThere e calls fed now.left
    → ComingCount (coming.End e) before.read_faults now.read_faults → now.write_faults ≡ before.write_faults → CountsSo e before now
counts end.Closed calls before now fed is read written = (read, written)
counts end.Ended calls before now fed is read written = (read, written)
counts (end.Frame place) calls before now fed is read written = (read, written)
counts end.Full calls before now fed is read written = (read, written)
counts end.ReadFault calls before now fed is read written = (read, written)
counts end.WriteFault calls before now fed is read written = absurd is

takes : (e : SessionEnd) (calls : ℕ) (before now : Told) (fed : Fed) (bytes : List ℕ) → EndsThere e calls fed now.left
    → Appends before.holds now.holds bytes → TakesReplies e before now bytes
takes end.Closed calls before now fed bytes is all = all
takes end.Ended calls before now fed bytes is all = all
takes (end.Frame place) calls before now fed bytes is all = all
takes end.Full calls before now fed bytes is all = all
takes end.ReadFault calls before now fed bytes is all = all
takes end.WriteFault calls before now fed bytes is all = absurd is

-- ---- the ends

-- no call comes
pub ended_there : (n : ℕ) (before now : Told) (left : Option (List ℕ)) (old fed : Fed) (j : List Entry) (fs : List Frame)
    (e : SessionEnd) (calls : ℕ) → HasReplied n before.left left before.holds now.holds old j fs
    → (h : HasGiven before.left now.left fed fs) → calls ≡ length fs → EndsThere e calls fed now.left
    → ComingCount (coming.End e) before.read_faults now.read_faults → now.write_faults ≡ before.write_faults
    → SessionEnds n before now j (record { end = e; calls = calls; seen = 0 })
ended_there n before now left old fed j fs e calls so h many is read written = record {
  frames = fs;
  rest = behind before.left now.left fed fs h;
  called = called n before now.left fed j fs h so.asked so.few;
  count = many;
  stops = stops e calls before.left now.left fed fs h many is;
  counts = counts e calls before now fed is read written;
  replies = takes e calls before now fed (replies_in n fs j) is so.replies;
}

not_empty : (fs : List Frame) (f : Frame) → fs ++ f ∷ [] ≢ []
not_empty [] f e = cc
not_empty (g ∷ gs) f e = cc

module _ (n : ℕ) (before now : Told) (left out : Option (List ℕ)) (old new : Fed) (i j : List Entry) (fs : List Frame) (f : Frame)
    (a : Answer) (so : HasReplied n before.left left before.holds out old i fs) (h : HasGiven before.left now.left new (fs ++ f ∷ []))
    (more : length fs ≢ most_session_calls) (one : HasOneMore n f i j a)
    (part : WritesPrefix out now.holds (reply_frame f.head a.call a.reply)) where
  few_more : length (fs ++ f ∷ []) ≤ most_session_calls
  few_more = omega (arith, length-append fs (f ∷ []), so.few, more)

  called_more : HasCalled n before j (fs ++ f ∷ []) (behind before.left now.left new (fs ++ f ∷ []) h)
  called_more = called n before now.left new j (fs ++ f ∷ []) h (asked_more n i j fs f a so.asked one) few_more

  part_more : WritesPrefix before.holds now.holds (replies_in n (fs ++ f ∷ []) j)
  part_more = subst (WritesPrefix before.holds now.holds) (sym (replies_more n i j fs f a so.asked one))
      (prefix_behind before.holds out now.holds (replies_in n fs i) (reply_frame f.head a.call a.reply) so.replies part)

  -- the reply to the last call met a fault of the sink
  pub ended_cut : (calls : ℕ) → calls ≡ length fs + 1 → now.read_faults ≡ before.read_faults
      → now.write_faults ≡ one_more before.write_faults
      → SessionEnds n before now j (record { end = end.WriteFault; calls = calls; seen = 0 })
  ended_cut calls many read written = record {
    frames = fs ++ f ∷ [];
    rest = behind before.left now.left new (fs ++ f ∷ []) h;
    called = called_more;
    count = omega (arith, many, length-append fs (f ∷ []));
    stops = not_empty fs f;
    counts = (read, written);
    replies = part_more;
  }

  -- or memory ran out before it was whole
  pub stopped_cut : now.read_faults ≡ before.read_faults → now.write_faults ≡ before.write_faults → HasStopped n before now j
  stopped_cut read written = record {
    frames = fs ++ f ∷ [];
    rest = behind before.left now.left new (fs ++ f ∷ []) h;
    called = called_more;
    read = read;
    written = written;
    replies = part_more;
  }

-- memory ran out before the next call was made
pub stopped_there : (n : ℕ) (before now : Told) (left out : Option (List ℕ)) (old : Fed) (i j : List Entry) (fs : List Frame)
    → HasReplied n before.left left before.holds out old i fs → answers_of n j ≡ answers_of n i → Appends out now.holds []
    → now.read_faults ≡ before.read_faults → now.write_faults ≡ before.write_faults → HasStopped n before now j
stopped_there n before now left out old i j fs so same none read written = record {
  frames = fs;
  rest = behind before.left left old fs so.given;
  called = called n before left old j fs so.given (asked_stay n i j same ∙ so.asked) so.few;
  read = read;
  written = written;
  replies = all_prefix before.holds now.holds (replies_in n fs j) (subst (Appends before.holds now.holds)
      (append-nil (replies_in n fs i) ∙ sym (replies_stay n i j fs same))
      (Appends-trans before.holds out now.holds (replies_in n fs i) [] so.replies none));
}

-- memory ran out in a call, or behind it
stopped_by : {E : Type 0} (n m : ℕ) → m ≡ n → (before now : Told) (left out : Option (List ℕ)) (old new : Fed)
    (i j : List Entry) (fs : List Frame) (f : Frame) (writes : ℕ) → HasReplied n before.left left before.holds out old i fs
    → (h : HasGiven before.left now.left new (fs ++ f ∷ [])) → length fs ≢ most_session_calls
    → (e : E) → MakesCall {E = E} m f i j out now.holds writes now.write_faults (Err e)
    → now.read_faults ≡ before.read_faults → writes ≡ before.write_faults → HasStopped n before now j
stopped_by n m same before now left out old new i j fs f writes so h more e (inl none) read written =
    stopped_there n before now left out old i j fs so (subst (λ k. answers_of k j ≡ answers_of k i) same none.answers) none.none read
    (none.count ∙ written)
stopped_by n m same before now left out old new i j fs f writes so h more e (inr (a, one, part)) read written =
    stopped_cut n before now left out old new i j fs f a so h more (subst (λ k. HasOneMore k f i j a) same one) part.0 read
    (part.1 ∙ written)

pub stopped_written : {E : Type 0} (n m : ℕ) → m ≡ n → (before now : Told) (left out : Option (List ℕ)) (old new : Fed)
    (i j : List Entry) (fs : List Frame) (f : Frame) (writes : ℕ) → HasReplied n before.left left before.holds out old i fs
    → (h : HasGiven before.left now.left new (fs ++ f ∷ [])) → length fs ≢ most_session_calls
    → (res : Result Written E) (e : E) → res ≡ Err e → MakesCall m f i j out now.holds writes now.write_faults res
    → now.read_faults ≡ before.read_faults → writes ≡ before.write_faults → HasStopped n before now j
stopped_written n m same before now left out old new i j fs f writes so h more res e is made read written =
    stopped_by n m same before now left out old new i j fs f writes so h more e
    (subst (MakesCall m f i j out now.holds writes now.write_faults) is made) read written

-- a call that was replied to
pub was_replied : {E : Type 0} (n : ℕ) (f : Frame) (i j : List Entry) (out0 out1 : Option (List ℕ)) (k l : ℕ)
    (res : Result Written E) (w x : Written) → res ≡ Ok w → w ≡ x → MakesCall n f i j out0 out1 k l res
    → GetsReply {E = Unit {0}} n f i j out0 out1 k l (Ok x)
was_replied n f i j out0 out1 k l res w x is same made =
    subst (λ y. GetsReply {E = Unit {0}} n f i j out0 out1 k l (Ok y)) same (subst (MakesCall n f i j out0 out1 k l) is made)

-- ---- what stays

-- the last of these is a call
pub last_call : (fs : List Frame) (f : Frame) → All IsCall (fs ++ f ∷ []) → IsCall f
last_call [] f all = All-head IsCall f [] all
last_call (g ∷ gs) f all = last_call gs f (All-tail IsCall g (gs ++ f ∷ []) all)

-- a World is one since itself
pub since_itself : (s : State) → IsSince s s
since_itself s = record { origin = refl; seen = ([], sym (append-nil s.book.entries)) }

-- and what is since one that is since another
pub since_since : (s t u : State) → IsSince s t → IsSince t u → IsSince s u
since_since s t u p q = record {
  origin = q.origin ∙ p.origin;
  seen = (
    p.seen.0 ++ q.seen.0,
    q.seen.1 ∙ ap (λ l. l ++ q.seen.0) p.seen.1 ∙ append_assoc s.book.entries p.seen.0 q.seen.0,
  );
}
