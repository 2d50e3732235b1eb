-- An answered frame: the volume answers it as a disk does, and the control stream stands where it stood.
use Rattle.std.proofs.Common.{◌≡◌, ℕ, suc, ◌+◌, ◌*◌, ◌<◌, ◌≤◌, leb, ltb, cond, Bool, true, false, List, [], ◌∷◌, ◌++◌, length, pos, negsuc}
use Rattle.std.proofs.Common.{refl, ap, subst, ◌∙◌, arith, inl, mul-le-mul_right}
use Rattle.std.specs.Prelude.{Option, None, Some}
use Rattle.std.proofs.lemmas.Bool.{le-leb, le-ltb}
use Rattle.std.proofs.lemmas.List.{same_from_push}
use Rattle.vol_units.proofs.BytesLemmas.{length-with_bytes_at}
use Rattle.volume_model.specs.declared.command.Command.TheVariants as command
use Rattle.volume_model.specs.declared.call.Call.{Call}
use Rattle.volume_model.specs.declared.call.Call.TheVariants as call
use Rattle.volume_model.specs.declared.call.Reply.{Reply}
use Rattle.volume_model.specs.declared.call.Refusal.TheVariants.{TooLong, OutOfRange}
use Rattle.volume_model.specs.declared.entry.Answer.{Answer}
use Rattle.volume_model.specs.declared.entry.Entry.{Entry}
use Rattle.volume_model.specs.declared.entry.Entry.TheVariants as entry
use Rattle.volume_model.specs.declared.mark.Mark.{Mark}
use Rattle.volume_model.specs.PlainState.{Copy, PlainState}
use Rattle.volume_model.specs.PlainStep.{longest_call, after_call, refusal_of, step_unless}
use Rattle.volume_model.specs.Modes.{modes_after, asks_store, HasSource}
use Rattle.volume_model.specs.Replay.{is_refusal, after_entry, replay}
use Rattle.volume_model.specs.Rebuilds.{added_by, rebuild_after_add}
use Rattle.volume_model.specs.History.{IsAnswered, IsEnded, MayStand}
use Rattle.volume_model.proofs.StepLemmas.{replay-push, answered_plainly}
use Rattle.volume_model.proofs.PushLemmas.{modes_after-push}
use Rattle.volume_model.proofs.RebuildLemmas.{rebuild_of-push}
use Rattle.load_laws.specs.Load.{slice_size, slice_at, fresh, LieIn, IsFrameIn}
use Rattle.load_laws.specs.Result.{reply_on, disk_after}
use Rattle.load_laws.proofs.Phases.{Phase, Begins, Taken, Falls, Fallen, Opened, Promoted, Rebuilt, Removed, Folded, Ends}
use Rattle.load_laws.proofs.Phases.{state_in, modes_in, rebuild_at, IsCalm, Is, AreOwed, Stands, GoesOn}
use Rattle.load_laws.proofs.Calls.{frame_left, left_frame}

-- ---- what a frame is not, and what it leaves

-- it is no add, and no backup
pub frame_adds : (slice : ℕ) (c : Call) → IsFrameIn slice c → added_by c ≡ None
frame_adds slice (call.Read offset count) frame = refl
frame_adds slice (call.Write offset bytes) frame = refl
frame_adds slice call.Ping frame = absurd frame
frame_adds slice (call.Other kind) frame = absurd frame
frame_adds slice (call.Command c) frame = absurd frame

frame_asks : (slice : ℕ) (c : Call) → IsFrameIn slice c → asks_store c ≡ false
frame_asks slice (call.Read offset count) frame = refl
frame_asks slice (call.Write offset bytes) frame = refl
frame_asks slice call.Ping frame = absurd frame
frame_asks slice (call.Other kind) frame = absurd frame
frame_asks slice (call.Command c) frame = absurd frame

-- its reply is no refusal
frame_done : (disk : List ℕ) (c : Call) → is_refusal (reply_on disk c) ≡ false
frame_done disk (call.Read offset count) = refl
frame_done disk (call.Write offset bytes) = refl
frame_done disk call.Ping = refl
frame_done disk (call.Other kind) = refl
frame_done disk (call.Command c) = refl

-- a range of a slice lies within so many slices
pub within_slices : (slice slices at count : ℕ) → slice < slices → LieIn slice at count → at + count ≤ slice_at slices
within_slices slice slices at count low lie =
    let more : suc slice * slice_size ≤ slices * slice_size = mul-le-mul_right slice_size low in
    omega (arith, lie.to, more)

-- a frame leaves the size of the disk
pub size_behind : (slice slices : ℕ) (disk : List ℕ) (c : Call) → slice < slices → IsFrameIn slice c → length disk ≡ slice_at slices
    → length (disk_after disk c) ≡ slice_at slices
size_behind slice slices disk (call.Read offset count) low frame size = size
size_behind slice slices disk (call.Write (pos at) bytes) low frame size =
    let within : at + length bytes ≤ slice_at slices = within_slices slice slices at (length bytes) low frame in
    length-with_bytes_at disk at bytes (omega (arith, within, size)) ∙ size
size_behind slice slices disk (call.Write (negsuc at) bytes) low frame size = absurd frame
size_behind slice slices disk call.Ping low frame size = size
size_behind slice slices disk (call.Other kind) low frame size = size
size_behind slice slices disk (call.Command c) low frame size = size

-- nothing stands against a frame
unrefused : (long fits : Bool) → long ≡ false → fits ≡ true → cond long (Some TooLong) (cond fits None (Some OutOfRange)) ≡ None
unrefused true fits e f = absurd cc
unrefused false true e f = refl
unrefused false false e f = absurd cc

in_range : (fits : Bool) → fits ≡ true → cond fits None (Some OutOfRange) ≡ None
in_range true e = refl
in_range false e = absurd cc

-- as it lies within the disk
frame_unrefused : (slice slices : ℕ) (p : Phase) (disk : List ℕ) (copies : List Copy) (c : Call) → slice < slices → IsFrameIn slice c
    → length disk ≡ slice_at slices → refusal_of (modes_in p) (state_in p disk copies) c ≡ None
frame_unrefused slice slices p disk copies (call.Read (pos at) count) low frame size =
    let within : at + count ≤ slice_at slices = within_slices slice slices at count low frame.0 in
    unrefused (ltb longest_call count) (leb (at + count) (length disk)) (le-ltb longest_call count frame.1)
    (le-leb (at + count) (length disk) (omega (arith, within, size)))
frame_unrefused slice slices p disk copies (call.Read (negsuc at) count) low frame size = absurd frame
frame_unrefused slice slices p disk copies (call.Write (pos at) bytes) low frame size =
    let within : at + length bytes ≤ slice_at slices = within_slices slice slices at (length bytes) low frame in
    in_range (leb (at + length bytes) (length disk)) (le-leb (at + length bytes) (length disk) (omega (arith, within, size)))
frame_unrefused slice slices p disk copies (call.Write (negsuc at) bytes) low frame size = absurd frame
frame_unrefused slice slices p disk copies call.Ping low frame size = absurd frame
frame_unrefused slice slices p disk copies (call.Other kind) low frame size = absurd frame
frame_unrefused slice slices p disk copies (call.Command c) low frame size = absurd frame

-- it is answered as on a disk that nobody else writes
frame_reply : (slice : ℕ) (p : Phase) (disk : List ℕ) (copies : List Copy) (c : Call) → IsFrameIn slice c
    → (step_unless None (modes_in p) (state_in p disk copies) c).1 ≡ reply_on disk c
frame_reply slice p disk copies (call.Read offset count) frame = refl
frame_reply slice p disk copies (call.Write offset bytes) frame = refl
frame_reply slice p disk copies call.Ping frame = absurd frame
frame_reply slice p disk copies (call.Other kind) frame = absurd frame
frame_reply slice p disk copies (call.Command c) frame = absurd frame

-- and leaves that disk
frame_leaves : (slice : ℕ) (p : Phase) (disk : List ℕ) (copies : List Copy) (c : Call) → IsFrameIn slice c
    → after_call (state_in p disk copies) c ≡ state_in p (disk_after disk c) copies
frame_leaves slice p disk copies (call.Read offset count) frame = refl
frame_leaves slice p disk copies (call.Write offset bytes) frame = refl
frame_leaves slice p disk copies call.Ping frame = absurd frame
frame_leaves slice p disk copies (call.Other kind) frame = absurd frame
frame_leaves slice p disk copies (call.Command c) frame = absurd frame

-- ---- an answer that leaves how far the control stream is, and one that does not

-- replica 0 is read and written throughout
pub source_in : (p : Phase) → HasSource (modes_in p)
source_in p = (0, omega arith, refl)

-- behind an answer nothing has just fallen
not_mark : (a : Answer) (m : Mark) → entry.Answer a ≡ entry.Mark m → ⊥
not_mark a m e = cc

calm_answer : (p : Phase) (before : List Entry) (a : Answer) → IsCalm p (before ++ entry.Answer a ∷ [])
calm_answer p before a = λ m r ends falls.
    absurd (not_mark a m (same_from_push before ends.0 (entry.Answer a) (entry.Mark m) ends.1).1)

-- the state behind an answer that is no refusal
done_leaves : (r : Reply) (state after : PlainState) → is_refusal r ≡ false → cond (is_refusal r) state after ≡ after
done_leaves r state after done = ap (λ b. cond b state after) done

-- how far it is behind the answer
pub is_behind : (blank : List ℕ) (p q : Phase) (disk disk' : List ℕ) (before : List Entry) (a : Answer) (at : Is blank p disk before)
    (copies : List Copy) → is_refusal a.reply ≡ false → after_call (state_in p disk at.copies) a.call ≡ state_in q disk' copies
    → modes_in p ≡ modes_in q → ((r : ℕ) → rebuild_after_add r (rebuild_at p r) (added_by a.call) ≡ rebuild_at q r)
    → Is blank q disk' (before ++ entry.Answer a ∷ [])
is_behind blank p q disk disk' before a at copies done leaves same rebuilds = record {
  copies = copies;
  state = replay-push (fresh blank).state before (entry.Answer a) ∙ ap (λ s. after_entry s (entry.Answer a)) at.state
      ∙ done_leaves a.reply (state_in p disk at.copies) (after_call (state_in p disk at.copies) a.call) done ∙ leaves;
  modes = modes_after-push (fresh blank).modes before (entry.Answer a) ∙ at.modes ∙ same;
  rebuilds = λ r. rebuild_of-push r before (entry.Answer a)
      ∙ ap (λ b. rebuild_after_add r b (added_by a.call)) (at.rebuilds r) ∙ rebuilds r;
  calm = calm_answer q before a;
}

-- what is asked of an answer, where the control stream is so far
pub asked_in : (blank : List ℕ) (p : Phase) (disk : List ℕ) (before : List Entry) (x : Option ℕ) (a : Answer) (at : Is blank p disk before)
    → IsEnded x before (replay (fresh blank).state before) (modes_after (fresh blank).modes before) a
    → IsEnded x before (state_in p disk at.copies) (modes_in p) a
asked_in blank p disk before x a at ended =
    subst (λ ms. IsEnded x before (state_in p disk at.copies) ms a) at.modes
    (subst (λ s. IsEnded x before s (modes_after (fresh blank).modes before) a) at.state ended)

-- ---- the frame

-- a frame is no call that is none
not_owed : (slice : ℕ) (c : Call) (d : Call) → IsFrameIn slice c → (IsFrameIn slice d → ⊥) → c ≡ d → ⊥
not_owed slice c d frame other same = other (subst (IsFrameIn slice) same frame)

-- where the next answer has to be another a frame does not come
owed_frame : (slice : ℕ) (p : Phase) (a : Answer) (es : List Entry) → IsFrameIn slice a.call → AreOwed p (entry.Answer a ∷ es)
    → AreOwed p es
owed_frame slice Begins a es frame owed = tt
owed_frame slice Taken a es frame owed = tt
owed_frame slice Falls a es frame owed = absurd (not_owed slice a.call (call.Command (command.Fail 1)) frame (λ x. x) owed)
owed_frame slice Fallen a es frame owed = tt
owed_frame slice Opened a es frame owed = tt
owed_frame slice Promoted a es frame owed = absurd (not_owed slice a.call (call.Command (command.Add 1)) frame (λ x. x) owed)
owed_frame slice Rebuilt a es frame owed = tt
owed_frame slice Removed a es frame owed = tt
owed_frame slice Folded a es frame owed = tt
owed_frame slice Ends a es frame owed = tt

-- it is answered so
frame_answered : (slice slices : ℕ) (p : Phase) (disk : List ℕ) (copies : List Copy) (a : Answer) → slice < slices
    → IsFrameIn slice a.call → length disk ≡ slice_at slices → IsAnswered (state_in p disk copies) (modes_in p) a
    → a.reply ≡ reply_on disk a.call
frame_answered slice slices p disk copies a low frame size answered =
    answered_plainly (state_in p disk copies) (modes_in p) a (source_in p) (frame_asks slice a.call frame) answered
    ∙ ap (λ why. (step_unless why (modes_in p) (state_in p disk copies) a.call).1)
    (frame_unrefused slice slices p disk copies a.call low frame size)
    ∙ frame_reply slice p disk copies a.call frame

-- the control stream stands where it stood, and the disk is the one that the frame leaves
pub goes_by_frame : (slices : ℕ) (blank : List ℕ) (p : Phase) (disk : List ℕ) (before es : List Entry) (a : Answer)
    → Stands slices blank p disk before (entry.Answer a ∷ es) → MayStand (fresh blank) before (entry.Answer a) es → a.stream < slices
    → GoesOn slices blank p disk before (entry.Answer a) es
goes_by_frame slices blank p disk before es a at may low =
    let frame = frame_left slices p a es at.left low in
    let none = frame_adds a.stream a.call frame in
    let ended = asked_in blank p disk before (added_by a.call) a at.is may in
    let said = frame_answered a.stream slices p disk at.is.copies a low frame at.size
    (subst (λ x. IsEnded x before (state_in p disk at.is.copies) (modes_in p) a) none ended) in
    inl (
      (low, frame, said),
      record {
        is = is_behind blank p p disk (disk_after disk a.call) before a at.is at.is.copies
            (ap is_refusal said ∙ frame_done disk a.call) (frame_leaves a.stream p disk at.is.copies a.call frame) refl
            (λ r. ap (rebuild_after_add r (rebuild_at p r)) none);
        size = size_behind a.stream slices disk a.call low frame at.size;
        left = left_frame slices p a es at.left low;
        owed = owed_frame a.stream p a es frame at.owed;
      },
    )
