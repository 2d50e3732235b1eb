-- What a frame's call is, and what it may be answered.
use Rattle.std.proofs.Common.{◌≡◌, ◌==◌, ◌∙◌, ℕ, ◌≤◌, Bool, true, false, cond, List, length, Option, Result, Ok, Err, IfOk, OnErr}
use Rattle.std.proofs.Common.{refl, sym, ap, subst, inl, inr}
use Rattle.std.specs.Io.KnownBytes.{Appends}
use Rattle.std.proofs.KnownBytes.{Appends-nil}
use Rattle.volume_model.specs.declared.call.Call.{Call}
use Rattle.volume_model.specs.declared.call.Call.TheVariants as call
use Rattle.volume_model.specs.declared.call.Reply.{Reply}
use Rattle.volume_model.specs.declared.call.Reply.TheVariants as reply
use Rattle.volume_model.specs.Modes.{modes_after}
use Rattle.volume_model.specs.PlainStep.{longest_call}
use Rattle.volume_model.specs.Replay.{replay}
use Rattle.volume_core.specs.State.{State, opening_of}
use Rattle.frame_stream.specs.Asked.{call_of, read_kind, write_kind, ping_kind}
use Rattle.frame_stream.specs.Frames.{IsCall}
use Rattle.frame_stream.specs.Replies.{reply_frame}
use Rattle.frame_stream.specs.declared.frame.Frame.{Frame}
use Rattle.stream_steps.specs.Steps.{IsFrameCall}
use Rattle.client_worker.specs.Asks.{IsShort}
use Rattle.client_input.specs.Replies.{IsToFrame}
use Rattle.world_holder.specs.Lent.{IsSince}
use Rattle.session_serve.specs.Replies.{HasRoomFor, HasPlaceFor}
use Rattle.session_serve.specs.Sessions.{IsReplied, own_of}
use Rattle.session_serve.proofs.Place.{reply_place}
use Rattle.session_workers.specs.declared.answer.Written.{Written}
use Rattle.session_workers.specs.declared.answer.Written.TheVariants as written
use Rattle.session_workers.specs.Talking.{MakesCall, WritesReply}
use Rattle.session_workers.proofs.Answers.{none_made, one_made}

-- ---- a frame's call

frame_by : (f : Frame) (reads writes pings : Bool) → IsFrameCall (cond reads (call.Read f.head.offset f.head.size)
    (cond writes (call.Write f.head.offset f.body) (cond pings call.Ping (call.Other f.head.kind))))
frame_by f true writes pings = tt
frame_by f false true pings = tt
frame_by f false false true = tt
frame_by f false false false = tt

-- no command
pub is_frame_call : (f : Frame) → IsFrameCall (call_of f)
is_frame_call f = frame_by f (f.head.kind == read_kind) (f.head.kind == write_kind) (f.head.kind == ping_kind)

short_by : (f : Frame) (reads writes pings : Bool) → length f.body ≤ longest_call
    → IsShort (cond reads (call.Read f.head.offset f.head.size)
    (cond writes (call.Write f.head.offset f.body) (cond pings call.Ping (call.Other f.head.kind))))
short_by f true writes pings short = tt
short_by f false true pings short = short
short_by f false false true short = tt
short_by f false false false short = tt

-- and short enough
pub is_short : (f : Frame) → IsCall f → IsShort (call_of f)
is_short f is = short_by f (f.head.kind == read_kind) (f.head.kind == write_kind) (f.head.kind == ping_kind)
    (subst (λ n. n ≤ longest_call) (sym is.0.body) is.0.most)

-- ---- its reply

any_room : (c : Call) → HasRoomFor c longest_call
any_room (call.Read offset n) = λ short. short
any_room (call.Write offset bytes) = tt
any_room call.Ping = tt
any_room (call.Other kind) = tt
any_room (call.Command c) = tt

to_frame : (r : Reply) → HasPlaceFor longest_call r → IsToFrame r
to_frame reply.Done is = tt
to_frame (reply.Read bytes) is = is
to_frame (reply.Status layers modes) is = is
to_frame (reply.Refused why) is = tt
to_frame (reply.Aborted place) is = is

pub replies_to_frame : (n : ℕ) (c : Call) (r : Reply) (s t : State) → IsFrameCall c → IsReplied n c r s t → IsToFrame r
replies_to_frame n c r s t frame is =
    let asks = subst IsFrameCall (sym is.call) frame in
    to_frame r (subst (HasPlaceFor longest_call) is.reply
    (reply_place (modes_after (opening_of t).modes is.before) (replay (opening_of t).state is.before) is.answer longest_call
    is.answered asks (any_room is.answer.call)))

-- ---- what was made

-- what holds where a result is ok, of one that is
pub of_ok : {T E : Type 0} (r : Result T E) (x : T) (P : T → Type 0) → r ≡ Ok x → IfOk r P → P x
of_ok r x P is h = subst (λ (q : Result _ _). IfOk q P) is h

pub of_err : {T E : Type 0} (r : Result T E) (e : E) (P : Type 0) → r ≡ Err e → OnErr r P → P
of_err r e P is h = subst (λ (q : Result _ _). OnErr q P) is h

module _ (n : ℕ) (f : Frame) (r : Reply) (s t : State) (out0 out1 : Option (List ℕ)) (k l : ℕ)
    (is : IsReplied n (call_of f) r s t) where
  abbrev bytes : List ℕ
  bytes = reply_frame f.head is.answer.call is.answer.reply

  same : reply_frame f.head (call_of f) r ≡ bytes
  same = ap (λ (c : Call). reply_frame f.head c r) (sym is.call)
      ∙ ap (λ (x : Reply). reply_frame f.head is.answer.call x) (sym is.reply)

  -- a call with its reply, written so
  pub answers_call : {E : Type 0} (w : Result Written E) → WritesReply (reply_frame f.head (call_of f) r) out0 out1 k l w
      → MakesCall n f s.book.entries t.book.entries out0 out1 k l w
  answers_call (Ok written.Whole) wrote =
      (is.answer, one_made n f r s t is, (subst (λ b. Appends out0 out1 b) same wrote.0, wrote.1))
  answers_call {E = E} (Ok written.Cut) wrote =
      (is.answer, one_made n f r s t is, subst (λ b. WritesReply {E = E} b out0 out1 k l (Ok written.Cut)) same wrote)
  answers_call {E = E} (Err e) wrote =
      inr (is.answer, one_made n f r s t is, subst (λ b. WritesReply {E = E} b out0 out1 k l (Err e)) same wrote)

-- a call that was not made
pub asks_nothing : {E : Type 0} (n : ℕ) (f : Frame) (s t : State) (out : Option (List ℕ)) (k : ℕ) (e : E) → IsSince s t
    → own_of n t ≡ own_of n s → MakesCall n f s.book.entries t.book.entries out out k k (Err e)
asks_nothing n f s t out k e since same = inl (record {
  answers = none_made n s t since same;
  none = Appends-nil out;
  count = refl;
})
