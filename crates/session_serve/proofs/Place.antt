-- The reply to a frame's call has place in the room that is made for it.
use Rattle.std.proofs.Common.{◌≡◌, ℕ, ℤ, ◌≤◌, ◌+◌, ◌-◌, min, Bool, true, false, cond, ltb, List, length, drop, Option, Some, None}
use Rattle.std.proofs.Common.{refl, sym, ap, ◌∙◌, subst, arith, ltb-false, length-take}
use Rattle.volume_model.specs.declared.call.Call.{Call}
use Rattle.volume_model.specs.declared.call.Call.TheVariants as call
use Rattle.volume_model.specs.declared.call.Refusal.{Refusal}
use Rattle.volume_model.specs.declared.call.Refusal.TheVariants.{TooLong}
use Rattle.volume_model.specs.declared.call.Reply.{Reply}
use Rattle.volume_model.specs.declared.call.Reply.TheVariants as reply
use Rattle.volume_model.specs.declared.entry.Answer.{Answer}
use Rattle.volume_model.specs.declared.mode.Mode.{Mode}
use Rattle.volume_model.specs.Disk.{bytes_at, place_of}
use Rattle.volume_model.specs.History.{IsAnswered, IsLegal, OfVolume, Spot, subject_of}
use Rattle.volume_model.specs.PlainState.{PlainState}
use Rattle.volume_model.specs.PlainStep.{longest_call, refusal_of, range_refusal, step_unless, plain_step}
use Rattle.stream_steps.specs.Steps.{IsFrameCall}
use Rattle.volume_model.specs.declared.entry.Entry.{Entry}
use Rattle.volume_core.specs.State.{State, opening_of}
use Rattle.stream_steps.specs.Mine.{Mine}
use Rattle.world_holder.specs.View.{own_entries, view, IsFound}
use Rattle.world_holder.proofs.Grow.{found_same}
use Rattle.session_serve.specs.Replies.{HasRoomFor, HasPlaceFor, EndsWithCall, HasPlaceForLast}
use Rattle.session_serve.proofs.Last.{has_answer, same_answer, answered_there}

-- no more bytes are read than were asked
few_bytes : (disk : List ℕ) (at n : ℕ) → length (bytes_at disk at n) ≤ n
few_bytes disk at n =
    let long : length (bytes_at disk at n) ≡ min (at + n - at) (length (drop at disk)) = length-take (at + n - at) (drop at disk) in
    omega (arith, long)

-- one that is not too long
short_read : (n : ℕ) (o : Option Refusal) (b : Bool) → ltb longest_call n ≡ b → cond b (Some TooLong) o ≡ None → n ≤ longest_call
short_read n o true is none = absurd cc
short_read n o false is none = ltb-false longest_call n is

-- ---- of the plain disk's reply

module _ (modes : List Mode) (state : PlainState) (room : ℕ) where
  write_place : (c : Call) (o : Option Refusal) → IsFrameCall c → ((offset : ℤ) (n : ℕ) → c ≡ call.Read offset n → ⊥)
      → HasPlaceFor room (step_unless o modes state c).1
  write_place c (Some why) frame other = tt
  write_place (call.Read offset n) None frame other = absurd (other offset n refl)
  write_place (call.Write offset bytes) None frame other = tt
  write_place call.Ping None frame other = tt
  write_place (call.Other kind) None frame other = tt
  write_place (call.Command c) None frame other = absurd frame

  read_place : (offset : ℤ) (n : ℕ) (o : Option Refusal) → (o ≡ None → n ≤ longest_call) → HasRoomFor (call.Read offset n) room
      → HasPlaceFor room (step_unless o modes state (call.Read offset n)).1
  read_place offset n (Some why) short has = tt
  read_place offset n None short has = omega (arith, few_bytes state.volume.disk (place_of offset) n, has (short refl))

  step_place : (c : Call) → IsFrameCall c → HasRoomFor c room → HasPlaceFor room (plain_step modes state c).1
  step_place (call.Read offset n) frame has =
      read_place offset n (refusal_of modes state (call.Read offset n))
      (short_read n (range_refusal state.volume offset n) (ltb longest_call n) refl) has
  step_place (call.Write offset bytes) frame has =
      write_place (call.Write offset bytes) (refusal_of modes state (call.Write offset bytes)) tt (λ o n e. cc)
  step_place call.Ping frame has = write_place call.Ping (refusal_of modes state call.Ping) tt (λ o n e. cc)
  step_place (call.Other kind) frame has = write_place (call.Other kind) (refusal_of modes state (call.Other kind)) tt (λ o n e. cc)
  step_place (call.Command c) frame has = absurd frame

-- ---- of an answer

pub reply_place : (modes : List Mode) (state : PlainState) (a : Answer) (room : ℕ) → IsAnswered state modes a → IsFrameCall a.call
    → HasRoomFor a.call room → HasPlaceFor room a.reply
reply_place modes state a room is frame has = by a.reply refl
  where
    plain : subject_of a.reply ≡ OfVolume → HasPlaceFor room a.reply
    plain of = subst (HasPlaceFor room) (sym (is.reply of)) (step_place modes state room a.call frame has)

    by : (r : Reply) → a.reply ≡ r → HasPlaceFor room r
    by reply.Done e = tt
    by (reply.Read bytes) e = subst (HasPlaceFor room) e (plain (ap subject_of e))
    by (reply.Status layers modes) e = subst (HasPlaceFor room) e (plain (ap subject_of e))
    by (reply.Refused why) e = tt
    by (reply.Aborted place) e = subst (HasPlaceFor room) e (plain (ap subject_of e))

-- of the last answer of the stream, where that is of a frame's call
pub last_place : (n : ℕ) (spot : Spot) (es : List Entry) (c : Call) (room : ℕ) → IsLegal spot es → IsFrameCall c → HasRoomFor c room
    → EndsWithCall n c (own_entries n spot es) → HasPlaceForLast n room es
last_place n spot es c room legal frame has ends = record {
  some = has_answer n spot es ends.front ends.spot ends.answer ends.is;
  place = λ a last.
      let call = ap (λ (x : Answer). x.call) (same_answer n spot es ends.front ends.spot ends.answer ends.is a last) ∙ ends.call in
      let asks = subst IsFrameCall (sym call) frame in
      reply_place _ _ a room (answered_there n spot es a last legal asks) asks (subst (λ x. HasRoomFor x room) (sym call) has);
}

-- so it is in the World that a stream finds
pub place_found : (a : Bool) (n : ℕ) (s x : State) (c : Call) (room : ℕ) → IsFound a n s x → IsFrameCall c → HasRoomFor c room
    → EndsWithCall n c (view a n s).entries → HasPlaceForLast n room x.book.entries
place_found a n s x c room found frame has ends =
    last_place n (opening_of x) x.book.entries c room found.sound.on.told.legal frame has
    (subst (λ (m : Mine). EndsWithCall n c m.entries) (sym (found_same a n s x found)) ends)
