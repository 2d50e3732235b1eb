-- What a World tells a desk.
use Rattle.std.specs.Prelude.{◌≡◌, ℕ, ◌==◌, Bool, true, false, List, [], ◌∷◌, ◌++◌, length, map, if◌then◌else◌, Option, Some, None}
use Rattle.volume_model.specs.declared.entry.Entry.{Entry}
use Rattle.volume_model.specs.declared.entry.Entry.TheVariants as entry
use Rattle.volume_model.specs.declared.mark.Mark.{Mark}
use Rattle.volume_model.specs.declared.mark.Mark.TheVariants as mark
use Rattle.range_turns.specs.declared.ticket.Ticket.{Ticket}
use Rattle.open_calls.specs.declared.open_call.OpenCall.{OpenCall}
use Rattle.step_answers.specs.declared.parts.Part.{Part}
use Rattle.open_calls.specs.declared.maint.MaintCall.{MaintCall}
use Rattle.open_calls.specs.declared.whole.Whole.{Whole}
use Rattle.volume_core.specs.State.{State, state_of, gave_up_at}
use Rattle.volume_core.specs.Sound.{IsSound}
use Rattle.volume_core.specs.Streams.{running, turning, Origin, origin_of}
use Rattle.desk_lock.specs.Account.{Account, Each, is_stream}
use Rattle.world_holder.specs.declared.kept.WorldOnDesk.{WorldOnDesk}
use Rattle.world_holder.specs.Counted.{CountsOn, AreCounted, KeepsCopies, AreAllCopiesKept}
use Rattle.world_holder.specs.Counted.{counts_itself, counts_later, copies_itself, copies_later}

-- of which stream an entry is: that whose call it answers, or whose line's fault it tells; other marks are of none
abbrev pub stream_of_mark : Mark → Option ℕ
stream_of_mark (mark.Fault stream r count) = Some stream
stream_of_mark m = None

abbrev pub stream_of : Entry → Option ℕ
stream_of (entry.Answer a) = Some a.stream
stream_of (entry.Mark m) = stream_of_mark m

-- how far each replica is with the operation on the whole volume that has started, for the ticket whose it is
abbrev pub parts_for : Option Whole → Ticket → List Part
parts_for None t = []
parts_for (Some w) t = if w.number == t.number then w.parts else []

-- What a stream has open: a command that has the maintenance turn or waits for it, and a call, each with its ticket, and
-- the call with how far each replica is with it, if it is that operation. That it gave a command up stays for good.
pub data Running : Type 0 where
  GaveUp : Running
  Turn : Ticket → MaintCall → Running
  Call : Ticket → OpenCall → List Part → Running

abbrev pub turn_of : Ticket × MaintCall → Running
turn_of p = Turn p.0 p.1

abbrev pub call_of : Option Whole → Ticket × OpenCall → Running
call_of w p = Call p.0 p.1 (parts_for w p.0)

abbrev pub gave_up_of : Bool → List Running
gave_up_of true = GaveUp ∷ []
gave_up_of false = []

-- all of it: whether it gave a command up, its commands of the turn, and then its calls
abbrev pub running_of : State → ℕ → List Running
running_of s stream = gave_up_of (gave_up_at s.gave_up stream)
    ++ (map turn_of (turning s stream) ++ map (call_of s.whole) (running s stream))

-- how far each replica is with each call of the stream
abbrev pub parts_of : State → ℕ → List (List Part)
parts_of s stream = map (λ (p : Ticket × OpenCall). parts_for s.whole p.0) (running s stream)

-- what it may count on: a command of the turn on the rebuild that is open and on copies, and all else on nothing more than
-- to stay
abbrev pub MayCountOn : Running → State → State → Type 0
MayCountOn GaveUp s s2 = Unit {0}
MayCountOn (Turn t c) s s2 = CountsOn t s s2 × KeepsCopies t s s2
MayCountOn (Call t c parts) s s2 = Unit {0}

pub may_count_itself : (r : Running) (s : State) → MayCountOn r s s
may_count_itself GaveUp s = tt
may_count_itself (Turn t c) s = (counts_itself t s, copies_itself t s)
may_count_itself (Call t c parts) s = tt

pub may_count_later : (r : Running) (s s2 s3 : State) → MayCountOn r s s2 → MayCountOn r s2 s3 → MayCountOn r s s3
may_count_later GaveUp s s2 s3 first next = tt
may_count_later (Turn t c) s s2 s3 first next =
    (counts_later t s s2 s3 first.0 next.0, copies_later t s s2 s3 first.1 next.1)
may_count_later (Call t c parts) s s2 s3 first next = tt

-- the World on a desk, as lists
abbrev pub laid : WorldOnDesk → State
laid w = state_of w.world.value

-- its journal, its streams with what each has open and what that counts on, and how the volume began
abbrev pub world_account : Account WorldOnDesk Entry Running Origin
world_account = record {
  journal = λ w. (laid w).book.entries;
  stream_of = stream_of;
  streams = λ w. length (laid w).indices;
  running = λ w stream. running_of (laid w) stream;
  origin = λ w. origin_of (laid w);
  sound = λ w. IsSound (laid w);
  counts_on = λ r x y. MayCountOn r (laid x) (laid y);
  counts_same = λ r x. may_count_itself r (laid x);
  counts_later = λ r x y z first next. may_count_later r (laid x) (laid y) (laid z) first next;
}

-- Of a stream that takes no step, the World s is t later: with the same origin, entries more of which none is its own,
-- all that it has open as it was, whether it gave a command up, and with what its commands count on.
pub record IsLater (stream : ℕ) (s t : State) : Type 0 where
  pub origin : origin_of t ≡ origin_of s
  pub added : (es : List Entry) × (t.book.entries ≡ s.book.entries ++ es)
      × Each (λ e. is_stream stream (stream_of e) ≡ false) es
  pub calls : running t stream ≡ running s stream
  pub turns : turning t stream ≡ turning s stream
  pub parts : parts_of t stream ≡ parts_of s stream
  pub gave_up : gave_up_at t.gave_up stream ≡ gave_up_at s.gave_up stream
  pub counted : AreCounted stream s t
  pub copies : AreAllCopiesKept stream s t
