-- A session at its seat: when it may call, and what a call comes to.
use Rattle.std.specs.Prelude.{◌≡◌, ℕ, false, List, [], ◌∷◌, ◌++◌, length, map, Option}
use Rattle.desk_lock.specs.declared.seats.Desk.{Desk}
use Rattle.desk_lock.specs.declared.seats.Seat.{Seat}
use Rattle.desk_lock.specs.Account.{BeginsWith}
use Rattle.desk_lock.specs.Seats.{last_of}
use Rattle.volume_model.specs.declared.call.Call.{Call}
use Rattle.volume_model.specs.declared.call.Reply.{Reply}
use Rattle.volume_model.specs.declared.entry.Answer.{Answer}
use Rattle.volume_model.specs.declared.entry.Entry.{Entry}
use Rattle.volume_model.specs.declared.entry.Entry.TheVariants as entry
use Rattle.volume_model.specs.History.{IsAnswered, IsLegal, SeenInOrder, calls_of}
use Rattle.volume_model.specs.Modes.{modes_after}
use Rattle.volume_model.specs.Replay.{replay}
use Rattle.volume_core.specs.State.{State, opening_of}
use Rattle.client_worker.specs.declared.channel.Channel.{Channel}
use Rattle.client_worker.specs.Serving.{IsShown}
use Rattle.stream_steps.specs.Mine.{Placed}
use Rattle.world_holder.specs.declared.kept.WorldOnDesk.{WorldOnDesk}
use Rattle.world_holder.specs.Laid.{laid, running_of}
use Rattle.world_holder.specs.Rests.{IsSeated}
use Rattle.world_holder.specs.View.{view, own_entries}

-- a session: the number of its seat, and a line to each replica
pub record Caller (L : Type 0) : Type 0 where
  pub number : ℕ
  pub channels : List (Channel L)

-- the seat's own entries, each with where the run stood before it
abbrev pub own_of : ℕ → State → List Placed
own_of n s = own_entries n (opening_of s) s.book.entries

-- The seat is the session's, at rest, and nothing of it is open. There is a line to each replica. No line has a mark above
-- its count, and what lines tell that they carried is shown.
module _ {L : Type 0} (count : L → ℕ) (told : L → Option (List (List ℕ))) where
  pub record MayCall (d : Desk WorldOnDesk) (s : Seat WorldOnDesk) (c : Caller L) : Type 0 where
    pub seated : IsSeated d s c.number
    pub idle : running_of (laid (last_of s)) c.number ≡ []
    pub lines : length c.channels ≡ length (laid (last_of s)).nodes
    pub shown : IsShown (view false c.number (laid (last_of s)))
        (map (λ x. count x.line) c.channels) (map (λ x. told x.line) c.channels)

-- The call of the seat n, which had seen s and has seen t now, has that reply. It stands in the journal behind all that the
-- seat had seen, and there it is legal. Up to it the seat has the calls that it had, and this one; behind it, no entry.
pub record IsReplied (n : ℕ) (c : Call) (r : Reply) (s t : State) : Type 0 where
  pub before : List Entry
  pub behind : List Entry
  pub answer : Answer
  pub is : t.book.entries ≡ (before ++ entry.Answer answer ∷ []) ++ behind
  pub seen : BeginsWith before s.book.entries
  pub call : answer.call ≡ c
  pub reply : answer.reply ≡ r
  pub by : answer.stream ≡ n
  pub answered : IsAnswered (replay (opening_of t).state before) (modes_after (opening_of t).modes before) answer
  pub calls : calls_of n (before ++ entry.Answer answer ∷ []) ≡ calls_of n s.book.entries ++ c ∷ []
  pub last : own_entries n (opening_of t) (before ++ entry.Answer answer ∷ []) ≡ own_of n t
  pub legal : IsLegal (opening_of t) t.book.entries
  pub order : SeenInOrder t.book.entries

-- What the seat n had seen, as s, begins the journal of t, which is legal and has just the seat's calls that s had.
pub record StandsIn (n : ℕ) (s t : State) : Type 0 where
  pub seen : BeginsWith t.book.entries s.book.entries
  pub calls : calls_of n t.book.entries ≡ calls_of n s.book.entries
  pub legal : IsLegal (opening_of t) t.book.entries
