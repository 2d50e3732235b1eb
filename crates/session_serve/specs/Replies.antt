-- The reply to a stream's last call, as a journal has it.
use Rattle.std.specs.Prelude.{◌≡◌, ◌≢◌, ℕ, ◌≤◌, List, [], ◌∷◌, ◌++◌, length}
use Rattle.volume_model.specs.declared.call.Call.{Call}
use Rattle.volume_model.specs.declared.call.Call.TheVariants as call
use Rattle.volume_model.specs.declared.call.Reply.{Reply}
use Rattle.volume_model.specs.declared.call.Reply.TheVariants as reply
use Rattle.volume_model.specs.declared.entry.Answer.{Answer}
use Rattle.volume_model.specs.declared.entry.Entry.{Entry}
use Rattle.volume_model.specs.declared.entry.Entry.TheVariants as entry
use Rattle.volume_model.specs.History.{Spot}
use Rattle.volume_model.specs.PlainStep.{longest_call}
use Rattle.stream_steps.specs.Mine.{Placed, answer_placed}

-- the entry is no answer of the stream
abbrev pub IsNoAnswer : ℕ → Entry → Type 0
IsNoAnswer n (entry.Answer a) = a.stream ≢ n
IsNoAnswer n (entry.Mark m) = Unit {0}

-- none of these is
abbrev pub HasNoAnswer : ℕ → List Entry → Type 0
HasNoAnswer n [] = Unit {0}
HasNoAnswer n (e ∷ es) = IsNoAnswer n e × HasNoAnswer n es

-- the last answer of the stream in the journal
pub record IsLastOf (n : ℕ) (a : Answer) (es : List Entry) : Type 0 where
  pub before : List Entry
  pub behind : List Entry
  pub is : es ≡ (before ++ entry.Answer a ∷ []) ++ behind
  pub by : a.stream ≡ n
  pub none : HasNoAnswer n behind

-- it has that reply
pub record IsLastReply (n : ℕ) (r : Reply) (es : List Entry) : Type 0 where
  pub answer : Answer
  pub last : IsLastOf n answer es
  pub is : answer.reply ≡ r

-- of a stream's own entries, the last answers that call
pub record EndsWithCall (n : ℕ) (c : Call) (ps : List Placed) : Type 0 where
  pub front : List Placed
  pub spot : Spot
  pub answer : Answer
  pub is : ps ≡ front ++ answer_placed spot answer ∷ []
  pub call : answer.call ≡ c
  pub by : answer.stream ≡ n

-- ---- room for a reply

-- the reply to the call has place in so many bytes, where it is a frame's
abbrev pub HasRoomFor : Call → ℕ → Type 0
HasRoomFor (call.Read offset n) room = n ≤ longest_call → n ≤ room
HasRoomFor c room = Unit {0}

-- the reply has place there
abbrev pub HasPlaceFor : ℕ → Reply → Type 0
HasPlaceFor room (reply.Read bytes) = length bytes ≤ room
HasPlaceFor room (reply.Status layers modes) = ⊥
HasPlaceFor room (reply.Aborted place) = ⊥
HasPlaceFor room r = Unit {0}

-- the stream has a last answer, whose reply has
pub record HasPlaceForLast (n room : ℕ) (es : List Entry) : Type 0 where
  pub some : HasNoAnswer n es → ⊥
  pub place : (a : Answer) → IsLastOf n a es → HasPlaceFor room a.reply
