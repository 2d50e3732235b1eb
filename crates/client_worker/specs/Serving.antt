-- How what a worker knows of its stream grows while it serves its calls.
use Rattle.std.specs.Prelude.{◌≡◌, ℕ, ◌≤◌, true, List, [], ◌∷◌, ◌++◌, length, All, Option, slice_index_or, IfSome}
use Rattle.volume_model.specs.declared.call.Call.{Call}
use Rattle.volume_model.specs.declared.call.Reply.TheVariants as reply
use Rattle.volume_model.specs.declared.entry.Answer.{Answer}
use Rattle.volume_model.specs.declared.entry.Entry.{Entry}
use Rattle.volume_model.specs.declared.entry.Entry.TheVariants as entry
use Rattle.volume_model.specs.declared.mark.Mark.{Mark}
use Rattle.volume_model.specs.declared.mark.Mark.TheVariants as mark
use Rattle.volume_model.specs.Faults.{last_count}
use Rattle.volume_model.specs.Modes.{HasSource}
use Rattle.step_answers.specs.declared.parts.Part.{Part}
use Rattle.stream_steps.specs.Mine.{Mine, OwnCall, Placed, Log, entries_in, with_more, longer, length_of}
use Rattle.client_worker.specs.Exchanges.{told_in, CarryFrames, AreCarried, AreAcked}

-- ---- faults

-- a fault of a line of the stream
abbrev pub IsFaultMark : ℕ → Mark → Type 0
IsFaultMark stream (mark.Fault s r count) = s ≡ stream
IsFaultMark stream m = ⊥

abbrev pub IsOwnFault : ℕ → Entry → Type 0
IsOwnFault stream (entry.Answer a) = ⊥
IsOwnFault stream (entry.Mark m) = IsFaultMark stream m

-- no line has a mark above its count
abbrev pub Counted : Mine → List ℕ → Type 0
Counted m counts = (r : ℕ) → last_count m.stream r (entries_in m.entries) ≤ slice_index_or counts r 0

-- Of lines that tell these counts, and this of what they carried: none has a mark above its count, and where they tell
-- it, they have carried nothing but whole frames, and among these the exchanges of what was answered, and of what the
-- replicas acknowledged of the open call, once it has started.
pub record IsShown (m : Mine) (counts : List ℕ) (carried : List (Option (List (List ℕ)))) : Type 0 where
  pub counted : Counted m counts
  pub framed : CarryFrames (told_in carried)
  pub answered : AreCarried m.replicas (told_in carried) m.entries
  pub acked : (o : OwnCall) → m.running ≡ o ∷ [] → o.started ≡ true → AreAcked (told_in carried) o

-- ---- while a call is open

-- lines of the stream failed, and its call is open still; its replicas may be further
pub record StaysOpen (o : OwnCall) (m m2 : Mine) : Type 0 where
  pub marks : List Placed
  pub buffer : List ℕ
  pub parts : List Part
  pub faults : All (IsOwnFault m.stream) (entries_in marks)
  pub long : length buffer ≡ length o.buffer
  pub is : m2 ≡ with_more m marks (record o { buffer = buffer; parts = parts } ∷ [])

-- the same of the open call that there is
abbrev pub KeepsOpen : Mine → Mine → Type 0
KeepsOpen m m2 = (o : OwnCall) → m.running ≡ o ∷ [] → StaysOpen o m m2

-- ---- from call to call

-- The entries are faults of the stream's lines, and then the answer of a call that was taken up behind that journal. A
-- read that met no fault was answered its bytes only where a replica was read.
pub record Serves (stream : ℕ) (log : Option Log) (c : Call) (es : List Entry) : Type 0 where
  pub marks : List Entry
  pub answer : Answer
  pub is : es ≡ marks ++ entry.Answer answer ∷ []
  pub faults : All (IsOwnFault stream) marks
  pub call : answer.call ≡ c
  pub by : answer.stream ≡ stream
  pub saw : IfSome log (λ l. answer.saw ≡ length_of l)
  pub source : (bytes : List ℕ) → answer.reply ≡ reply.Read bytes → marks ≡ []
      → IfSome log (λ l. HasSource l.spot.modes)

-- the same of these calls, each taken up behind the entries of the one before
abbrev pub AreServed : ℕ → Option Log → List Call → List Entry → Type 0
AreServed stream log [] es = es ≡ []
AreServed stream log (c ∷ cs) es = (first more : List Entry) × (es ≡ first ++ more)
    × Serves stream log c first × AreServed stream (longer log first) cs more

-- the stream's entries, and the whole journal where it is known, grew by those of one call, and none is open
pub record GrewBy (c : Call) (m m2 : Mine) : Type 0 where
  pub added : List Placed
  pub is : m2 ≡ with_more m added []
  pub served : Serves m.stream m.log c (entries_in added)

-- the same of these calls, each once and in their order
pub record Grew (cs : List Call) (m m2 : Mine) : Type 0 where
  pub added : List Placed
  pub is : m2 ≡ with_more m added []
  pub served : AreServed m.stream m.log cs (entries_in added)

-- the same of some of the first of them, as far as memory lasted
pub record GrewSome (cs : List Call) (m m2 : Mine) : Type 0 where
  pub done : List Call
  pub left : List Call
  pub are : done ++ left ≡ cs
  pub grew : Grew done m m2
