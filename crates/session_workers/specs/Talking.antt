-- What the parts of serving a client say to each other.
use Rattle.std.specs.Prelude.{◌≡◌, ◌≢◌, ◌⊎◌, ℕ, ◌≤◌, List, [], ◌∷◌, ◌++◌, length, map, Option, Result, Ok, Err}
use Rattle.std.specs.Io.KnownBytes.{Appends, IsAtEnd}
use Rattle.outer_traits.specs.Causes.{one_more}
use Rattle.outer_traits.specs.Passing.{WritesPrefix}
use Rattle.volume_model.specs.declared.entry.Answer.{Answer}
use Rattle.volume_model.specs.declared.entry.Entry.{Entry}
use Rattle.volume_model.specs.History.{answers_of, calls_of}
use Rattle.frame_stream.specs.Asked.{call_of}
use Rattle.frame_stream.specs.Frames.{IsClose}
use Rattle.frame_stream.specs.Reading.{Fed, GivesNext}
use Rattle.frame_stream.specs.Replies.{reply_frame}
use Rattle.frame_stream.specs.declared.frame.Frame.{Frame}
use Rattle.frame_stream.specs.declared.reader.Next.TheVariants as next
use Rattle.client_input.specs.Giving.{HasGiven}
use Rattle.door_traits.specs.Sessions.{Told}
use Rattle.run_report.specs.declared.session_line.SessionEnd.{SessionEnd}
use Rattle.run_report.specs.declared.session_line.SessionEnd.TheVariants as end
use Rattle.session_workers.specs.declared.coming.Coming.{Coming}
use Rattle.session_workers.specs.declared.coming.Coming.TheVariants as coming
use Rattle.session_workers.specs.declared.answer.Written.{Written}
use Rattle.session_workers.specs.declared.answer.Written.TheVariants as written
use Rattle.session_workers.specs.Clients.{most_session_calls, SessionEnds, HasStopped, replies_in}

-- ---- what comes next

-- the input is bad there, or it ends within a frame
abbrev pub IsCutThere : ℕ → Fed → Option (List ℕ) → Type 0
IsCutThere place fed left = ((new : Fed) × GivesNext fed new (next.Bad place))
    ⊎ ((place ≡ fed.place) × (fed.left ≢ []) × ((new : Fed) × GivesNext fed new next.Short) × IsAtEnd left)

-- a frame comes next of which that is so
abbrev pub HasNext : (Frame → Type 0) → Fed → Type 0
HasNext P fed = (new : Fed) × (f : Frame) × GivesNext fed new (next.Frame f) × P f

-- Why no call comes, where so many were made: of what was fed and of what the source has left.
abbrev pub EndsThere : SessionEnd → ℕ → Fed → Option (List ℕ) → Type 0
EndsThere end.Closed calls fed left = HasNext IsClose fed
EndsThere end.Ended calls fed left = (fed.left ≡ []) × IsAtEnd left
EndsThere (end.Frame place) calls fed left = IsCutThere place fed left
EndsThere end.Full calls fed left = (calls ≡ most_session_calls) × HasNext (λ f. IsClose f → ⊥) fed
EndsThere end.ReadFault calls fed left = (new : Fed) × GivesNext fed new next.Short
EndsThere end.WriteFault calls fed left = ⊥

-- what a whole frame asks, where so many calls were made
abbrev pub IsWhatFrameAsks : ℕ → Frame → Coming → Type 0
IsWhatFrameAsks calls frame (coming.Call f) = (f ≡ frame) × (IsClose frame → ⊥) × (calls ≢ most_session_calls)
IsWhatFrameAsks calls frame (coming.End end.Closed) = IsClose frame
IsWhatFrameAsks calls frame (coming.End end.Full) = (IsClose frame → ⊥) × (calls ≡ most_session_calls)
IsWhatFrameAsks calls frame (coming.End e) = ⊥

-- how an input ends of which the reader has that left
abbrev pub IsEndOfInput : Fed → SessionEnd → Type 0
IsEndOfInput fed end.Ended = fed.left ≡ []
IsEndOfInput fed (end.Frame place) = (place ≡ fed.place) × (fed.left ≢ [])
IsEndOfInput fed e = ⊥

-- Behind these calls comes one more, or the end, where so many were made.
abbrev pub ComesBehind : ℕ → (left0 left1 : Option (List ℕ)) → Fed → List Frame → Coming → Type 0
ComesBehind calls left0 left1 new frames (coming.Call f) =
    (calls ≢ most_session_calls) × HasGiven left0 left1 new (frames ++ f ∷ [])
ComesBehind calls left0 left1 new frames (coming.End e) =
    (fed : Fed) × HasGiven left0 left1 fed frames × EndsThere e calls fed left1

-- what the source's count of faults says of it
abbrev pub ComingCount : Coming → ℕ → ℕ → Type 0
ComingCount (coming.End end.ReadFault) s t = t ≡ one_more s
ComingCount next s t = t ≡ s

abbrev pub ReadCount : {E : Type 0} → Result Coming E → ℕ → ℕ → Type 0
ReadCount (Ok next) s t = ComingCount next s t
ReadCount (Err e) s t = t ≡ s

-- ---- one call

-- The journal has one answer more of the stream, to the call that the frame is.
pub record HasOneMore (n : ℕ) (f : Frame) (old new : List Entry) (a : Answer) : Type 0 where
  pub place : ℕ
  pub answers : answers_of n new ≡ answers_of n old ++ (place, a) ∷ []
  pub call : a.call ≡ call_of f

-- How far these bytes of a reply were written, and what the sink's count of faults says: whole, or a prefix of them where
-- the sink failed, or memory ran out.
abbrev pub WritesReply : {E : Type 0} → List ℕ → (out0 out1 : Option (List ℕ)) → (k l : ℕ) → Result Written E → Type 0
WritesReply bytes out0 out1 k l (Ok written.Whole) = Appends out0 out1 bytes × (l ≡ k)
WritesReply bytes out0 out1 k l (Ok written.Cut) = WritesPrefix out0 out1 bytes × (l ≡ one_more k)
WritesReply bytes out0 out1 k l (Err e) = WritesPrefix out0 out1 bytes × (l ≡ k)

-- the call that the frame is was made, and its reply was written so far
abbrev pub GetsReply : {E : Type 0} → ℕ → Frame → (old new : List Entry) → (out0 out1 : Option (List ℕ)) → (k l : ℕ)
    → Result Written E → Type 0
GetsReply n f old new out0 out1 k l result = (a : Answer) × HasOneMore n f old new a
    × WritesReply (reply_frame f.head a.call a.reply) out0 out1 k l result

-- it was not made, for want of memory, and nothing was written
pub record IsUnasked (n : ℕ) (old new : List Entry) (out0 out1 : Option (List ℕ)) (k l : ℕ) : Type 0 where
  pub answers : answers_of n new ≡ answers_of n old
  pub none : Appends out0 out1 []
  pub count : l ≡ k

-- either of both, where memory ran out
abbrev pub MakesCall : {E : Type 0} → ℕ → Frame → (old new : List Entry) → (out0 out1 : Option (List ℕ)) → (k l : ℕ)
    → Result Written E → Type 0
MakesCall n f old new out0 out1 k l (Ok w) = GetsReply {E = Unit {0}} n f old new out0 out1 k l (Ok w)
MakesCall n f old new out0 out1 k l (Err e) =
    IsUnasked n old new out0 out1 k l ⊎ GetsReply n f old new out0 out1 k l (Err e)

-- ---- so far

-- The source gave these calls, which were made, and all are replied to.
pub record HasReplied (n : ℕ) (left0 left1 out0 out1 : Option (List ℕ)) (fed : Fed) (journal : List Entry)
    (frames : List Frame) : Type 0 where
  pub given : HasGiven left0 left1 fed frames
  pub asked : calls_of n journal ≡ map call_of frames
  pub few : length frames ≤ most_session_calls
  pub replies : Appends out0 out1 (replies_in n frames journal)

-- The calls are served: the session has ended so, behind so many. What it saw is not told yet.
abbrev pub HasServedCalls : {E : Type 0} → ℕ → (before now : Told) → List Entry → Result (SessionEnd × ℕ) E → Type 0
HasServedCalls n before now journal (Ok p) =
    SessionEnds n before now journal (record { end = p.0; calls = p.1; seen = 0 })
HasServedCalls n before now journal (Err why) = HasStopped n before now journal
