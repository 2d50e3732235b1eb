-- Streams as bytes, and where bytes are no streams. `room` is how many frames there may be that are calls.
use Rattle.std.specs.Prelude.{◌≡◌, ◌≢◌, ◌⊎◌, ℕ, ◌+◌, ◌-◌, ◌≤◌, List, [], ◌∷◌, length, take, drop}
use Rattle.script_head.specs.declared.head.StreamHead.{StreamHead}
use Rattle.script_head.specs.declared.head.StreamHead.TheVariants as head
use Rattle.script_head.specs.Head.{byte_count}
use Rattle.frame_stream.specs.declared.frame.Frame.{Frame}
use Rattle.script_text.specs.declared.script.Stream.{Stream}
use Rattle.script_text.specs.declared.script.Stream.TheVariants as stream
use Rattle.script_text.specs.declared.what.What.{What}
use Rattle.script_text.specs.declared.what.What.TheVariants as what
use Rattle.frame_stream.specs.Frames.{spelled, spellings, IsClose, BeginsWithFrame, HasNoFrame, BeginWithCalls}

-- ---- one stream

-- the end of a stream: nothing, or a frame that ends it
abbrev pub IsEnd : List ℕ → Type 0
IsEnd rest = (rest ≡ []) ⊎ ((f : Frame) × BeginsWithFrame rest f [] × IsClose f)

-- the bytes are a stream of these calls
abbrev pub IsStream : List ℕ → List Frame → Type 0
IsStream bytes frames = (rest : List ℕ) × BeginWithCalls bytes frames rest × IsEnd rest

-- the bytes begin with a call
abbrev pub HasCall : List ℕ → Type 0
HasCall rest = (f : Frame) × (more : List ℕ) × BeginsWithFrame rest f more × (IsClose f → ⊥)

-- they begin with a frame that ends the stream, and yet go on at a place of them
abbrev pub GoesOn : List ℕ → ℕ → Type 0
GoesOn rest at = (f : Frame) × (more : List ℕ) × BeginsWithFrame rest f more × IsClose f
    × (more ≢ []) × (at ≡ length (spelled f))

-- What is bad behind some calls, with so many left that may come, and at which place: no whole frame
-- stands there, or bytes go on behind the end, or a call stands there, and none may come.
abbrev pub IsBadAt : ℕ → ℕ → List ℕ → ℕ → What → Type 0
IsBadAt left place rest bad what.Frame = ((rest ≢ []) × HasNoFrame rest × (bad ≡ place))
    ⊎ ((at : ℕ) × GoesOn rest at × (bad ≡ place + at))
IsBadAt left place rest bad what.Calls = (left ≡ 0) × HasCall rest × (bad ≡ place)
IsBadAt left place rest bad _ = ⊥

-- bytes that begin at a place are no stream: what is bad behind the first calls, and where
abbrev pub IsNoStream : ℕ → ℕ → List ℕ → ℕ → What → Type 0
IsNoStream room place bytes bad why = (frames : List Frame) × (rest : List ℕ)
    × BeginWithCalls bytes frames rest × (length frames ≤ room)
    × IsBadAt (room - length frames) (place + length (spellings frames)) rest bad why

-- ---- all streams

-- how many calls a stream is
abbrev pub stream_length : Stream → ℕ
stream_length (stream.Frames frames) = length frames
stream_length (stream.Control commands) = length commands

-- how many of them are frames
abbrev pub frame_count : Stream → ℕ
frame_count (stream.Frames frames) = length frames
frame_count (stream.Control commands) = 0

-- the stream that its head and its bytes are: the commands of a control stream stand in the head
abbrev pub IsStreamOf : StreamHead → List ℕ → Stream → Type 0
IsStreamOf (head.Frames count) bytes (stream.Frames frames) = IsStream bytes frames
IsStreamOf (head.Control commands) bytes (stream.Control others) = others ≡ commands
IsStreamOf _ bytes _ = ⊥

-- these bytes, of a stream with this head, are no stream: a control stream has no bytes
abbrev pub IsNoStreamOf : StreamHead → ℕ → ℕ → List ℕ → ℕ → What → Type 0
IsNoStreamOf (head.Frames count) room place bytes bad why = IsNoStream room place bytes bad why
IsNoStreamOf (head.Control commands) room place bytes bad why = ⊥

-- the heads and the bytes are these streams, one after another, each of its length
abbrev pub AreStreams : List StreamHead → List ℕ → List Stream → Type 0
AreStreams [] bytes [] = Unit {0}
AreStreams (h ∷ hs) bytes (s ∷ ss) = IsStreamOf h (take (byte_count h) bytes) s
    × AreStreams hs (drop (byte_count h) bytes) ss
AreStreams _ bytes _ = ⊥

-- the first that is no stream of its length: what is bad in it, and where. There may be `room` frames more that are calls.
abbrev pub AreNoStreams : ℕ → ℕ → List StreamHead → List ℕ → ℕ → What → Type 0
AreNoStreams room place [] bytes bad why = ⊥
AreNoStreams room place (h ∷ hs) bytes bad why = IsNoStreamOf h room place (take (byte_count h) bytes) bad why
    ⊎ ((s : Stream) × IsStreamOf h (take (byte_count h) bytes) s × (frame_count s ≤ room)
    × AreNoStreams (room - frame_count s) (place + byte_count h) hs (drop (byte_count h) bytes) bad why)
