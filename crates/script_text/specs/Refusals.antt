-- How the readers of parts of an input answer.
use Rattle.std.specs.Prelude.{◌≡◌, ◌≢◌, ◌⊎◌, ℕ, ◌+◌, ◌-◌, ◌<◌, ◌≤◌, min, List, length, sum_by, Result, Ok, Err}
use Rattle.script_head.specs.declared.error.HeadError.{HeadError}
use Rattle.script_head.specs.declared.error.HeadError.TheVariants as fault
use Rattle.script_head.specs.declared.head.StreamHead.{StreamHead}
use Rattle.script_head.specs.Head.{byte_count, command_count}
use Rattle.script_text.specs.declared.error.ScriptError.{ScriptError}
use Rattle.script_text.specs.declared.error.ScriptError.TheVariants.{Bad, NoMemory}
use Rattle.frame_stream.specs.declared.frame.Frame.{Frame}
use Rattle.script_head.specs.Limits.{most_calls}
use Rattle.script_text.specs.declared.script.Stream.{Stream}
use Rattle.script_text.specs.declared.what.What.{What}
use Rattle.script_text.specs.declared.what.What.TheVariants as what
use Rattle.script_text.specs.Streams.{stream_length, frame_count, IsStream, IsNoStream, IsStreamOf, IsNoStreamOf, AreStreams, AreNoStreams}

-- the refusal of the input that a refusal of its first line is
abbrev pub line_refusal : HeadError → ScriptError
line_refusal fault.Json = Bad 0 what.Json
line_refusal (fault.BadMember m) = Bad 0 (what.Member m)
line_refusal fault.NoMemory = NoMemory

-- the answer is true of the bytes of one stream of frames
abbrev pub AnswersStream : ℕ → ℕ → List ℕ → Result (List Frame) ScriptError → Type 0
AnswersStream room place bytes (Ok frames) = IsStream bytes frames × (length frames ≤ room)
AnswersStream room place bytes (Err (Bad bad why)) = IsNoStream room place bytes bad why
AnswersStream room place bytes (Err NoMemory) = Unit {0}

-- the answer is true of the head and the bytes of one stream
abbrev pub AnswersStreamOf : StreamHead → ℕ → ℕ → List ℕ → Result Stream ScriptError → Type 0
AnswersStreamOf head room place bytes (Ok s) = IsStreamOf head bytes s × (frame_count s ≤ room)
AnswersStreamOf head room place bytes (Err (Bad bad why)) = IsNoStreamOf head room place bytes bad why
AnswersStreamOf head room place bytes (Err NoMemory) = Unit {0}

-- the answer is true of the heads and the bytes of all streams
abbrev pub AnswersStreams : ℕ → ℕ → List StreamHead → List ℕ → Result (List Stream) ScriptError → Type 0
AnswersStreams room place heads bytes (Ok streams) =
    AreStreams heads bytes streams × (sum_by frame_count streams ≤ room)
AnswersStreams room place heads bytes (Err (Bad bad why)) = AreNoStreams room place heads bytes bad why
AnswersStreams room place heads bytes (Err NoMemory) = Unit {0}

-- the streams have other bytes than there are, and this is the lesser of both ends
abbrev pub IsOtherEnd : ℕ → ℕ → ℕ → ℕ → Type 0
IsOtherEnd bytes place len end = (bytes ≢ len) × (end ≡ min (place + len) (place + bytes))

-- there are more commands than there may be calls, or one of the streams is bad beside the commands
abbrev pub AreBad : ℕ → List StreamHead → List ℕ → ℕ → What → Type 0
AreBad place heads body bad why =
    ((most_calls < sum_by command_count heads) × (bad ≡ 0) × (why ≡ what.Calls))
    ⊎ ((sum_by command_count heads ≤ most_calls)
    × AreNoStreams (most_calls - sum_by command_count heads) place heads body bad why)

-- the answer is true of the bytes behind the first line
abbrev pub AnswersBody : ℕ → List StreamHead → List ℕ → Result (List Stream) ScriptError → Type 0
AnswersBody place heads body (Ok streams) =
    (sum_by byte_count heads ≡ length body) × AreStreams heads body streams
    × (sum_by stream_length streams ≤ most_calls)
AnswersBody place heads body (Err (Bad bad what.Rest)) =
    IsOtherEnd (sum_by byte_count heads) place (length body) bad
AnswersBody place heads body (Err (Bad bad why)) =
    (sum_by byte_count heads ≡ length body) × AreBad place heads body bad why
AnswersBody place heads body (Err NoMemory) = Unit {0}
