-- What a frame asks, by its type. The types are those of Longhorn's dataconn messages.
use Rattle.std.specs.Prelude.{ℕ, ◌==◌, if◌then◌else◌}
use Rattle.volume_model.specs.declared.call.Call.{Call}
use Rattle.volume_model.specs.declared.call.Call.TheVariants as call
use Rattle.frame_stream.specs.declared.asked.Asked.{Asked}
use Rattle.frame_stream.specs.declared.asked.Asked.TheVariants as asked
use Rattle.frame_stream.specs.declared.frame.Frame.{Frame}

-- ---- the types of frames

-- reads
abbrev pub read_kind : ℕ
read_kind = 0

-- writes
abbrev pub write_kind : ℕ
write_kind = 1

-- ends its stream
abbrev pub close_kind : ℕ
close_kind = 5

-- asks for a sign of life
abbrev pub ping_kind : ℕ
ping_kind = 6

-- ---- what a frame asks

-- the call that a frame is: a read's data and a write's size say nothing
abbrev pub call_of : Frame → Call
call_of f =
    if f.head.kind == read_kind then call.Read f.head.offset f.head.size
    else (if f.head.kind == write_kind then call.Write f.head.offset f.body
    else (if f.head.kind == ping_kind then call.Ping else call.Other f.head.kind))

-- what it asks: a Close is no call
abbrev pub asked_of : Frame → Asked
asked_of f = if f.head.kind == close_kind then asked.End else asked.Call (call_of f)
