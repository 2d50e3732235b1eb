-- The frames of a stream that a worker takes.
use Rattle.std.specs.Prelude.{◌≡◌, ◌≤◌, length}
use Rattle.frame_stream.specs.declared.asked.Asked.TheVariants as asked
use Rattle.frame_stream.specs.declared.frame.Frame.{Frame}
use Rattle.frame_stream.specs.Asked.{asked_of, call_of}
use Rattle.volume_model.specs.declared.call.Call.{Call}
use Rattle.volume_model.specs.declared.call.Call.TheVariants as call
use Rattle.volume_model.specs.PlainStep.{longest_call}

-- the frame is a call, with no more data than a call may have
pub record IsAsked (f : Frame) : Type 0 where
  pub call : asked_of f ≡ asked.Call (call_of f)
  pub short : length f.body ≤ longest_call

-- a write of no more bytes than a call may have, or another call
abbrev pub IsShort : Call → Type 0
IsShort (call.Write offset bytes) = length bytes ≤ longest_call
IsShort c = Unit {0}
