-- Which replies a client that sends frames may have, and the frame of a refusal.
use Rattle.std.specs.Prelude.{ℕ, ◌≤◌, List, ◌++◌, length}
use Rattle.frame_wire.specs.declared.head.Head.{Head}
use Rattle.frame_stream.specs.Replies.{head_bytes}
use Rattle.volume_model.specs.declared.call.Refusal.{Refusal}
use Rattle.volume_model.specs.Texts.{refusal_text}
use Rattle.volume_model.specs.PlainStep.{longest_call}
use Rattle.volume_model.specs.declared.call.Reply.{Reply}
use Rattle.volume_model.specs.declared.call.Reply.TheVariants as reply

-- a reply to a frame's call: none that a command alone has, and no more bytes than a call may have
abbrev pub IsToFrame : Reply → Type 0
IsToFrame (reply.Read bytes) = length bytes ≤ longest_call
IsToFrame (reply.Status layers modes) = ⊥
IsToFrame (reply.Aborted place) = ⊥
IsToFrame r = Unit {0}

-- the frame of a refusal: its header, and its text
abbrev pub refusal_frame : Head → Refusal → List ℕ
refusal_frame asked why =
    let len = length (refusal_text why) in head_bytes (record asked { kind = 3; size = len; len = len }) ++ refusal_text why
