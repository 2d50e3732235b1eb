-- The frame that replies to a frame that is a call, as longhorn-engine's dataconn server sends it.
use Rattle.std.specs.Prelude.{ℕ, List, [], ◌++◌, length, codes, if◌then◌else◌}
use Rattle.std.specs.Fmt.{decimal}
use Rattle.frame_wire.specs.declared.head.Head.{Head}
use Rattle.frame_wire.specs.Spelling.{header}
use Rattle.volume_model.specs.declared.call.Call.{Call}
use Rattle.volume_model.specs.declared.call.Call.TheVariants as call
use Rattle.volume_model.specs.declared.call.Reply.{Reply}
use Rattle.volume_model.specs.declared.call.Reply.TheVariants as reply
use Rattle.volume_model.specs.Replay.{is_refusal}
use Rattle.volume_model.specs.Texts.{refusal_text}

-- the type of the frame that replies: 2 is a response, 3 an error
abbrev pub reply_kind : Reply → ℕ
reply_kind r = if is_refusal r then 3 else 2

-- why a call was not done, and nothing where it was: of an aborted rebuild the place of the mark that ended it
abbrev pub error_text : Reply → List ℕ
error_text (reply.Refused why) = refusal_text why
error_text (reply.Aborted place) = codes "aborted " ++ decimal place
error_text r = []

-- the data of that frame
abbrev pub reply_body : Reply → List ℕ
reply_body (reply.Read bytes) = bytes
reply_body r = error_text r

-- what the size of that frame says: the bytes put by a write, and else the length of its data
abbrev pub reply_size : Call → Reply → ℕ
reply_size (call.Write offset bytes) reply.Done = length bytes
reply_size asked r = length (reply_body r)

-- its header: seq and offset of the frame that asked, and its own type, size and length
abbrev pub reply_head : Head → Call → Reply → Head
reply_head asked c r = record {
  seq = asked.seq;
  kind = reply_kind r;
  offset = asked.offset;
  size = reply_size c r;
  len = length (reply_body r);
}

-- a header, as bytes: it stays shut in what cites it
unfoldable pub head_bytes : Head → List ℕ
head_bytes h = header h

-- the whole frame, as bytes
abbrev pub reply_frame : Head → Call → Reply → List ℕ
reply_frame asked c r = head_bytes (reply_head asked c r) ++ reply_body r
