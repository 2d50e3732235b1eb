-- What a generated load prints where no line fails: its summary, as its three numbers make it. In which order the streams'
-- calls came does not tell.
use Rattle.std.specs.Prelude.{ℕ, zero, suc, ◌+◌, List, [], ◌∷◌, ◌++◌, map, false, None}
use Rattle.vol_units.specs.Name.{sys_name}
use Rattle.volume_model.specs.declared.call.Call.{Call}
use Rattle.volume_model.specs.declared.call.Reply.{Reply}
use Rattle.volume_model.specs.declared.call.Reply.TheVariants as reply
use Rattle.volume_model.specs.declared.mode.Mode.TheVariants.{Rw}
use Rattle.load_laws.specs.Load.{blank_disk, control_calls}
use Rattle.load_laws.specs.Result.{reply_on, disk_after, slices_left}
use Rattle.digest.specs.Digest.{digest_text}
use Rattle.frame_stream.specs.declared.frame.Frame.{Frame}
use Rattle.frame_stream.specs.Asked.{call_of}
use Rattle.frame_stream.specs.Replies.{reply_frame}
use Rattle.script_text.specs.Generated.{frames_of}
use Rattle.run_report.specs.Lines.{chain_line}
use Rattle.run_report.specs.Summary.{stream_lines, control_line, modes_line, disk_line}

-- ---- the streams of frames

-- the frame that replies to this one, as the disk answers it
abbrev pub reply_to : List ℕ → Frame → List ℕ
reply_to disk frame = reply_frame frame.head (call_of frame) (reply_on disk (call_of frame))

-- the frames that reply to these, one behind another, where nobody else writes the disk
abbrev pub replies_to : List ℕ → List Frame → List ℕ
replies_to disk [] = []
replies_to disk (frame ∷ more) = reply_to disk frame ++ replies_to (disk_after disk (call_of frame)) more

-- the same of so many streams, each with that disk for itself: the first of them has this page
abbrev pub load_replies : List ℕ → ℕ → ℕ → ℕ → ℕ → List (List ℕ)
load_replies disk number calls page zero = []
load_replies disk number calls page (suc more) =
    replies_to disk (frames_of number calls page) ∷ load_replies disk number calls (page + 1) more

-- ---- the control stream

-- what its commands are answered: each is done
abbrev pub control_replies : List Reply
control_replies = map (λ c. reply.Done) control_calls

-- ---- what is left

-- the calls of the stream that has this page
abbrev pub load_calls : ℕ → ℕ → ℕ → List Call
load_calls number calls page = map call_of (frames_of number calls page)

-- the disk: each page as its stream leaves it of a blank one
abbrev pub load_disk : ℕ → ℕ → ℕ → List ℕ
load_disk number streams calls = slices_left (blank_disk streams) (load_calls number calls) streams

-- the chain, in which there is the rebuild's snapshot alone, and the disk
abbrev pub load_volume_lines : ℕ → ℕ → ℕ → List ℕ
load_volume_lines number streams calls =
    chain_line None ((sys_name 1, false) ∷ []) ++ disk_line (digest_text (load_disk number streams calls))

-- ---- all of it

-- the summary of a load by its number, its count of streams of frames, and the count of the calls of each
abbrev pub load_text : ℕ → ℕ → ℕ → List ℕ
load_text number streams calls = stream_lines 0 (load_replies (blank_disk streams) number calls 0 streams)
    ++ control_line control_replies ++ modes_line (Rw ∷ Rw ∷ []) ++ load_volume_lines number streams calls
