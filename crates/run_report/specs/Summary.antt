-- The summary of a generated load: a line for each stream of frames, one for the control stream, and then what the run leaves.
-- The form is this project's own.
use Rattle.std.specs.Prelude.{ℕ, suc, List, [], ◌∷◌, ◌++◌, length, map, codes, Option, Some, None, option_map}
use Rattle.std.specs.List.{flat_map, join_with_byte, zip}
use Rattle.std.specs.Fmt.{decimal}
use Rattle.digest.specs.Digest.{digest_text}
use Rattle.frame_wire.specs.declared.head.Head.{Head}
use Rattle.frame_stream.specs.Replies.{reply_frame}
use Rattle.volume_model.specs.declared.call.Reply.{Reply}
use Rattle.volume_model.specs.declared.entry.Answer.{Answer}
use Rattle.volume_model.specs.declared.entry.Entry.{Entry}
use Rattle.volume_model.specs.declared.mode.Mode.{Mode}
use Rattle.volume_model.specs.PlainState.{Volume}
use Rattle.volume_model.specs.Snapshots.{chain_of}
use Rattle.volume_model.specs.Modes.{modes_after, source_of}
use Rattle.volume_model.specs.Replay.{replay}
use Rattle.volume_model.specs.History.{Spot, answers_of}
use Rattle.load_laws.specs.Result.{replies_of}
use Rattle.run_report.specs.Lines.{word, modes_text, reply_text, chain_line}

-- a stream, and the digest of the frames that reply to its frames
abbrev pub stream_line : ℕ → List ℕ → List ℕ
stream_line stream digest = codes "stream " ++ word (decimal stream) ++ digest ++ 10 ∷ []

-- replies, parted by commas: 44 is one
abbrev pub replies_text : List Reply → List ℕ
replies_text replies = join_with_byte 44 (map reply_text replies)

-- what the commands of the control stream are answered
abbrev pub control_line : List Reply → List ℕ
control_line replies = codes "control " ++ replies_text replies ++ 10 ∷ []

-- the modes of the replicas, from the first on
abbrev pub modes_line : List Mode → List ℕ
modes_line modes = codes "modes " ++ modes_text modes ++ 10 ∷ []

-- the digest of what the volume reads as
abbrev pub disk_line : List ℕ → List ℕ
disk_line digest = codes "disk " ++ digest ++ 10 ∷ []

-- a line for each stream of frames, whose replies are these bytes, one behind another; the first is this stream
abbrev pub stream_lines : ℕ → List (List ℕ) → List ℕ
stream_lines stream [] = []
stream_lines stream (replies ∷ more) = stream_line stream (digest_text replies) ++ stream_lines (suc stream) more

-- the chain and the disk of the volume, if some replica is read and written
abbrev pub volume_lines : Option Volume → List ℕ
volume_lines None = []
volume_lines (Some volume) = chain_line None (chain_of volume.snapshots) ++ disk_line (digest_text volume.disk)

-- the whole summary: for each stream of frames the bytes of its replies, the replies to the commands, and what the run leaves
abbrev pub summary_of : List (List ℕ) → List Reply → List Mode → Option Volume → List ℕ
summary_of replies commands modes volume = stream_lines 0 replies ++ control_line commands ++ modes_line modes
    ++ volume_lines volume

-- ---- the summary of a journal

-- the frame that replies to a frame with this header, as bytes
abbrev pub replying_frame : Head → Answer → List ℕ
replying_frame asked a = reply_frame asked a.call a.reply

-- the frames that reply to frames with these headers, each with its answer, as bytes, one behind another
abbrev pub replying_frames : List Head → List (ℕ × Answer) → List ℕ
replying_frames heads answers = flat_map (λ p. replying_frame p.0 p.1.1) (zip heads answers)

-- those of each stream of frames, from this stream on
abbrev pub frames_from : ℕ → List (List Head) → List Entry → List (List ℕ)
frames_from stream [] journal = []
frames_from stream (hs ∷ rest) journal = replying_frames hs (answers_of stream journal) ∷ frames_from (suc stream) rest journal

-- the volume, if some replica is read and written
abbrev pub volume_if_read : List Mode → Volume → Option Volume
volume_if_read modes volume = option_map (λ source. volume) (source_of modes)

-- the whole summary of a journal, for streams whose frames have these headers: the next one is the control stream
abbrev pub summary_in : List (List Head) → Spot → List Entry → List ℕ
summary_in streams opening journal =
    let modes = modes_after opening.modes journal in
    summary_of (frames_from 0 streams journal) (replies_of (length streams) journal) modes
    (volume_if_read modes (replay opening.state journal).volume)
