-- The lines that a run prints: one for a replica whose folder was opened, one for an entry of the journal, an answer or a
-- mark, one for the frame that replies to a frame, and those of a replica at the end. The form is this project's own.
use Rattle.std.specs.Prelude.{ℕ, List, [], ◌∷◌, ◌++◌, length, map, codes, Bool, if◌then◌else◌, Option, Some, None}
use Rattle.std.specs.List.{flat_map, join_with_byte}
use Rattle.std.specs.Fmt.{decimal, signed_decimal}
use Rattle.frame_wire.specs.declared.head.Head.{Head}
use Rattle.image_runs.specs.Runs.{runs_text}
use Rattle.volume_model.specs.Commands.{command_text}
use Rattle.volume_model.specs.declared.call.Call.{Call}
use Rattle.volume_model.specs.declared.call.Call.TheVariants as call
use Rattle.volume_model.specs.declared.call.Reply.{Reply}
use Rattle.volume_model.specs.declared.call.Reply.TheVariants as reply
use Rattle.volume_model.specs.declared.entry.Answer.{Answer}
use Rattle.volume_model.specs.declared.entry.Entry.{Entry}
use Rattle.volume_model.specs.declared.entry.Entry.TheVariants as entry
use Rattle.volume_model.specs.declared.mark.FoldOrDrop.{FoldOrDrop}
use Rattle.volume_model.specs.declared.mark.FoldOrDrop.TheVariants as part
use Rattle.volume_model.specs.declared.mark.Mark.{Mark}
use Rattle.volume_model.specs.declared.mark.Mark.TheVariants as mark
use Rattle.volume_model.specs.declared.mode.Mode.{Mode}
use Rattle.volume_model.specs.declared.mode.Mode.TheVariants as mode
use Rattle.frame_stream.specs.Replies.{error_text, reply_kind, reply_body, reply_size}
use Rattle.run_report.specs.declared.reason.Reason.{Reason}
use Rattle.run_report.specs.declared.reason.Reason.TheVariants as reason

-- a word of a line, and the space behind it
abbrev pub word : List ℕ → List ℕ
word text = text ++ 32 ∷ []

-- a replica
abbrev pub replica_text : ℕ → List ℕ
replica_text r = codes "r" ++ decimal r

-- a mode, in longhorn-engine's words
abbrev pub mode_text : Mode → List ℕ
mode_text mode.Rw = codes "RW"
mode_text mode.Wo = codes "WO"
mode_text mode.Err = codes "ERR"

-- modes, parted by commas: 44 is one
abbrev pub modes_text : List Mode → List ℕ
modes_text modes = join_with_byte 44 (map mode_text modes)

-- a layer: by its name, and the head where it is none
abbrev pub layer_text : Option (List ℕ) → List ℕ
layer_text None = codes "head"
layer_text (Some name) = name

-- why a replica that was opened is not read: its folder is unclean by a flag, or damaged in a file at a place; or it
-- differs from the replica that is read, by the shape of a layer, or by what the layer reads as at a block
abbrev pub reason_text : Reason → List ℕ
reason_text (reason.Unclean flag) = codes "unclean " ++ flag.now
reason_text (reason.Damaged file place) = codes "damaged " ++ word file.now ++ decimal place
reason_text (reason.Shape layer) = codes "shape " ++ layer_text layer
reason_text (reason.Differs layer block) = codes "differs " ++ word (layer_text layer) ++ decimal block

-- the mode that a replica was opened in, with the text of the reason where it is not read
abbrev pub opened_text : Option (List ℕ) → List ℕ
opened_text None = mode_text mode.Rw
opened_text (Some why) = word (mode_text mode.Err) ++ why

-- how a replica was opened
abbrev pub opening_line : ℕ → Option (List ℕ) → List ℕ
opening_line r why = codes "open " ++ word (replica_text r) ++ opened_text why ++ 10 ∷ []

-- what is asked
abbrev pub call_text : Call → List ℕ
call_text (call.Read offset n) = codes "read " ++ word (signed_decimal offset) ++ decimal n
call_text (call.Write offset bytes) = codes "write " ++ word (signed_decimal offset) ++ word (decimal (length bytes)) ++ runs_text bytes
call_text call.Ping = codes "ping"
call_text (call.Other kind) = codes "other " ++ decimal kind
call_text (call.Command c) = command_text c

-- what is answered
abbrev pub reply_text : Reply → List ℕ
reply_text reply.Done = codes "ok"
reply_text (reply.Read bytes) = codes "ok " ++ runs_text bytes
reply_text (reply.Status layers modes) = codes "ok layers " ++ word (decimal layers) ++ codes "modes " ++ modes_text modes
reply_text r = codes "error " ++ error_text r

-- place, saw, stream and index
abbrev pub place_words : ℕ → Answer → List ℕ
place_words place a = word (decimal place) ++ word (decimal a.saw) ++ word (decimal a.stream) ++ word (decimal a.index)

-- the words of the place, then call and reply
abbrev pub answer_line : ℕ → Answer → List ℕ
answer_line place a = place_words place a ++ word (call_text a.call) ++ reply_text a.reply ++ 10 ∷ []

-- how a layer went: the one that went, and the one that took its blocks and its place
abbrev pub part_text : FoldOrDrop → List ℕ
part_text (part.Fold p c) = codes "folded " ++ word p ++ c
part_text (part.Drop p) = codes "dropped " ++ p

-- what a mark tells: of a fault the stream, the replica and the line's count; of a rebuild the replica, its source and
-- the snapshot that was taken
abbrev pub mark_text : Mark → List ℕ
mark_text (mark.Purged part) = part_text part
mark_text (mark.Fault stream r count) =
    codes "fault " ++ word (decimal stream) ++ word (replica_text r) ++ decimal count
mark_text (mark.Failed r) = codes "failed " ++ replica_text r
mark_text (mark.Added r source name) = codes "added " ++ word (replica_text r) ++ word (replica_text source) ++ name
mark_text (mark.Promoted r) = codes "promoted " ++ replica_text r
mark_text (mark.Aborted r) = codes "aborted " ++ replica_text r

-- the place, and what the mark tells
abbrev pub mark_line : ℕ → Mark → List ℕ
mark_line place m = word (decimal place) ++ codes "mark " ++ mark_text m ++ 10 ∷ []

-- the line of an entry at a place
abbrev pub entry_line : ℕ → Entry → List ℕ
entry_line place (entry.Answer a) = answer_line place a
entry_line place (entry.Mark m) = mark_line place m

-- the header of the frame that replies: seq and offset of the frame that asked, its own type and size
abbrev pub header_words : Head → Answer → List ℕ
header_words asked a = word (decimal asked.seq) ++ word (decimal (reply_kind a.reply)) ++ word (signed_decimal asked.offset)
    ++ word (decimal (reply_size a.call a.reply))

-- stream, index, and the frame that replies
abbrev pub reply_line : Head → Answer → List ℕ
reply_line asked a = codes "reply " ++ word (decimal a.stream) ++ word (decimal a.index) ++ header_words asked a
    ++ runs_text (reply_body a.reply) ++ 10 ∷ []

-- a replica's mode
abbrev pub mode_line : ℕ → Mode → List ℕ
mode_line r m = codes "mode " ++ word (replica_text r) ++ mode_text m ++ 10 ∷ []

-- the name of a layer below the head, and a star where the layer is marked
abbrev pub layer_word : List ℕ × Bool → List ℕ
layer_word layer = 32 ∷ layer.0 ++ (if layer.1 then codes "*" else [])

-- of which replica a chain is, where that is said
abbrev pub chain_owner : Option ℕ → List ℕ
chain_owner None = []
chain_owner (Some r) = word (replica_text r)

-- a chain: the head, and the layers below it from its parent down
abbrev pub chain_line : Option ℕ → List (List ℕ × Bool) → List ℕ
chain_line r layers = codes "chain " ++ chain_owner r ++ codes "head" ++ flat_map layer_word layers ++ 10 ∷ []

-- the digest of a replica's head
abbrev pub head_line : ℕ → List ℕ → List ℕ
head_line r digest = codes "head " ++ word (replica_text r) ++ digest ++ 10 ∷ []
