use Rattle.std.proofs.Common.{◌≡◌, ℕ, ◌++◌, length, ap, ◌∙◌}
use Rattle.std.specs.Int.{w32, w64, to_le_bytes, cast_unsigned}
use Rattle.frame_wire.specs.declared.head.Head.{Head}
use Rattle.frame_wire.specs.Spelling.{magic, header}
use Rattle.packed_entries.specs.View.{answer_seen}
use Rattle.frame_stream.specs.Replies.{head_bytes, reply_kind, reply_size, reply_body}
use Rattle.run_report.proofs.reply_frame.header_of.Goals as goal

-- a header is spelled by the bytes of its fields
spelled_so : (h : Head) (kind size len : ℕ) → h.kind ≡ kind → to_le_bytes w32 h.size ≡ to_le_bytes w32 size
    → to_le_bytes w32 h.len ≡ to_le_bytes w32 len → header h ≡ header (record h { kind = kind; size = size; len = len })
spelled_so h kind size len k s l =
    ap (λ n. magic ++ (to_le_bytes w32 h.seq ++ (to_le_bytes w32 n ++ (to_le_bytes w64 (cast_unsigned w64 h.offset)
    ++ (to_le_bytes w32 h.size ++ to_le_bytes w32 h.len))))) k
    ∙ ap (λ bs. magic ++ (to_le_bytes w32 h.seq ++ (to_le_bytes w32 kind ++ (to_le_bytes w64 (cast_unsigned w64 h.offset)
    ++ (bs ++ to_le_bytes w32 h.len))))) s
    ∙ ap (λ bs. magic ++ (to_le_bytes w32 h.seq ++ (to_le_bytes w32 kind ++ (to_le_bytes w64 (cast_unsigned w64 h.offset)
    ++ (to_le_bytes w32 size ++ bs))))) l

pub returns : goal.returns
unfolding head_bytes
returns c =
    let answer = answer_seen c.args.answer.now in
    let made = record c.args.asked.now { kind = c.kind_of.result; size = c.in_header-size.result; len = c.in_header-len.result } in
    c.encode_header.ensures ∙ ap header c.head_behind.ensures
    ∙ spelled_so made (reply_kind answer.reply) (reply_size answer.call answer.reply) (length (reply_body answer.reply)) c.kind_of.ensures
    (c.in_header-size.ensures ∙ ap (to_le_bytes w32) c.size_of.ensures)
    (c.in_header-len.ensures ∙ ap (to_le_bytes w32) (c.len.ensures ∙ ap length c.requires))
