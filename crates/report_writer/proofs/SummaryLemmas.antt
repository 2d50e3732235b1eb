-- How the lines of a summary are printed from left to right.
use Rattle.std.proofs.Common.{◌≡◌, ℕ, suc, ◌+◌, ◌<◌, ◌≤◌, List, [], ◌∷◌, ◌++◌, length, map, get_or, drop, sym, ap, ◌∙◌}
use Rattle.std.proofs.Common.{append_assoc, append-nil, add-one, drop-cons}
use Rattle.std.proofs.Math.ListN.{drop_of_length-le}
use Rattle.frame_wire.specs.declared.head.Head.{Head}
use Rattle.volume_model.specs.declared.call.Reply.{Reply}
use Rattle.volume_model.specs.declared.entry.Answer.{Answer}
use Rattle.volume_model.specs.declared.entry.Entry.{Entry}
use Rattle.volume_model.specs.declared.entry.Entry.TheVariants as entry
use Rattle.volume_model.specs.History.{answers_from, answers_of}
use Rattle.volume_model.specs.Marks.{IsMark}
use Rattle.digest.specs.Digest.{digest_text}
use Rattle.run_report.specs.Summary.{stream_line, stream_lines, replying_frames, frames_from}
use Rattle.run_report.proofs.ReportLemmas.{answers-own, answers-other, answers-mark}

-- ---- the streams

-- the lines of the streams from this one on
abbrev pub lines_from : ℕ → List (List Head) → List Entry → List ℕ
lines_from stream streams entries = stream_lines stream (frames_from stream (drop stream streams) entries)

-- the line of the next stream, and those of the streams behind it
pub next_stream_line : (into whole : List ℕ) (stream : ℕ) (streams : List (List Head)) (entries : List Entry) (hs : List Head)
    → stream < length streams → get_or streams stream hs ≡ hs → into ++ lines_from stream streams entries ≡ whole
    → (into ++ stream_line stream (digest_text (replying_frames hs (answers_of stream entries)))) ++ lines_from (stream + 1) streams entries
    ≡ whole
next_stream_line into whole stream streams entries hs inside is text =
    let line = stream_line stream (digest_text (replying_frames hs (answers_of stream entries))) in
    let cut : drop stream streams ≡ hs ∷ drop (suc stream) streams = drop-cons streams stream hs inside
    ∙ ap (λ x. x ∷ drop (suc stream) streams) is in
    append_assoc into line _
    ∙ ap (λ n. into ++ (line ++ lines_from n streams entries)) (add-one stream)
    ∙ ap (λ l. into ++ stream_lines stream (frames_from stream l entries)) (sym cut) ∙ text

-- no stream is left
pub no_stream : (into whole : List ℕ) (stream : ℕ) (streams : List (List Head)) (entries : List Entry) → length streams ≤ stream
    → into ++ lines_from stream streams entries ≡ whole → into ≡ whole
no_stream into whole stream streams entries past text =
    sym (append-nil into)
    ∙ sym (ap (λ l. into ++ stream_lines stream (frames_from stream l entries)) (drop_of_length-le streams past)) ∙ text

-- ---- the commands

-- the replies to a stream from an entry on
abbrev pub replies_left : ℕ → ℕ → List Entry → List Reply
replies_left stream place entries = map (λ p. p.1.reply) (answers_from stream place (drop place entries))

-- The entry answers a call of the stream,
pub one_more_reply : (had whole : List Reply) (stream place : ℕ) (entries : List Entry) (a : Answer) → place < length entries
    → get_or entries place (entry.Answer a) ≡ entry.Answer a → a.stream ≡ stream → had ++ replies_left stream place entries ≡ whole
    → (had ++ a.reply ∷ []) ++ replies_left stream (place + 1) entries ≡ whole
one_more_reply had whole stream place entries a inside is own all =
    append_assoc had (a.reply ∷ []) _
    ∙ ap (λ (ps : List (ℕ × Answer)). had ++ map (λ p. p.1.reply) ps) (sym (answers-own stream place entries a inside is own)) ∙ all

-- or a call of another stream,
pub reply_of_other : (had whole : List Reply) (stream place : ℕ) (entries : List Entry) (a : Answer) → place < length entries
    → get_or entries place (entry.Answer a) ≡ entry.Answer a → (a.stream ≡ stream → ⊥) → had ++ replies_left stream place entries ≡ whole
    → had ++ replies_left stream (place + 1) entries ≡ whole
reply_of_other had whole stream place entries a inside is other all =
    ap (λ (ps : List (ℕ × Answer)). had ++ map (λ p. p.1.reply) ps) (sym (answers-other stream place entries a inside is other)) ∙ all

-- or it is a mark.
pub reply_of_mark : (had whole : List Reply) (stream place : ℕ) (entries : List Entry) (e : Entry) → place < length entries
    → get_or entries place e ≡ e → IsMark e → had ++ replies_left stream place entries ≡ whole
    → had ++ replies_left stream (place + 1) entries ≡ whole
reply_of_mark had whole stream place entries e inside is mark all =
    ap (λ (ps : List (ℕ × Answer)). had ++ map (λ p. p.1.reply) ps) (sym (answers-mark stream place entries e inside is mark)) ∙ all

-- no entry is left
pub all_replies : (had whole : List Reply) (stream place : ℕ) (entries : List Entry) → length entries ≤ place
    → had ++ replies_left stream place entries ≡ whole → had ≡ whole
all_replies had whole stream place entries past all =
    sym (append-nil had)
    ∙ sym (ap (λ es. had ++ map (λ p. p.1.reply) (answers_from stream place es)) (drop_of_length-le entries past)) ∙ all

-- ---- the whole

-- four parts, one behind the other
pub three_parts : (o a b c p q r : List ℕ) → o ≡ [] → a ≡ o ++ p → b ≡ a ++ q → c ≡ b ++ r → c ≡ (p ++ q) ++ r
three_parts o a b c p q r eo ea eb ec = ec ∙ ap (λ l. l ++ r) (eb ∙ ap (λ l. l ++ q) (ea ∙ ap (λ l. l ++ p) eo))

-- what was put behind nothing is all
pub text_of : (none all text : List ℕ) → none ≡ [] → all ≡ none ++ text → all ≡ text
text_of none all text empty put = put ∙ ap (λ l. l ++ text) empty
