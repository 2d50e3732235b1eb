-- The requests and replies are those that a line is to carry.
use Rattle.std.proofs.Common.{◌≡◌, ℕ, ◌+◌, ◌-◌, ◌^◌, ◌<◌, ◌≤◌, ℤ, arith, List, [], ◌++◌, length, drop, length-drop}
use Rattle.std.proofs.Common.{length-append, subst, refl, sym, ap, ◌∙◌, append_assoc, append-nil}
use Rattle.std.specs.Prelude.{codes}
use Rattle.std.proofs.lemmas.List.{drop-append-le}
use Rattle.frame_wire.specs.declared.head.Head.{Head}
use Rattle.frame_wire.specs.Spelling.{header, frame, IsHead, IsFrame}
use Rattle.rebuild_worker.specs.Copying.{numbered}
use Rattle.client_worker.proofs.Told.{header_alone, is_framed}
use Rattle.step_answers.specs.declared.whole_op.WholeOp.{WholeOp}
use Rattle.step_answers.specs.declared.whole_op.WholeOp.TheVariants as whole
use Rattle.client_worker.specs.Frames.{read_reply, read_reply_head}
use Rattle.control_worker.specs.Frames.{page_head, page_request, ask_head, ask_request, done_head, done_reply}
use Rattle.control_worker.specs.Frames.{pair_text, part_text, AsksBy, IsPartText}

-- a request's header is put before its text
pub asks_now : (seq : ℕ) (offset : ℤ) (text before request : List ℕ) (h : Head) → AsksBy text before
    → h ≡ ask_head seq offset (length before - 26) → request ≡ frame h (drop 26 before)
    → request ≡ ask_request seq offset text
asks_now seq offset text before request h asks is made =
    let count : length before - 26 ≡ length text = sym (length-drop 26 before) ∙ ap length asks.tells in
    made ∙ (λ i. frame (is i) (asks.tells i)) ∙ (λ i. frame (ask_head seq offset (count i)) text)

pub replies_now : (seq : ℕ) (offset : ℤ) (reply : List ℕ) (h : Head) → h ≡ done_head seq offset → reply ≡ header h
    → reply ≡ done_reply seq offset
replies_now seq offset reply h is made = made ∙ ap header is ∙ header_alone (done_head seq offset)

-- with its header put before its text it is a whole frame
pub request_whole : (h : Head) (before request : List ℕ) → IsHead h → h.len ≡ length before - 26
    → request ≡ frame h (drop 26 before) → IsFrame request
request_whole h before request fits len made =
    is_framed h (drop 26 before) request fits (length-drop 26 before ∙ sym len) made

-- with another number it is a whole frame still
pub whole_numbered : (seq : ℕ) (before after : List ℕ) → seq < 2 ^ 32 → IsFrame before
    → ((h : Head) (body : List ℕ) → before ≡ frame h body → after ≡ frame (numbered seq h) body) → IsFrame after
whole_numbered seq before after few whole spelled =
    let f = whole.fits in
    is_framed (numbered seq whole.head) whole.body after
    (record { seq = few; kind = f.kind; offset = f.offset; size = f.size; len = f.len }) whole.long
    (spelled whole.head whole.body whole.spelled)

-- the text of each operation, with no name of a barrier's snapshot
pub part_is_text : (op : WholeOp) → IsPartText op (part_text op)
part_is_text (whole.Snapshot name) = refl
part_is_text (whole.Remove name) = refl
part_is_text (whole.Revert name) = refl
part_is_text (whole.Purge f) = refl
part_is_text (whole.Barrier r) = ([], sym (append-nil (codes "snapshot ")))

pub barrier_is_text : (op : WholeOp) (r : ℕ) (name : List ℕ) → op ≡ whole.Barrier r → IsPartText op (codes "snapshot " ++ name)
barrier_is_text op r name e = subst (λ x. IsPartText x (codes "snapshot " ++ name)) (sym e) (name, refl)

-- a space and a second name behind the first
pub pair_asks : (word first second before request : List ℕ) → AsksBy (word ++ first) before
    → length before ≡ 26 + (length word + length first) → length word ≤ 8 → length first ≤ 64 → length second ≤ 64
    → request ≡ (before ++ codes " ") ++ second → AsksBy (word ++ pair_text first second) request
pair_asks word first second before request asks long few_word few_first few_second is =
    let made : request ≡ before ++ (codes " " ++ second) = is ∙ append_assoc before (codes " ") second in
    let all : length request ≡ length before + length (codes " " ++ second) = ap length made ∙ length-append before (codes " " ++ second) in
    let count : length request ≡ length before + (1 + length second) = omega (arith, all, length-append (codes " ") second) in
    record {
      is = record { header = omega (arith, count, asks.is.header); few = omega (arith, count, long, few_word, few_first, few_second) };
      tells = ap (drop 26) made ∙ drop-append-le 26 before (codes " " ++ second) asks.is.header
          ∙ ap (λ t. t ++ (codes " " ++ second)) asks.tells
          ∙ append_assoc word first (codes " " ++ second);
    }

-- the header of a page's request is put before the name
pub page_request_is : (offset : ℤ) (name before request : List ℕ) (h : Head) → drop 26 before ≡ name
    → h ≡ page_head 0 offset 2097152 (length name) → request ≡ frame h (drop 26 before) → request ≡ page_request 0 offset name
page_request_is offset name before request h tells is made = made ∙ (λ i. frame (is i) (tells i))

-- and that of a page's reply before the page
pub page_reply_is : (offset : ℤ) (page before reply : List ℕ) (h : Head) → drop 26 before ≡ page
    → h ≡ read_reply_head 0 offset (length page) → reply ≡ frame h (drop 26 before) → reply ≡ read_reply 0 offset page
page_reply_is offset page before reply h tells is made = made ∙ (λ i. frame (is i) (tells i))

-- each is a whole frame
pub page_whole : (h : Head) (bytes before made : List ℕ) → drop 26 before ≡ bytes → IsHead h → h.len ≡ length bytes
    → made ≡ frame h (drop 26 before) → IsFrame made
page_whole h bytes before made tells fits len is = is_framed h (drop 26 before) made fits (ap length tells ∙ sym len) is
