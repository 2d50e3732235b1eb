use Rattle.std.proofs.Common.{◌≡◌, ◌∙◌, length, drop, refl, ap, arith, rules, length-drop}
use Rattle.frame_wire.specs.declared.head.Head.{Head}
use Rattle.client_worker.specs.Frames.{read_reply_head}
use Rattle.control_worker.proofs.FrameLemmas.{page_reply_is, page_whole}
use Rattle.control_worker.proofs.frames.put_page_head.Goals as goal

pub returns-clause-frame : goal.returns-clause-frame
returns-clause-frame c =
    let before = c.args.reply.now in
    let long : 2097152 ≡ length (drop 26 before) = omega (arith, length-drop 26 before, c.requires) in
    let head : c.page_reply_head.result ≡ read_reply_head 0 c.args.offset 2097152 = search rules in
    page_reply_is c.args.offset (drop 26 before) before c.put_header.new.bytes c.page_reply_head.result refl
    (head ∙ ap (read_reply_head 0 c.args.offset) long) c.put_header.ensures

pub returns-clause-whole : goal.returns-clause-whole
returns-clause-whole c =
    let before = c.args.reply.now in
    let long : 2097152 ≡ length (drop 26 before) = omega (arith, length-drop 26 before, c.requires) in
    page_whole c.page_reply_head.result (drop 26 before) before _ refl c.page_reply_head.ensures.fits
    (ap (λ (h : Head). h.len) c.page_reply_head.ensures.value ∙ long) c.put_header.ensures
