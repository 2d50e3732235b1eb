use Rattle.std.proofs.Common.{rules, ◌≡◌, ◌∙◌, drop, ap}
use Rattle.std.proofs.lemmas.List.{with_items_is, places}
use Rattle.control_worker.proofs.FrameLemmas.{page_request_is, page_whole}
use Rattle.control_worker.proofs.frames.fill_page_request.Goals as goal

pub returns-clause-frame : goal.returns-clause-frame
returns-clause-frame c =
    let name = c.args.snapshot.now in
    let before = c.deref_mut.result.now in
    let tells : drop 26 before ≡ name =
    ap (drop 26) c.deref_mut.ensures.value ∙ c.in_ok-make_room.ensures.tells ∙ c.bytes_of-name.ensures.value in
    with_items_is c.make_room.new.frame c.put_header.new.bytes (search (rules, places))
    ∙ page_request_is c.args.offset name before c.put_header.new.bytes c.page_head.result tells (search rules)
    c.put_header.ensures

pub returns-clause-whole : goal.returns-clause-whole
returns-clause-whole c =
    let name = c.args.snapshot.now in
    let before = c.deref_mut.result.now in
    let tells : drop 26 before ≡ name =
    ap (drop 26) c.deref_mut.ensures.value ∙ c.in_ok-make_room.ensures.tells ∙ c.bytes_of-name.ensures.value in
    page_whole c.page_head.result name before _ tells c.page_head.ensures.fits (search rules)
    (with_items_is c.make_room.new.frame c.put_header.new.bytes (search (rules, places)) ∙ c.put_header.ensures)
