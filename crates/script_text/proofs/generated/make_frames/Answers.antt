use Rattle.std.proofs.Common.{◌≡◌, ◌∙◌, ◌+◌, [], replicate, sym, ap, subst, arith}
use Rattle.frame_stream.specs.declared.frame.Frame.{Frame}
use Rattle.frame_stream.specs.Frames.{BeginWithCalls}
use Rattle.script_text.specs.Generated.{frame_in, drawn_behind, frames_of}
use Rattle.script_text.proofs.GeneratedGood.{calls_of_page, length-frames_of}
use Rattle.script_text.proofs.GeneratedLemmas.{next_made, all_made}
use Rattle.script_text.proofs.KeptLemmas.{kept_calls}
use Rattle.script_text.proofs.generated.make_frames.Goals as goal

pub loop-index-preserved : goal.loop-index-preserved
loop-index-preserved c =
    let page = c.args.page in
    let index = c.loop-index.index in
    let x = c.loop-index.generator.state in
    let head = c.head_in-head.result in
    let frame : Frame = record { head = head; body = replicate head.len c.draw_frame-drawn.result.byte } in
    let drawn : frame_in page (index + 1) (drawn_behind x) ≡ frame =
    ap (frame_in page (index + 1)) (sym c.draw_frame-drawn.ensures.drawn) ∙ c.head_in-head.ensures in
    let next = next_made c.loop-index.bytes.items page index c.args.calls x frame (frames_of c.args.number c.args.calls page)
    c.loop-index-test.true c.loop-index.invariant drawn in
    rw (c.in_ok-append_frame.ensures, c.draw_frame-drawn.ensures.state) next

pub of-requires : goal.of-requires
of-requires c =
    let whole = frames_of c.args.number c.args.calls c.args.page in
    let made = all_made c.loop-index.bytes.items c.args.page _ c.loop-index.generator.state _ whole (omega arith)
    c.loop-index.invariant (calls_of_page c.args.number c.args.calls c.args.page c.requires.page c.requires.calls) in
    (kept_calls c.args.calls whole _ [] (subst (λ b. BeginWithCalls b whole []) (sym c.in_ok-from_vec.ensures.ok) made)
    (sym (length-frames_of c.args.number c.args.calls c.args.page))).0

pub returns : goal.returns
returns c =
    let whole = frames_of c.args.number c.args.calls c.args.page in
    let made = all_made c.loop-index.bytes.items c.args.page _ c.loop-index.generator.state _ whole (omega arith)
    c.loop-index.invariant (calls_of_page c.args.number c.args.calls c.args.page c.requires.page c.requires.calls) in
    c.of.ensures ∙ (kept_calls c.args.calls whole _ [] (subst (λ b. BeginWithCalls b whole []) (sym c.in_ok-from_vec.ensures.ok) made)
    (sym (length-frames_of c.args.number c.args.calls c.args.page))).1
