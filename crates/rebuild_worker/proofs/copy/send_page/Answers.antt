use Rattle.std.proofs.Common.{refl}
use Rattle.rebuild_worker.proofs.CopyLemmas.{sent}
use Rattle.rebuild_worker.proofs.copy.send_page.Goals as goal

pub returns-clause-sends : goal.returns-clause-sends
returns-clause-sends g c = λ e.
    let first = rw c.in-Whole.is at c.in_ok-ended.ensures.ok in
    let second = rw e at c.carry-2.ensures.ok in
    sent c.args.page.now c.args.frame.now _ _ _ _ _ _ _ _ c.send_head.result c.done_head.result _ first.0
    c.put_page.ensures.quiet.target second.0
    c.put_header.ensures.spelled c.send_head.ensures.value c.encode_header-reply.ensures c.done_head.ensures.value
    c.done_head.ensures.fits refl
