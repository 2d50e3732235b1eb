use Rattle.std.proofs.Common.{refl}
use Rattle.rebuild_worker.proofs.CopyLemmas.{taken, text_stays}
use Rattle.rebuild_worker.proofs.copy.take_page.Goals as goal

pub returns-clause-takes : goal.returns-clause-takes
returns-clause-takes g c = λ e.
    let first = rw c.in-Whole.is at c.in_ok-ended.ensures.ok in
    let second = rw e at c.carry-2.ensures.ok in
    taken c.args.page.now c.args.frame.now _ _ _ _ _ _ _ c.give_head.result _ first.0 second.0 c.requires.asks.0
    c.put_header.ensures.spelled c.give_head.ensures.value c.give_head.ensures.fits refl

pub returns-clause-text : goal.returns-clause-text
returns-clause-text g c = λ e.
    let second = rw e at c.carry-2.ensures.ok in
    text_stays c.args.page.now c.args.frame.now _ _ _ _ c.give_head.result second.0 c.put_header.ensures.spelled
