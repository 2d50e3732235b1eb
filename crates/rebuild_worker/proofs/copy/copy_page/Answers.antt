use Rattle.std.proofs.Common.{◌∙◌}
use Rattle.rebuild_worker.proofs.CopyLemmas.{copies_page}
use Rattle.rebuild_worker.proofs.copy.copy_page.Goals as goal

pub returns-in-Text-clause-copied : goal.returns-in-Text-clause-copied
returns-in-Text-clause-copied g c = λ e.
    let reads = rw c.in-Text.is at c.in_ok-place.ensures.ok in
    let text = reads.3 in
    copies_page c.args.page.now (g.C.CopySteps.is_text c.carry_page.new.steps) text.0 c.clear_text.new.text.items
    c.deref_mut-in-Text.result.now
    (g.C.CopySteps.copying c.args.steps.now) (g.C.CopySteps.copying c.out.new.self) (g.C.CopySteps.copying c.carry_page.new.steps)
    text.2 (c.carry_page.ensures.keeps.texts _ _ text.3) c.clear_text.ensures.place (c.deref_mut-in-Text.ensures.value ∙ text.1)
    c.out.ensures.quiet (c.carry_page.ensures.takes e) (c.carry_page.ensures.sends e)
