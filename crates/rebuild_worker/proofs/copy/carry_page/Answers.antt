use Rattle.std.proofs.Common.{ap, ◌∙◌, Ok}
use Rattle.rebuild_worker.proofs.CopyLemmas.{sends_later, takes_still}
use Rattle.rebuild_worker.proofs.copy.carry_page.Goals as goal

pub returns-clause-takes : goal.returns-clause-takes
returns-clause-takes g c = λ e.
    let first = (g.C.CopySteps.copying c.args.steps.now).source in
    let taken = (g.C.CopySteps.copying c.take_page.new.steps).source in
    let checked = (g.C.CopySteps.copying c.ended.new.self).source in
    let last = (g.C.CopySteps.copying c.send_page.new.steps).source in
    let takes = c.take_page.ensures.takes (c.in_ok-ended.was ∙ ap Ok c.in-Whole.is) in
    takes_still c.args.page.now _ first checked last
    (takes_still c.args.page.now _ first taken checked takes c.ended.ensures.quiet.source.told) (c.send_page.ensures.quiet e)

pub returns-clause-sends : goal.returns-clause-sends
returns-clause-sends g c = λ e.
    let first = (g.C.CopySteps.copying c.args.steps.now).target in
    let taken = (g.C.CopySteps.copying c.take_page.new.steps).target in
    let checked = (g.C.CopySteps.copying c.ended.new.self).target in
    let last = (g.C.CopySteps.copying c.send_page.new.steps).target in
    let whole = c.in_ok-ended.was ∙ ap Ok c.in-Whole.is in
    let text = c.take_page.ensures.text whole in
    let sends = rw text at (c.send_page.ensures.sends e) in
    sends_later c.args.page.now _ first taken last (c.take_page.ensures.quiet whole)
    (sends_later c.args.page.now _ taken checked last c.ended.ensures.quiet.target.told sends)
