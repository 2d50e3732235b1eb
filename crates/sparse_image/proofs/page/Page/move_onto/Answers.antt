use Rattle.std.proofs.Common.{ap, sym, ◌∙◌}
use Rattle.sparse_image.specs.Image.{page_over}
use Rattle.sparse_image.proofs.TableLemmas.{page_over-unmade}
use Rattle.sparse_image.proofs.page.Page.move_onto.Goals as goal

pub returns-then-not-is_made-2-clause-under : goal.returns-then-not-is_made-2-clause-under
returns-then-not-is_made-2-clause-under c =
    c.swap.ensures.y_after
    ∙ sym (page_over-unmade c.args.self.now)
    ∙ ap (page_over c.args.self.now) (sym (c.is_made-2.ensures.unmade c.if-not-is_made-2.true))
