use Rattle.std.proofs.Common.{sym, ◌∙◌, arith}
use Rattle.sparse_image.proofs.ImageLemmas.{has_page-inside}
use Rattle.replica_node.proofs.own.has_block_of.Goals as goal

-- the page is made, so it is one of the image
pub overflow_mul-first : goal.overflow_mul-first
overflow_mul-first c =
    let inside = (has_page-inside c.args.image.now c.args.page (sym c.has_page.ensures ∙ c.if-not-has_page.false)).0 in
    omega (arith, inside, c.requires.few)

pub overflow_add-block-end : goal.overflow_add-block-end
overflow_add-block-end c =
    let inside = (has_page-inside c.args.image.now c.args.page (sym c.has_page.ensures ∙ c.if-not-has_page.false)).0 in
    omega (arith, inside, c.requires.few)
