use Rattle.std.proofs.Common.{◌∙◌, sym}
use Rattle.replica_compare.specs.Comparing.{ShapeDiffers}
use Rattle.replica_compare.specs.Least.{Stays, Falls}
use Rattle.replica_compare.proofs.ShapeLemmas.{stays}
use Rattle.replica_compare.proofs.shapes.lesser_name.Goals as goal

pub returns-then-not-comes_before : goal.returns-then-not-comes_before
returns-then-not-comes_before c = Stays (λ d. sym c.comes_before.ensures ∙ c.if-not-comes_before.true)

pub returns-then-not-shape_differs : goal.returns-then-not-shape_differs
returns-then-not-shape_differs c =
    stays (ShapeDiffers c.args.one.now c.args.other.now) c.args.name c.args.best
    c.shape_differs.result c.shape_differs.ensures.1 c.if-not-shape_differs.true

pub returns : goal.returns
returns c = Falls (sym c.comes_before.ensures ∙ c.if-not-comes_before.false)
    (c.shape_differs.ensures.0 c.if-not-shape_differs.false)
