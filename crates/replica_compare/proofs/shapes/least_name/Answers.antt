use Rattle.std.proofs.Common.{◌-◌, refl, subst}
use Rattle.replica_compare.specs.Comparing.{ShapeDiffers}
use Rattle.replica_compare.specs.Least.{IsLesser}
use Rattle.replica_compare.proofs.ShapeLemmas.{least_step}
use Rattle.replica_compare.proofs.shapes.least_name.Goals as goal

pub loop-done-preserved : goal.loop-done-preserved
loop-done-preserved c =
    let differs = ShapeDiffers c.args.one.now c.args.other.now in
    let count = c.layer_count-count.result - 1 in
    least_step differs c.args.from.now.layers count c.loop-done.done (count - 1 - c.loop-done.done) c.args.first c.loop-done.best
    c.lesser_name-best.result c.loop-done-test.true refl
    (subst (λ m. IsLesser differs m.name c.loop-done.best c.lesser_name-best.result) c.meta.ensures c.lesser_name-best.ensures)
    c.loop-done.invariant
