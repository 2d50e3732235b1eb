use Rattle.replica_compare.specs.Comparing.{shape_in}
use Rattle.replica_compare.proofs.ShapeLemmas.{differ_at}
use Rattle.replica_compare.proofs.shapes.shape_differs.Goals as goal

pub returns : goal.returns
returns c =
    differ_at c.ne.result c.shape_of.result c.shape_of-2.result (shape_in c.args.one.now.layers c.args.name.now)
    (shape_in c.args.other.now.layers c.args.name.now)
    c.ne.ensures c.shape_of.ensures c.shape_of-2.ensures
