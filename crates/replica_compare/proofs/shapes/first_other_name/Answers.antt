use Rattle.replica_compare.proofs.ShapeLemmas.{first_name}
use Rattle.replica_compare.proofs.shapes.first_other_name.Goals as goal

pub returns : goal.returns
returns c =
    first_name c.args.one.now c.args.other.now c.least_name-best.result c.least_name.result
    c.least_name-best.ensures c.least_name.ensures
