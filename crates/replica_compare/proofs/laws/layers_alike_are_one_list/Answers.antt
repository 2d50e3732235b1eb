use Rattle.replica_compare.proofs.OrderLemmas.{one_tree}
use Rattle.replica_compare.proofs.laws.layers_alike_are_one_list.Goals as goal

pub returns : goal.returns
returns c =
    one_tree c.args.one.now c.args.other.now c.layer_count-count.ensures.once c.layer_count-count-2.ensures.once
    c.requires.one c.requires.other c.requires.alike
