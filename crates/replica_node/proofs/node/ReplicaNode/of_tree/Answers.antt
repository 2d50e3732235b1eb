use Rattle.std.proofs.Common.{◌/◌, arith}
use Rattle.replica_node.proofs.PlaceLemmas.{sized_node, built}
use Rattle.replica_node.proofs.node.ReplicaNode.of_tree.Goals as goal

pub invariant_of-result : goal.invariant_of-result
invariant_of-result c =
    sized_node c.args.tree (c.args.size / 4096) c.requires c.learn_images.ensures.head c.learn_images.ensures.layers

pub returns-clause-built : goal.returns-clause-built
returns-clause-built c =
    built c.args.tree (c.args.size / 4096) c.args.size (invariant_of-result c) c.count-count.ensures.whole
    (omega (arith, c.block_count-blocks.ensures))
