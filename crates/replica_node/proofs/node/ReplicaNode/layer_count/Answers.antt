use Rattle.std.proofs.Common.{◌/◌}
use Rattle.replica_node.proofs.TreeOf.{tree_once}
use Rattle.replica_node.proofs.node.ReplicaNode.layer_count.Goals as goal

pub returns-clause-once : goal.returns-clause-once
returns-clause-once c =
    tree_once c.self.inside.tree (c.self.inside.size / 4096) c.args.self.now c.self.view_is c.count.ensures.whole
