use Rattle.std.proofs.Common.{◌/◌}
use Rattle.replica_node.proofs.TreeOf.{next_of_node}
use Rattle.replica_node.proofs.node.ReplicaNode.next_fold.Goals as goal

pub returns : goal.returns
returns c =
    next_of_node c.self.inside.tree (c.self.inside.size / 4096) c.args.self.now c.next_fold.result c.self.view_is c.next_fold.ensures
