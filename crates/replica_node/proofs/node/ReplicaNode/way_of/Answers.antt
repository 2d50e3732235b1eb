use Rattle.std.proofs.Common.{◌/◌}
use Rattle.replica_node.proofs.TreeOf.{way_of_node}
use Rattle.replica_node.proofs.node.ReplicaNode.way_of.Goals as goal

pub returns : goal.returns
returns c =
    way_of_node c.self.inside.tree (c.self.inside.size / 4096) c.args.self.now c.args.name.now c.way_of.result
    c.self.view_is c.way_of.ensures
