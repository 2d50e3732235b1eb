use Rattle.std.proofs.Common.{◌/◌, arith}
use Rattle.replica_node.proofs.ReadLemmas.{length-node}
use Rattle.replica_node.proofs.node.ReplicaNode.page_count.Goals as goal

pub returns : goal.returns
returns c =
    let whole = length-node c.self.inside.tree (c.self.inside.size / 4096) c.args.self.now c.self.view_is c.self.invariant in
    omega (arith, whole, c.page_count.ensures)
