use Rattle.std.proofs.Common.{◌/◌, arith}
use Rattle.replica_node.proofs.ReadLemmas.{length-node}
use Rattle.replica_node.proofs.node.ReplicaNode.size.Goals as goal

pub returns-clause-value : goal.returns-clause-value
returns-clause-value c =
    let whole = length-node c.self.inside.tree (c.self.inside.size / 4096) c.args.self.now c.self.view_is c.self.invariant in
    omega (arith, whole, c.bytes.ensures.value, c.bytes.ensures.size.whole)
