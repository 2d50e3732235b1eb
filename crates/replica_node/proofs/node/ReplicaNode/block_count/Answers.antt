use Rattle.std.proofs.Common.{◌≡◌, ◌/◌, length, subst, arith}
use Rattle.std.specs.Prelude.{All}
use Rattle.replica_node.specs.Node.{Kept, node_of}
use Rattle.replica_node.specs.Held.{IsChained}
use Rattle.replica_node.proofs.HeldLemmas.{chained}
use Rattle.replica_node.proofs.ReadLemmas.{length-node}
use Rattle.replica_node.proofs.TreeOf.{own_count, disk_count}
use Rattle.replica_node.proofs.node.ReplicaNode.block_count.Goals as goal

pub returns-clause-value : goal.returns-clause-value
returns-clause-value c =
    let whole = length-node c.self.inside.tree (c.self.inside.size / 4096) c.args.self.now c.self.view_is c.self.invariant in
    omega (arith, whole, c.block_count.ensures)

pub returns-clause-own : goal.returns-clause-own
returns-clause-own c =
    let count : c.self.inside.size / 4096 ≡ c.block_count.result = omega (arith, c.block_count.ensures) in
    subst (λ n. All (λ (k : Kept). length k.own ≡ n) c.args.self.now.layers) count
    (own_count c.self.inside.tree (c.self.inside.size / 4096) c.args.self.now c.self.view_is)

pub returns-clause-disks : goal.returns-clause-disks
returns-clause-disks c = disk_count c.self.inside.tree (c.self.inside.size / 4096) c.args.self.now c.self.view_is c.self.invariant

pub returns-clause-chained : goal.returns-clause-chained
returns-clause-chained c =
    let count : c.self.inside.size / 4096 ≡ c.block_count.result = omega (arith, c.block_count.ensures) in
    subst (λ n. IsChained n c.block_count.result) c.self.view_is
    (subst (λ m. IsChained (node_of c.self.inside.tree (c.self.inside.size / 4096)) m) count
    (chained c.self.inside.tree (c.self.inside.size / 4096) c.self.invariant c.count-count.ensures.whole))
