use Rattle.std.proofs.Common.{◌/◌}
use Rattle.replica_node.proofs.GoneLemmas.{drop_is}
use Rattle.replica_node.proofs.TreeOf.{can_drop}
use Rattle.replica_node.proofs.node.ReplicaNode.delete.Goals as goal

pub delete_leaf-requires : goal.delete_leaf-requires
delete_leaf-requires c =
    can_drop c.self.inside.tree (c.self.inside.size / 4096) c.args.self.now c.args.name.now c.self.view_is c.requires

pub invariant_of-self : goal.invariant_of-self
invariant_of-self c =
    let d = c.delete_leaf.ensures in
    (drop_is c.self.inside.tree c.delete_leaf.new.tree (c.self.inside.size / 4096) c.args.self.now c.args.name.now
    c.self.view_is c.self.invariant c.count-count.ensures.whole d.drops d.rest d.readings).0

pub returns : goal.returns
returns c =
    let d = c.delete_leaf.ensures in
    (drop_is c.self.inside.tree c.delete_leaf.new.tree (c.self.inside.size / 4096) c.args.self.now c.args.name.now
    c.self.view_is c.self.invariant c.count-count.ensures.whole d.drops d.rest d.readings).1
