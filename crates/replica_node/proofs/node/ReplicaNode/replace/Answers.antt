use Rattle.std.proofs.Common.{◌/◌}
use Rattle.replica_node.proofs.GoneLemmas.{has_no_block, replace_is}
use Rattle.replica_node.proofs.TreeOf.{can_fold}
use Rattle.replica_node.proofs.node.ReplicaNode.replace.Goals as goal

pub replace-requires-clause-can : goal.replace-requires-clause-can
replace-requires-clause-can c =
    can_fold c.self.inside.tree (c.self.inside.size / 4096) c.args.self.now c.args.parent.now c.args.child.now c.self.view_is c.requires.can

pub replace-requires-clause-empty : goal.replace-requires-clause-empty
replace-requires-clause-empty c =
    has_no_block c.self.inside.tree (c.self.inside.size / 4096) c.args.self.now c.args.child.now c.self.view_is c.self.invariant
    c.count-count.ensures.whole c.requires.empty

pub invariant_of-self : goal.invariant_of-self
invariant_of-self c =
    let r = c.replace.ensures in
    (replace_is c.self.inside.tree c.replace.new.tree (c.self.inside.size / 4096) c.args.self.now c.args.parent.now c.args.child.now
    c.self.view_is c.self.invariant c.count-count.ensures.whole c.requires.can r.replaces r.rest r.readings).0

pub returns : goal.returns
returns c =
    let r = c.replace.ensures in
    (replace_is c.self.inside.tree c.replace.new.tree (c.self.inside.size / 4096) c.args.self.now c.args.parent.now c.args.child.now
    c.self.view_is c.self.invariant c.count-count.ensures.whole c.requires.can r.replaces r.rest r.readings).1
