use Rattle.std.proofs.Common.{◌/◌, ap, ◌∙◌, arith}
use Rattle.replica_node.specs.Held.{emptied}
use Rattle.replica_node.proofs.EmptiedNode.{emptied_node, emptied_sized}
use Rattle.replica_node.proofs.node.ReplicaNode.blank_like.Goals as goal

pub of_tree-requires : goal.of_tree-requires
of_tree-requires c =
    emptied_sized c.self.inside.tree c.in_ok-tree.tree c.page_count.result (c.self.inside.size / 4096) c.in_ok-tree.ensures
    (omega (arith, c.page_count.ensures)) c.self.invariant

pub returns : goal.returns
returns c =
    c.of_tree.ensures.node
    ∙ emptied_node c.self.inside.tree c.in_ok-tree.tree c.page_count.result (c.self.inside.size / 4096) c.in_ok-tree.ensures
    (omega (arith, c.page_count.ensures)) c.self.invariant
    ∙ ap emptied c.self.view_is
