use Rattle.std.proofs.Common.{◌/◌, refl, ◌∙◌, arith}
use Rattle.replica_node.proofs.NodeLemmas.{blank_sized, blank_node}
use Rattle.replica_node.proofs.node.ReplicaNode.blank.Goals as goal

pub of_tree-requires : goal.of_tree-requires
of_tree-requires c =
    let b = c.in_ok-tree.ensures in
    blank_sized c.in_ok-tree.tree c.page_count.result (c.args.size / 4096) b.layers b.head (omega (arith, c.page_count.ensures))

pub returns : goal.returns
returns c =
    let b = c.in_ok-tree.ensures in
    c.of_tree.ensures.node
    ∙ blank_node c.in_ok-tree.tree c.page_count.result (c.args.size / 4096) c.args.size b.layers b.head b.on b.number
    (omega (arith, c.page_count.ensures)) refl (omega (arith, c.page_count.ensures))
