use Rattle.std.proofs.Common.{◌/◌, ◌∙◌}
use Rattle.replica_node.proofs.ReadLemmas.{node_block}
use Rattle.replica_node.proofs.node.ReplicaNode.block.Goals as goal

pub returns-clause-disk : goal.returns-clause-disk
returns-clause-disk c =
    c.block_of.ensures.value
    ∙ node_block c.self.inside.tree (c.self.inside.size / 4096) c.args.self.now c.args.layer.now c.args.block c.self.view_is
    c.self.invariant c.requires.kept c.requires.inside
