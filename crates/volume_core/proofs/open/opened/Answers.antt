use Rattle.std.proofs.Common.{length, subst, sym}
use Rattle.volume_model.specs.Copies.{HasCopies}
use Rattle.replica_node.specs.Node.{Node}
use Rattle.replica_node.specs.Volume.{volume_of_node}
use Rattle.volume_core.proofs.Copies.{node_copies}
use Rattle.volume_core.proofs.open.opened.Goals as goal

pub returns-clause-copies : goal.returns-clause-copies
returns-clause-copies c =
    subst (λ (n : Node). HasCopies (length n.disk) (volume_of_node n)) (sym c.of-first.ensures)
    (node_copies c.index-node.result.now c.block_count-blocks.ensures.disks)
