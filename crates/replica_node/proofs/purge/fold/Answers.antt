use Rattle.std.proofs.Common.{ap, ◌∙◌}
use Rattle.replica_node.specs.Volume.{volume_of_node}
use Rattle.replica_node.proofs.PurgeLemmas.{folded_volume, folded_head}
use Rattle.replica_node.proofs.purge.fold.Goals as goal

pub returns-clause-volume : goal.returns-clause-volume
returns-clause-volume c =
    ap volume_of_node c.fold.ensures
    ∙ folded_volume c.args.node.now c.args.parent.now c.args.child.now c.layer_count-layers.ensures.once c.requires

pub returns-clause-head : goal.returns-clause-head
returns-clause-head c = folded_head c.args.node.now c.fold.new.self c.args.parent.now c.args.child.now c.fold.ensures
