use Rattle.std.proofs.Common.{ap, ◌∙◌}
use Rattle.replica_node.specs.Volume.{volume_of_node}
use Rattle.replica_node.proofs.PurgeLemmas.{dropped_volume, dropped_head}
use Rattle.replica_node.proofs.purge.let_go.Goals as goal

pub returns-clause-volume : goal.returns-clause-volume
returns-clause-volume c =
    ap volume_of_node c.delete.ensures ∙ dropped_volume c.args.node.now c.args.name.now c.layer_count-layers.ensures.once c.requires

pub returns-clause-head : goal.returns-clause-head
returns-clause-head c = dropped_head c.args.node.now c.delete.new.self c.args.name.now c.delete.ensures
