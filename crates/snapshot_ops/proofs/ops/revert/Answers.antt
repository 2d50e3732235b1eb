use Rattle.std.proofs.Common.{sym, subst}
use Rattle.layer_chain.specs.Tree.{Tree}
use Rattle.snapshot_ops.specs.Ops.{Reverts}
use Rattle.snapshot_ops.proofs.OpsLemmas.{reverts}
use Rattle.snapshot_ops.proofs.ops.revert.Goals as goal

pub returns-clause-readings : goal.returns-clause-readings
returns-clause-readings c = subst (λ (new : Tree). Reverts c.args.tree.now new c.args.name) (sym c.move_head.ensures)
    (reverts c.args.tree.now c.args.name c.into_image.result c.into_image.ensures.empty.blocks)
