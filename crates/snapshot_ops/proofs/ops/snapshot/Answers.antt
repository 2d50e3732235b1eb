use Rattle.std.proofs.Common.{sym, subst}
use Rattle.layer_chain.specs.Tree.{Tree}
use Rattle.snapshot_ops.specs.Ops.{TakesSnapshot}
use Rattle.snapshot_ops.proofs.OpsLemmas.{takes}
use Rattle.snapshot_ops.proofs.ops.snapshot.Goals as goal

pub returns-clause-readings : goal.returns-clause-readings
returns-clause-readings c = subst (λ (new : Tree). TakesSnapshot c.args.tree.now new c.args.name) (sym c.snap_head.ensures)
    (takes c.args.tree.now c.args.name c.is_users.result c.into_image.result c.is_users.ensures c.into_image.ensures.empty.blocks)
