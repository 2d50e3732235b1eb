use Rattle.std.proofs.Common.{sym, subst}
use Rattle.layer_chain.specs.Tree.{Tree}
use Rattle.snapshot_ops.specs.Ops.{Marks}
use Rattle.snapshot_ops.proofs.OpsLemmas.{marks, not_there}
use Rattle.snapshot_ops.proofs.ops.mark.Goals as goal

pub returns-in-Some : goal.returns-in-Some
returns-in-Some c =
    subst (λ (new : Tree). Marks c.args.tree.now new c.args.name.now) (sym c.mark_layer.ensures)
    (marks c.args.tree.now c.args.name.now c.in-Some.place c.in-Some.ensures.place)

pub returns-in_default : goal.returns-in_default
returns-in_default c = absurd (not_there c.args.tree.now c.args.name.now c.in_default.ensures.place c.requires)
