use Rattle.std.proofs.Common.{◌≡◌, refl, sym, subst, ◌∙◌}
use Rattle.std.proofs.lemmas.List.{get_or_default}
use Rattle.volume_model.specs.declared.mark.FoldOrDrop.TheVariants as part
use Rattle.volume_model.specs.Purge.{CanFold}
use Rattle.replica_node.specs.Node.{Node, blank}
use Rattle.replica_node.specs.Fold.{tree_of}
use Rattle.open_calls.specs.Calls.{node_at}
use Rattle.volume_maint.proofs.fold.child_on.Goals as goal

pub returns-in-None : goal.returns-in-None
returns-in-None c = λ child can.
    let nodes = c.args.world.now.nodes.items in
    let read : c.index.result.now ≡ node_at nodes c.args.replica = c.index.ensures
    ∙ get_or_default nodes c.args.replica c.index.result.now (blank 0) c.requires in
    c.in-None.ensures (part.Fold c.args.parent.now child) refl
    (subst (λ (n : Node). CanFold (tree_of n) n.on c.args.parent.now child) (sym read) can)
