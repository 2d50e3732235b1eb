use Rattle.std.proofs.Common.{◌/◌, sym, subst}
use Rattle.layer_chain.specs.Tree.{IsThere}
use Rattle.replica_node.proofs.PlaceLemmas.{on_is_kept}
use Rattle.replica_node.proofs.ShapeLemmas.{layers_kept}
use Rattle.replica_node.proofs.node.ReplicaNode.head_parent.Goals as goal

pub returns-clause-kept : goal.returns-clause-kept
returns-clause-kept c =
    on_is_kept c.self.inside.tree (c.self.inside.size / 4096) c.args.self.now c.head_parent.result c.self.view_is
    (subst (λ on. IsThere on c.self.inside.tree.layers) (sym c.head_parent.ensures.on) c.head_parent.ensures.there)

pub returns-clause-older : goal.returns-clause-older
returns-clause-older c =
    layers_kept c.self.inside.tree (c.self.inside.size / 4096) c.args.self.now c.self.view_is c.count-count.ensures.whole
