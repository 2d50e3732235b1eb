use Rattle.std.proofs.Common.{◌/◌, not, sym, ap, ◌∙◌}
use Rattle.volume_model.specs.Snapshots.{is_live}
use Rattle.replica_node.specs.Fold.{tree_of}
use Rattle.replica_node.proofs.ChainLemmas.{none_live, live_at}
use Rattle.replica_node.proofs.node.ReplicaNode.is_live.Goals as goal

pub returns-in-Some : goal.returns-in-Some
returns-in-Some c =
    let layers = c.self.inside.tree.layers in
    let name = c.args.name.now in
    let at = c.in-Some.ensures.place in
    ap (λ m. not m.marked) c.meta.ensures
    ∙ sym (live_at layers layers (c.self.inside.size / 4096) name c.in-Some.place c.count-count.ensures.whole.layers at.within at.named)
    ∙ ap (λ n. is_live (tree_of n) name) c.self.view_is

pub returns-in-None : goal.returns-in-None
returns-in-None c =
    let layers = c.self.inside.tree.layers in
    let name = c.args.name.now in
    sym (none_live layers layers (c.self.inside.size / 4096) name c.in-None.ensures.place)
    ∙ ap (λ n. is_live (tree_of n) name) c.self.view_is
