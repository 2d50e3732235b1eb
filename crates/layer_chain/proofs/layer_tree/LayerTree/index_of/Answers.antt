use Rattle.std.proofs.Common.{List, Some, IfSome, ap, subst, ◌∙◌}
use Rattle.layer_chain.specs.Tree.{Tree, IsThere}
use Rattle.layer_chain.specs.declared.layer.Layer.{Layer}
use Rattle.layer_chain.proofs.TreeLemmas.{found_there}
use Rattle.layer_chain.proofs.layer_tree.LayerTree.index_of.Goals as goal

pub returns-clause-there : goal.returns-clause-there
returns-clause-there c =
    subst (λ (xs : List Layer). IfSome c.index_in.result (λ _. IsThere (Some c.args.name.now) xs))
    (c.deref.ensures.value ∙ ap (λ (t : Tree). t.layers) c.self.view_is)
    (found_there c.deref.result.now c.args.name.now c.index_in.result c.index_in.ensures)
