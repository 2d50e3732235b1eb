use Rattle.std.proofs.Common.{subst}
use Rattle.layer_chain.specs.Tree.{Tree, IsWholeTree}
use Rattle.layer_chain.proofs.TreeLemmas.{child_newer}
use Rattle.layer_chain.proofs.layer_tree.LayerTree.standing_on.Goals as goal

pub returns-clause-newer : goal.returns-clause-newer
returns-clause-newer c = λ child h is.
    child_newer c.args.self.now.layers c.args.place child
    (subst (λ (t : Tree). IsWholeTree t) c.self.view_is c.self.invariant.whole).layers c.requires h is
