use Rattle.std.proofs.Common.{◌≡◌, ◌<◌, List, None, MatchOption, length, ap, subst, ◌∙◌, arith}
use Rattle.layer_chain.specs.Tree.{Tree, parent_of, layer_at, IsNew, IsAt, IsParent}
use Rattle.layer_chain.specs.declared.layer.Layer.{Layer}
use Rattle.layer_chain.proofs.TreeLemmas.{layer_is, parent_placed}
use Rattle.layer_chain.proofs.layer_tree.LayerTree.parent_of.Goals as goal

pub returns-in-Some : goal.returns-in-Some
returns-in-Some c =
    let within : c.args.place < length c.self.inside.layers.items = omega (arith, ap (λ (t : Tree). length t.layers) c.self.view_is) in
    subst (λ (t : Tree). MatchOption c.index_in.result (parent_of (layer_at t.layers c.args.place) ≡ None)
    (λ p. IsParent t.layers p c.args.place)) c.self.view_is
    (parent_placed _ c.args.place c.in-Some.name c.index_in.result within c.self.invariant.whole
    (ap parent_of (layer_is c.self.inside.layers.items c.args.place c.index.result.now within c.index.ensures) ∙ c.in-Some.is)
    (subst (λ (xs : List Layer). MatchOption c.index_in.result (IsNew c.in-Some.name xs) (λ p. IsAt xs c.in-Some.name p))
    c.deref.ensures.value c.index_in.ensures))
