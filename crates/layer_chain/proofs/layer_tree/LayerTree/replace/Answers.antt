use Rattle.std.proofs.Common.{◌≡◌, ◌-◌, ◌<◌, ◌≤◌, List, length, get_or, set, sym, ap, subst, ◌∙◌, arith}
use Rattle.std.specs.List.{remove}
use Rattle.layer_chain.specs.Tree.{Tree, IsWholeTree}
use Rattle.layer_chain.specs.Changes.{replaced, in_place_of, with_layers}
use Rattle.layer_chain.specs.Found.{Index, IsIndexed, ages_from, index_of_age}
use Rattle.layer_chain.specs.declared.layer.Layer.{Layer}
use Rattle.layer_chain.proofs.FoldLemmas.{child_above, replaced_whole, replaced_is}
use Rattle.layer_chain.proofs.IndexLemmas.{indexed_replaced}
use Rattle.layer_chain.proofs.layer_tree.LayerTree.replace.Goals as goal

pub index_mut-upper-requires : goal.index_mut-upper-requires
index_mut-upper-requires c =
    let above : c.args.child < c.args.parent = child_above c.args.self.now c.args.parent c.args.child
    (subst (λ (t : Tree). IsWholeTree t) c.self.view_is c.self.invariant.whole) c.requires.within c.requires.only in
    omega (arith, above, c.requires.within, c.remove-meta.ensures.len, ap (λ (t : Tree). length t.layers) c.self.view_is)

whole : (c : goal.Joined-meta) → IsWholeTree c.args.self.now
whole c = subst (λ (t : Tree). IsWholeTree t) c.self.view_is c.self.invariant.whole

abbrev new : goal.Joined-meta → List Layer
new c = set c.remove-meta.new.self.items c.args.child (in_place_of c.index_mut-upper.result.now c.remove-meta.result)

is : (c : goal.Joined-meta) → new c ≡ (replaced c.args.self.now c.args.parent c.args.child).layers
is c =
    let same = ap (λ (t : Tree). t.layers) c.self.view_is in
    replaced_is c.args.self.now.layers c.remove-meta.new.self.items c.args.parent c.args.child c.index_mut-upper.result.now
    c.remove-meta.result
    (child_above c.args.self.now c.args.parent c.args.child (whole c) c.requires.within c.requires.only) c.requires.within
    (c.remove-meta.ensures.items ∙ ap (λ (xs : List Layer). remove xs c.args.parent) same)
    c.index_mut-upper.ensures.value
    (c.remove-meta.ensures.value ∙ ap (λ (xs : List Layer). get_or xs c.args.parent c.remove-meta.result) same)

-- the index, of which the layer that went is taken
indexed : (c : goal.Joined-meta) → IsIndexed (replaced c.args.self.now c.args.parent c.args.child) c.stand_on.new.self
indexed c =
    let inside = c.self.inside in
    let t = c.args.self.now in
    let long : c.len.result ≡ length t.layers = omega (arith, c.len.ensures, ap (λ (u : Tree). length u.layers) c.self.view_is) in
    indexed_replaced t c.args.parent c.args.child inside.index (whole c) c.requires.within c.requires.only
    (subst (λ (u : Tree). IsIndexed u inside.index) c.self.view_is c.self.invariant.indexed)
    c.stand_on.new.self c.index_of-gone.result
    (c.index_of-gone.ensures ∙ ap (λ n. index_of_age inside.index.ages (n - 1 - c.args.child)) long)
    (ap (λ (i : Index). i.bytes) c.stand_on.ensures ∙ c.renumber.ensures.bytes)
    (ap (λ (i : Index). i.ages) c.stand_on.ensures
    ∙ ap (λ (xs : List Layer). ages_from xs inside.on) (c.deref.ensures.value ∙ is c)
    ∙ ap (λ (u : Tree). ages_from (replaced t c.args.parent c.args.child).layers u.on) c.self.view_is)

pub invariant_of-self : goal.invariant_of-self
invariant_of-self c = record {
  whole =
      subst (λ (t : Tree). IsWholeTree (with_layers t (new c))) (sym c.self.view_is)
      (subst (λ (xs : List Layer). IsWholeTree (with_layers c.args.self.now xs)) (sym (is c))
      (replaced_whole c.args.self.now c.args.parent c.args.child (whole c) c.requires.within c.requires.only));
  room = subst (λ n. 250 ≤ n) (sym c.remove-meta.ensures.capacity) c.self.invariant.room;
  indexed =
      subst (λ (t : Tree). IsIndexed (with_layers t (new c)) c.stand_on.new.self) (sym c.self.view_is)
      (subst (λ (xs : List Layer). IsIndexed (with_layers c.args.self.now xs) c.stand_on.new.self) (sym (is c)) (indexed c));
}

pub returns : goal.returns
returns c =
    ap (λ (t : Tree). with_layers t (new c)) c.self.view_is
    ∙ ap (λ (xs : List Layer). with_layers c.args.self.now xs) (is c)
