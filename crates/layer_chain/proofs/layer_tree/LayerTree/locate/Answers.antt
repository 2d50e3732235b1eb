use Rattle.std.proofs.Common.{◌≡◌, ◌<◌, ◌∷◌, All, List, length, is_some, nat_lt, sym, ap, subst, ◌∙◌}
use Rattle.sparse_image.specs.Image.{Tables}
use Rattle.layer_chain.specs.Tree.{Tree, head_reads}
use Rattle.layer_chain.specs.Found.{Index, IsIndexed, IsKnown, images_of, found_in, found_at}
use Rattle.layer_chain.specs.declared.layer.Layer.{Layer}
use Rattle.layer_chain.proofs.FoundLemmas.{found_some}
use Rattle.layer_chain.proofs.IndexLemmas.{indexed_ages, indexed_images, indexed_learned}
use Rattle.layer_chain.proofs.layer_tree.LayerTree.locate.Goals as goal

pub locate_in-requires-clause-ages : goal.locate_in-requires-clause-ages
locate_in-requires-clause-ages c =
    let inside = c.self.inside in
    let t : Tree = record { layers = inside.layers.items; head = inside.head; on = inside.on; number = inside.number } in
    subst (λ (xs : List Layer). All (λ age. age < length xs) inside.index.ages) (sym c.deref.ensures.value)
    (indexed_ages t inside.index c.self.invariant.indexed)

pub locate_in-requires-clause-known : goal.locate_in-requires-clause-known
locate_in-requires-clause-known c =
    let inside = c.self.inside in
    let t : Tree = record { layers = inside.layers.items; head = inside.head; on = inside.on; number = inside.number } in
    subst (λ (xs : List Layer). IsKnown (t.head ∷ images_of xs inside.index.ages) inside.index.bytes) (sym c.deref.ensures.value)
    (subst (λ (is : List Tables). IsKnown is inside.index.bytes) (sym (indexed_images t inside.index c.self.invariant.indexed))
    c.self.invariant.indexed.known)

abbrev tree : goal.After-locate_in → Tree
tree c = record {
  layers = c.self.inside.layers.items;
  head = c.self.inside.head;
  on = c.self.inside.on;
  number = c.self.inside.number;
}

found : (c : goal.After-locate_in) → c.locate_in.result ≡ found_at (tree c) c.args.block
found c =
    let index = c.self.inside.index in
    c.locate_in.ensures.found
    ∙ ap (λ (xs : List Layer). found_in (c.self.inside.head ∷ images_of xs index.ages) c.args.block) c.deref.ensures.value
    ∙ ap (λ (is : List Tables). found_in is c.args.block) (indexed_images (tree c) index c.self.invariant.indexed)

pub invariant_of-self : goal.invariant_of-self
invariant_of-self c =
    let i = c.self.invariant in
    record {
      whole = i.whole;
      room = i.room;
      indexed = subst (λ (index : Index). IsIndexed (tree c) index) (sym c.locate_in.ensures.learned)
          (indexed_learned (tree c) c.self.inside.index c.args.block c.locate_in.result (found c) i.indexed);
    }

pub returns-clause-there : goal.returns-clause-there
returns-clause-there c =
    ap (λ n. nat_lt 0 n) (found c) ∙ sym (found_some (tree c) c.args.block)
    ∙ ap (λ (u : Tree). is_some (head_reads u c.args.block)) c.self.view_is
