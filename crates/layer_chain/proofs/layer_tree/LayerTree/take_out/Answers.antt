use Rattle.std.proofs.Common.{◌≡◌, ℕ, ◌<◌, ◌≤◌, List, length, sym, ap, subst, arith}
use Rattle.std.specs.List.{remove}
use Rattle.layer_chain.specs.Tree.{Tree, IsWholeTree}
use Rattle.layer_chain.specs.Changes.{with_layers}
use Rattle.layer_chain.specs.Children.{IsLeaf}
use Rattle.layer_chain.specs.Found.{Index, IsIndexed, ages_from}
use Rattle.layer_chain.specs.declared.layer.Layer.{Layer}
use Rattle.layer_chain.proofs.FoldLemmas.{without_whole}
use Rattle.layer_chain.proofs.IndexLemmas.{indexed_without}
use Rattle.layer_chain.proofs.layer_tree.LayerTree.take_out.Goals as goal

-- the index once the layers below the head are told anew
indexed : (t : Tree) (layers : List Layer) (index after : Index) (p : ℕ) (now : List Layer) → layers ≡ remove t.layers p → now ≡ layers
    → after ≡ record index { ages = ages_from now t.on } → p < length t.layers → IsLeaf t p → IsIndexed t index
    → IsIndexed (with_layers t layers) after
indexed t layers index after p now is same told within leaf i =
    rw told (rw same (rw is (indexed_without t p index within leaf i)))

pub invariant_of-self : goal.invariant_of-self
invariant_of-self c =
    let within : c.args.place < length c.self.inside.layers.items =
    omega (arith, c.requires.within, ap (λ (t : Tree). length t.layers) c.self.view_is) in
    record {
      whole =
          subst (λ (xs : List Layer). IsWholeTree
          (record { layers = xs; head = c.self.inside.head; on = c.self.inside.on; number = c.self.inside.number }))
          (sym c.remove.ensures.items)
          (without_whole (record {
            layers = c.self.inside.layers.items;
            head = c.self.inside.head;
            on = c.self.inside.on;
            number = c.self.inside.number;
          }) c.args.place within
          (subst (λ (t : Tree). IsLeaf t c.args.place) (sym c.self.view_is) c.requires.leaf) c.self.invariant.whole);
      room = subst (λ n. 250 ≤ n) (sym c.remove.ensures.capacity) c.self.invariant.room;
      indexed =
          let inside = c.self.inside in
          let t : Tree = record { layers = inside.layers.items; head = inside.head; on = inside.on; number = inside.number } in
          indexed t c.remove.new.self.items inside.index c.stand_on.new.self c.args.place c.deref.result.now
          c.remove.ensures.items c.deref.ensures.value c.stand_on.ensures within
          (subst (λ (u : Tree). IsLeaf u c.args.place) (sym c.self.view_is) c.requires.leaf) c.self.invariant.indexed;
    }
