use Rattle.std.proofs.Common.{◌<◌, List, length, refl, sym, ap, subst, arith}
use Rattle.layer_chain.specs.Tree.{Tree, IsWholeTree, layer_at}
use Rattle.layer_chain.specs.Changes.{with_layers, marked_layer}
use Rattle.layer_chain.specs.Found.{IsIndexed}
use Rattle.layer_chain.specs.declared.layer.Layer.{Layer}
use Rattle.layer_chain.proofs.ChangeLemmas.{mark_whole, marked_is}
use Rattle.layer_chain.proofs.IndexLemmas.{indexed_set}
use Rattle.layer_chain.proofs.layer_tree.LayerTree.mark_layer.Goals as goal

pub invariant_of-self : goal.invariant_of-self
invariant_of-self c =
    let within : c.args.place < length c.self.inside.layers.items = omega (arith, ap (λ (t : Tree). length t.layers) c.self.view_is) in
    record {
      whole =
          subst (λ (xs : List Layer). IsWholeTree
          (record { layers = xs; head = c.self.inside.head; on = c.self.inside.on; number = c.self.inside.number }))
          (sym (marked_is c.self.inside.layers.items c.args.place c.index_mut.result.now within c.index_mut.ensures.value))
          (mark_whole _ c.args.place within c.self.invariant.whole);
      room = c.self.invariant.room;
      indexed =
          let inside = c.self.inside in
          let t : Tree = record { layers = inside.layers.items; head = inside.head; on = inside.on; number = inside.number } in
          subst (λ (xs : List Layer). IsIndexed (with_layers t xs) inside.index)
          (sym (marked_is t.layers c.args.place c.index_mut.result.now within c.index_mut.ensures.value))
          (indexed_set t c.args.place (marked_layer (layer_at t.layers c.args.place)) inside.index within refl refl refl
          c.self.invariant.indexed);
    }
