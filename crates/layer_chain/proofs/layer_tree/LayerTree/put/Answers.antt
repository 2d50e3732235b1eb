use Rattle.std.proofs.Common.{Some, refl, sym, subst}
use Rattle.layer_chain.specs.Tree.{Tree}
use Rattle.layer_chain.specs.Changes.{with_head}
use Rattle.layer_chain.specs.Found.{Index, IsIndexed}
use Rattle.layer_chain.proofs.IndexLemmas.{indexed_put}
use Rattle.layer_chain.proofs.layer_tree.LayerTree.put.Goals as goal

pub invariant_of-self : goal.invariant_of-self
invariant_of-self c =
    let inside = c.self.inside in
    let t : Tree = record { layers = inside.layers.items; head = inside.head; on = inside.on; number = inside.number } in
    let i = c.self.invariant in
    record {
      whole = record { layers = i.whole.layers; head = i.whole.head; few = i.whole.few };
      room = i.room;
      indexed = subst (λ (index : Index). IsIndexed (with_head t c.put.new.self) index) (sym c.learn_head.ensures)
          (indexed_put t c.put.new.self c.args.block (Some c.args.new.value) inside.index c.put.ensures.changes refl i.indexed);
    }
