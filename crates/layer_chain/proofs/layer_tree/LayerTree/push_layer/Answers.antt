use Rattle.std.proofs.Common.{◌+◌, ◌<◌, List, length, vec_capacity, sym, ap, subst, arith}
use Rattle.layer_chain.specs.Tree.{Tree, name_of, parent_of, IsNew, IsThere}
use Rattle.layer_chain.specs.Found.{IsRoomyTree}
use Rattle.layer_chain.specs.declared.layer.Layer.{Layer}
use Rattle.layer_chain.proofs.IndexLemmas.{pushed_whole, indexed_pushed, on_other_name}
use Rattle.layer_chain.proofs.layer_tree.LayerTree.push_layer.Goals as goal

pub invariant_of-self : goal.invariant_of-self
invariant_of-self c =
    let inside = c.self.inside in
    let t : Tree = record { layers = inside.layers.items; head = inside.head; on = inside.on; number = inside.number } in
    let new : IsNew (name_of c.args.layer) t.layers =
    subst (λ (u : Tree). IsNew (name_of c.args.layer) u.layers) (sym c.self.view_is) c.requires.new in
    let parent : IsThere (parent_of c.args.layer) t.layers =
    subst (λ (u : Tree). IsThere (parent_of c.args.layer) u.layers) (sym c.self.view_is) c.requires.parent in
    let room : length t.layers + 1 < 250 = omega (arith, c.requires.room, ap (λ (u : Tree). length u.layers) c.self.view_is) in
    let i = c.self.invariant in
    subst (λ (xs : List Layer). IsRoomyTree (record { layers = xs; head = t.head; on = t.on; number = t.number })
    (vec_capacity c.insert.new.self) inside.index) (sym c.in_default.ensures.items)
    (record {
      whole = pushed_whole t c.args.layer room new parent i.whole;
      room = omega (arith, i.room, c.in_default.ensures.capacity);
      indexed = indexed_pushed t c.args.layer inside.index (on_other_name t.on (name_of c.args.layer) t.layers i.whole.head new)
          i.indexed;
    })
