use Rattle.std.proofs.Common.{◌≡◌, ◌<◌, ◌++◌, List, length, take, drop, vec_capacity, sym, ap, subst, ◌∙◌, arith}
use Rattle.std.proofs.lemmas.Grind.{common_steps}
use Rattle.layer_chain.specs.Tree.{Tree, layer_at}
use Rattle.layer_chain.specs.Changes.{with_layers, MovesPage}
use Rattle.layer_chain.specs.Found.{IsRoomyTree}
use Rattle.layer_chain.specs.declared.layer.Layer.{Layer}
use Rattle.layer_chain.proofs.FoldLemmas.{images_whole}
use Rattle.layer_chain.proofs.IndexLemmas.{indexed_moves}
use Rattle.layer_chain.proofs.layer_tree.LayerTree.move_page.Goals as goal

left : (c : goal.After-forget_page) → take c.self.inside.layers.len
    (c.move_page_in.new.layers ++ drop (length c.move_page_in.new.layers) c.self.inside.layers.items)
    ≡ c.move_page_in.new.layers
left c = grind (arith, common_steps)

pub invariant_of-self : goal.invariant_of-self
invariant_of-self c =
    let inside = c.self.inside in
    let t : Tree = record { layers = inside.layers.items; head = inside.head; on = inside.on; number = inside.number } in
    let new = c.move_page_in.new.layers in
    let i = c.self.invariant in
    let above = c.requires.parent.older in
    let within : c.args.parent < length t.layers =
    omega (arith, c.requires.parent.within, ap (λ (u : Tree). length u.layers) c.self.view_is) in
    let moves = subst (λ (xs : List Layer). MovesPage xs new c.args.parent c.args.child c.args.page) c.deref_mut.ensures.value
    c.move_page_in.ensures.moves in
    let under = (layer_at new c.args.parent).image in
    let over = (layer_at new c.args.child).image in
    subst (λ (xs : List Layer). IsRoomyTree (with_layers t xs) (vec_capacity inside.layers) c.forget_page.new.self)
    (sym (left c ∙ moves.rest))
    (record {
      whole = images_whole t c.args.parent c.args.child under over above within i.whole;
      room = i.room;
      indexed = indexed_moves t new c.args.parent c.args.child c.args.page inside.index c.forget_page.new.self above within moves
          c.forget_page.ensures.page c.forget_page.ensures.ages i.indexed;
    })
