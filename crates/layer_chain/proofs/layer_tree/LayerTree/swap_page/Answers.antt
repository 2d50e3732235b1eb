use Rattle.std.proofs.Common.{◌<◌, List, length, vec_capacity, sym, ap, subst, set, arith}
use Rattle.sparse_image.specs.Image.{PutsTable}
use Rattle.layer_chain.specs.Tree.{Tree}
use Rattle.layer_chain.specs.Changes.{with_image, with_layers, PutsPage}
use Rattle.layer_chain.specs.Found.{IsRoomyTree}
use Rattle.layer_chain.specs.declared.layer.Layer.{Layer}
use Rattle.layer_chain.proofs.ChangeLemmas.{image_whole, image_is, puts_page}
use Rattle.layer_chain.proofs.IndexLemmas.{indexed_puts}
use Rattle.layer_chain.proofs.TreeLemmas.{layer_is}
use Rattle.layer_chain.proofs.layer_tree.LayerTree.swap_page.Goals as goal

pub invariant_of-self : goal.invariant_of-self
invariant_of-self c =
    let inside = c.self.inside in
    let t : Tree = record { layers = inside.layers.items; head = inside.head; on = inside.on; number = inside.number } in
    let within : c.args.place < length t.layers = omega (arith, ap (λ (u : Tree). length u.layers) c.self.view_is) in
    let i = c.self.invariant in
    let image = c.swap_page.new.self in
    let puts = subst (λ (l : Layer). PutsTable l.image image c.args.page c.args.with.now)
    (sym (layer_is t.layers c.args.place c.index_mut.result.now within c.index_mut.ensures.value)) c.swap_page.ensures.own in
    subst (λ (xs : List Layer). IsRoomyTree (with_layers t xs) (vec_capacity inside.layers) c.forget_page.new.self)
    (sym (image_is t.layers c.args.place c.index_mut.result.now image within c.index_mut.ensures.value))
    (record {
      whole = image_whole t c.args.place image within i.whole;
      room = i.room;
      indexed = indexed_puts t c.args.place c.args.page image c.args.with.now inside.index c.forget_page.new.self within puts
          c.forget_page.ensures.page c.forget_page.ensures.ages i.indexed;
    })

pub returns-clause-puts : goal.returns-clause-puts
returns-clause-puts c =
    let inside = c.self.inside in
    let within : c.args.place < length inside.layers.items = omega (arith, ap (λ (u : Tree). length u.layers) c.self.view_is) in
    subst (λ (t : Tree). PutsPage t.layers
    (set inside.layers.items c.args.place (with_image c.index_mut.result.now c.swap_page.new.self)) c.args.place
    c.args.page c.args.with.now) c.self.view_is
    (puts_page inside.layers.items c.args.place c.index_mut.result.now c.swap_page.new.self c.args.page
    c.args.with.now within c.index_mut.ensures.value c.swap_page.ensures.own)
