use Rattle.std.proofs.Common.{◌≡◌, ℕ, ◌+◌, ◌-◌, ◌<◌, ◌∷◌, suc, List, length, drop, get_or, sym, ap, subst, ◌∙◌, arith}
use Rattle.std.proofs.lemmas.List.Elements.{All-cons}
use Rattle.sparse_image.specs.Image.{IsEmpty}
use Rattle.layer_chain.specs.Tree.{Tree, layer_at, IsNew, IsThere, IsLayers}
use Rattle.layer_chain.specs.Changes.{metas_in, AreEmpty}
use Rattle.layer_chain.specs.declared.layer.Layer.{Layer}
use Rattle.layer_chain.specs.declared.layer.LayerMeta.{LayerMeta}
use Rattle.layer_chain.proofs.EmptiedLemmas.{CanPush, can_push, there_alike}
use Rattle.layer_chain.proofs.TreeLemmas.{layer_is}
use Rattle.layer_chain.proofs.layer_tree.LayerTree.emptied.Goals as goal

-- the layer that is next
next : (xs ys : List Layer) (done : ℕ) → IsLayers xs → done < length xs
    → metas_in ys ≡ drop (length xs - done) (metas_in xs) → CanPush xs ys (length xs - 1 - done)
next xs ys done tree within e =
    let behind : length xs - done ≡ suc (length xs - 1 - done) = omega (arith, within) in
    can_push xs ys (length xs - 1 - done) tree (omega (arith, within)) (e ∙ ap (λ n. drop n (metas_in xs)) behind)

told : (xs : List Layer) (n done : ℕ) (x : Layer) (meta : LayerMeta) → n ≡ length xs → done < length xs
    → x ≡ get_or xs (n - 1 - done) x → meta ≡ x.meta
    → meta ≡ (layer_at xs (length xs - 1 - done)).meta
told xs n done x meta long within is same =
    let place : n - 1 - done ≡ length xs - 1 - done = omega (arith, long) in
    same ∙ ap (λ (l : Layer). l.meta) (sym (layer_is xs (n - 1 - done) x (omega (arith, long, within)) is))
    ∙ ap (λ p. (layer_at xs p).meta) place

pub push_layer-requires-clause-new : goal.push_layer-requires-clause-new
push_layer-requires-clause-new c =
    let xs = c.self.inside.layers.items in
    let within : c.loop-done.done < length xs = omega arith in
    subst (λ n. IsNew n c.loop-done.tree.layers)
    (ap (λ (m : LayerMeta). m.name)
    (sym (told xs c.len.result c.loop-done.done c.index.result.now c.in_ok-meta.meta (omega (arith, c.len.ensures)) within
    c.index.ensures c.in_ok-meta.ensures)))
    (next xs c.loop-done.tree.layers c.loop-done.done c.self.invariant.whole.layers within c.loop-done.invariant.metas).new

pub push_layer-requires-clause-parent : goal.push_layer-requires-clause-parent
push_layer-requires-clause-parent c =
    let xs = c.self.inside.layers.items in
    let within : c.loop-done.done < length xs = omega arith in
    subst (λ n. IsThere n c.loop-done.tree.layers)
    (ap (λ (m : LayerMeta). m.parent)
    (sym (told xs c.len.result c.loop-done.done c.index.result.now c.in_ok-meta.meta (omega (arith, c.len.ensures)) within
    c.index.ensures c.in_ok-meta.ensures)))
    (next xs c.loop-done.tree.layers c.loop-done.done c.self.invariant.whole.layers within c.loop-done.invariant.metas).parent

pub loop-done-preserved : goal.loop-done-preserved
loop-done-preserved c =
    let xs = c.self.inside.layers.items in
    let ys = c.loop-done.tree.layers in
    let within : c.loop-done.done < length xs = omega arith in
    let meta : c.in_ok-meta.meta ≡ (layer_at xs (length xs - 1 - c.loop-done.done)).meta =
    told xs c.len.result c.loop-done.done c.index.result.now c.in_ok-meta.meta (omega (arith, c.len.ensures)) within
    c.index.ensures c.in_ok-meta.ensures in
    let layers = ap (λ (t : Tree). t.layers) c.push_layer.ensures in
    let place : length xs - 1 - c.loop-done.done ≡ length xs - (c.loop-done.done + 1) = omega arith in
    record {
      count = ap length layers ∙ ap (λ n. suc n) c.loop-done.invariant.count ∙ omega arith;
      metas = ap metas_in layers ∙ ap (λ (m : LayerMeta). m ∷ metas_in ys) meta
          ∙ (next xs ys c.loop-done.done c.self.invariant.whole.layers within c.loop-done.invariant.metas).metas
          ∙ ap (λ n. drop n (metas_in xs)) place;
      images = subst (λ (ls : List Layer). AreEmpty ls c.args.page_count) (sym layers)
          (All-cons (λ (l : Layer). IsEmpty l.image c.args.page_count) _ ys c.in_ok-image.ensures.empty c.loop-done.invariant.images);
    }

pub put_head-requires : goal.put_head-requires
put_head-requires c =
    let none : length c.self.inside.layers.items - c.loop-done.done ≡ 0 = omega arith in
    there_alike c.self.inside.layers.items c.loop-done.tree.layers c.self.inside.on
    (c.loop-done.invariant.metas ∙ ap (λ n. drop n (metas_in c.self.inside.layers.items)) none) c.self.invariant.whole.head
