use Rattle.std.proofs.Common.{◌≡◌, ◌≢◌, ◌+◌, ◌-◌, ◌<◌, [], ◌∷◌, All, List, length, get_or, sym, ap, subst, ◌∙◌, arith}
use Rattle.sparse_image.specs.Image.{Tables, block_at}
use Rattle.layer_chain.specs.Tree.{Tree, head_reads}
use Rattle.layer_chain.specs.Found.{head_images, images_of, found_at}
use Rattle.layer_chain.specs.declared.layer.Layer.{Layer}
use Rattle.layer_chain.proofs.FoundLemmas.{found_most, found_reads}
use Rattle.layer_chain.proofs.IndexLemmas.{indexed_ages, indexed_images, indexed_count}
use Rattle.layer_chain.proofs.layer_tree.LayerTree.read_head.Goals as goal

pub overflow_sub-above : goal.overflow_sub-above
overflow_sub-above c =
    let inside = c.self.inside in
    let t : Tree = record { layers = inside.layers.items; head = inside.head; on = inside.on; number = inside.number } in
    let i = c.self.invariant.indexed in
    let index = c.find-index.result in
    let some : index ≢ 0 = λ z. omega (arith, z, c.if-index-gt0.true) in
    let known : index ≡ found_at t c.args.block = c.find-index.ensures ∙ i.known c.args.block (λ z. some (c.find-index.ensures ∙ z)) in
    omega (arith, known, found_most t c.args.block, indexed_count t inside.index i, c.layer_count.ensures.count)

pub image_below-requires-clause-ages : goal.image_below-requires-clause-ages
image_below-requires-clause-ages c =
    let inside = c.self.inside in
    let t : Tree = record { layers = inside.layers.items; head = inside.head; on = inside.on; number = inside.number } in
    subst (λ (xs : List Layer). All (λ age. age < length xs) inside.index.ages) (sym c.deref.ensures.value)
    (indexed_ages t inside.index c.self.invariant.indexed)

pub returns-then-index-gt0-clause-value : goal.returns-then-index-gt0-clause-value
returns-then-index-gt0-clause-value c =
    let inside = c.self.inside in
    let t : Tree = record { layers = inside.layers.items; head = inside.head; on = inside.on; number = inside.number } in
    let i = c.self.invariant.indexed in
    let index = c.find-index.result in
    let some : index ≢ 0 = λ z. omega (arith, z, c.if-index-gt0.true) in
    let known : index ≡ found_at t c.args.block = c.find-index.ensures ∙ i.known c.args.block (λ z. some (c.find-index.ensures ∙ z)) in
    let place : c.layer_count.result + 1 - index ≡ length (head_images t) - index =
    omega (arith, indexed_count t inside.index i, c.layer_count.ensures.count) in
    c.get.ensures.value ∙ ap (λ (is : Tables). block_at is c.args.block) (c.image_below.ensures
    ∙ ap (λ (xs : List Layer). get_or (t.head ∷ images_of xs inside.index.ages) (c.layer_count.result + 1 - index) []) c.deref.ensures.value
    ∙ ap (λ (is : List Tables). get_or is (c.layer_count.result + 1 - index) []) (indexed_images t inside.index i)
    ∙ ap (λ n. get_or (head_images t) n []) place)
    ∙ sym (found_reads t c.args.block index known some)
    ∙ ap (λ (u : Tree). head_reads u c.args.block) c.self.view_is
