use Rattle.std.proofs.Common.{◌<◌, ◌-◌, [], ◌∷◌, List, length, is_some, ap, sym, ◌∙◌, arith}
use Rattle.std.proofs.lemmas.List.{length-map}
use Rattle.sparse_image.specs.Image.{Tables, block_at}
use Rattle.layer_chain.specs.Tree.{layer_at}
use Rattle.layer_chain.specs.Found.{images_of}
use Rattle.layer_chain.proofs.FoundLemmas.{first-next}
use Rattle.layer_chain.proofs.finding.search.Goals as goal

pub loop-above-preserved : goal.loop-above-preserved
loop-above-preserved c =
    let ages = c.args.index.now.ages in
    let layers = c.args.layers.now in
    let images : List Tables = c.args.head.now ∷ images_of layers ages in
    let within : c.loop-above.above < length images =
    omega (
      arith,
      c.loop-above-test.true,
      c.layer_count-count.ensures.count,
      length-map ages (λ age. (layer_at layers (length layers - 1 - age)).image),
    ) in
    let absent = ap (λ (i : Tables). is_some (block_at i c.args.block)) (sym c.image_below.ensures) ∙ sym c.present.ensures
    ∙ c.if-present.false in
    sym (first-next (λ (i : Tables). is_some (block_at i c.args.block)) images c.loop-above.above [] within absent)
    ∙ c.loop-above.invariant
