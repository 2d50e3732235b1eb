use Rattle.std.proofs.Common.{◌≡◌, length, None, sym, ap, ◌∙◌, arith}
use Rattle.std.proofs.lemmas.List.{ext_get_or}
use Rattle.sparse_image.proofs.page.Page.copy_all.Goals as goal

pub returns : goal.returns
returns c =
    let done = c.loop-place.invariant in
    let made : length c.other.inside.places.items ≡ 512 = ap length c.other.view_is ∙ c.requires.made in
    ext_get_or None c.loop-place.self-inside.places.items c.other.inside.places.items (done.count ∙ sym made)
    (λ i h. done.copied i (omega (arith, h, done.count)))
    ∙ c.other.view_is
