use Rattle.std.proofs.Common.{◌≡◌, ◌<◌, ◌∙◌, sym, ap, refl, arith, below_more, map, string_bytes, Global, get_or, [], length}
use Rattle.std.proofs.lemmas.Bool.{false≢true}
use Rattle.std.proofs.lemmas.List.{get_or-map, length-map}
use Rattle.std.proofs.lemmas.Slice.Eq.{bytes_eq-Decides}
use Rattle.shelf_memory.proofs.NameLemmas.{any_default, here_is}
use Rattle.shelf_memory.proofs.names.has_name.Goals as goal

pub returns-then-eq : goal.returns-then-eq
returns-then-eq c =
    let text = string_bytes {Z = Global} in
    let names = c.args.names.now in
    let place = c.loop-place.place in
    let within : place < length names = omega arith in
    let size : place < length (map text names) = omega (arith, length-map names text) in
    let found = get_or-map text names place c.index-names-place.result [] within in
    let item : get_or (map text names) place [] ≡ c.as_bytes.result.now =
    found ∙ ap text (sym c.index-names-place.is) ∙ sym c.as_bytes.ensures.value in
    let same : c.as_bytes.result.now ≡ c.args.name.now =
    (bytes_eq-Decides _ _).0 (sym c.eq.ensures ∙ c.if-eq.true) ∙ c.as_bytes-in-loop-place.ensures.value in
    ((λ yes. here_is (map text names) place c.args.name.now size (item ∙ same)), (λ there. refl))

pub loop-place-preserved : goal.loop-place-preserved
loop-place-preserved c =
    let text = string_bytes {Z = Global} in
    let names = c.args.names.now in
    let place = c.loop-place.place in
    let within : place < length names = omega arith in
    let found = get_or-map text names place c.index-names-place.result [] within in
    let item : get_or (map text names) place [] ≡ c.as_bytes.result.now =
    found ∙ ap text (sym c.index-names-place.is) ∙ sym c.as_bytes.ensures.value in
    let other = c.as_bytes-in-loop-place.ensures.value in
    below_more _ _ c.loop-place.invariant
    (λ e. false≢true (sym c.if-eq.false ∙ c.eq.ensures ∙ (bytes_eq-Decides _ _).1 (sym item ∙ e ∙ sym other)))

pub returns : goal.returns
returns c =
    let text = string_bytes {Z = Global} in
    let names = map text c.args.names.now in (
      λ no. absurd (false≢true no),
      λ has. absurd (c.loop-place.invariant has.0 (omega (arith, has.1, length-map c.args.names.now text))
          (any_default names has.0 has.1 [] c.args.name.now ∙ has.2)),
    )
