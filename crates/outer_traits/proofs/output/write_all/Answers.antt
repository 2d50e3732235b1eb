use Rattle.std.proofs.Common.{◌≡◌, ◌++◌, take, sym, ap, ◌∙◌, append_assoc}
use Rattle.std.proofs.lemmas.List.{take-append-drop}
use Rattle.std.proofs.KnownBytes.{Appends-trans}
use Rattle.outer_traits.proofs.output.write_all.Goals as goal

pub loop-rest-preserved : goal.loop-rest-preserved
loop-rest-preserved g c =
    let i = c.loop-rest.invariant in
    let rest = c.loop-rest.rest.now in
    let n = c.in_ok-count.count in
    let cut : c.args.bytes.now ≡ (i.0 ++ take n rest) ++ c.split_at.result.1.now =
    i.1 ∙ ap (λ l. i.0 ++ l) (sym (take-append-drop n rest) ∙ ap (λ l. take n rest ++ l) (sym c.split_at.ensures.back))
    ∙ sym (append_assoc i.0 (take n rest) _) in (
      i.0 ++ take n rest,
      cut,
      Appends-trans _ _ _ i.0 (take n rest) i.2 c.in_ok-count.ensures.bytes,
      c.in_ok-count.ensures.cause.cause ∙ i.3,
    )
