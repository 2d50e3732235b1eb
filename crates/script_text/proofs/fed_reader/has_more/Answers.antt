use Rattle.std.proofs.Common.{◌≡◌, ◌∙◌, ◌-◌, length, take, drop, ap, arith}
use Rattle.frame_stream.specs.Reading.{fed_more}
use Rattle.script_text.proofs.FedLemmas.{fed_on}
use Rattle.script_text.proofs.fed_reader.has_more.Goals as goal

pub returns-clause-fed : goal.returns-clause-fed
returns-clause-fed c =
    let fed = c.args.reader.now in
    let bytes = c.args.bytes.now in
    let piece : c.in_ok-slice.field-0 ≡ take (c.min-more.result - fed.place) (drop fed.place bytes) =
    c.in_ok-slice.ensures.ok ∙ ap (λ p. take (c.min-more.result - p) (drop p bytes)) c.place-place.ensures in
    fed_on fed c.refill.new.self c.args.end.now c.min-more.result bytes c.requires.fed
    (omega (arith, c.min-more.ensures, c.more_than.ensures.more, c.requires.fed.within, c.len-2.ensures.value))
    (omega (arith, c.min-more.ensures, c.len-2.ensures.value))
    (c.refill.ensures ∙ ap (λ p. fed_more fed (drop (length fed.left) p)) piece)
