use Rattle.std.proofs.Common.{[], ap, ◌∙◌, arith}
use Rattle.std.proofs.lemmas.List.FromFn.{get_or-map-range_with_len}
use Rattle.image_runs.specs.Printing.{lone_text}
use Rattle.image_runs.proofs.lone.lone_text.Goals as goal

pub returns : goal.returns
returns c =
    let byte = c.from.result in
    get_or-map-range_with_len lone_text 0 256 byte byte [] (omega arith) (omega arith) ∙ ap lone_text c.from.ensures
