use Rattle.std.proofs.Common.{◌+◌, ◌*◌, ◌++◌, take, ap, ◌∙◌, sym}
use Rattle.image_runs.specs.Printing.{with_commas}
use Rattle.packed_bytes.specs.Packed.{coded_runs, part}
use Rattle.packed_bytes.proofs.PartLemmas.{first_part_within}
use Rattle.packed_bytes.proofs.LoneLemmas.{lone_printed}
use Rattle.packed_bytes.proofs.print.append_codes.Goals as goal

pub returns-then-alone-gt0-clause-ok : goal.returns-then-alone-gt0-clause-ok
returns-then-alone-gt0-clause-ok c =
    let store = c.args.store.now.items in
    let old = c.args.into.now.items in
    let codes = c.first_part.result.now in
    let alone = c.lone_coded-alone in
    let n = 5 * alone.result.1 in
    let bytes = take alone.result.1 alone.result.0 in
    let rest = part store (c.args.at + n) c.args.until in
    let whole =
    first_part_within store codes c.args.at c.args.until n c.first_part.ensures alone.ensures.within
    ∙ ap (λ l. l ++ rest) alone.ensures.codes in
    ap (λ l. l ++ with_commas (coded_runs rest)) c.in_ok-append_lone.ensures.ok
    ∙ lone_printed old bytes rest
    ∙ ap (λ l. old ++ with_commas (coded_runs l)) (sym whole)
