use Rattle.std.proofs.Common.{◌++◌, take, ap, ◌∙◌}
use Rattle.image_runs.specs.Runs.{runs}
use Rattle.packed_bytes.proofs.PartLemmas.{part_apart, text_apart}
use Rattle.packed_bytes.proofs.print.append_part.Goals as goal

pub returns-clause-ok : goal.returns-clause-ok
returns-clause-ok c =
    let bytes = c.first_part-bytes.result.now in
    let start = c.last_run_start-last in
    let first = runs (take start.result bytes) in
    let apart = part_apart c.args.store.now.items bytes c.args.at c.args.until start.result c.first_part-bytes.ensures
    start.ensures.within start.ensures.begins in
    text_apart c.args.into.now.items c.append_runs-2.new.into.items c.append_run.new.into.items _ first _ _
    c.in_ok-append_runs-2.ensures.ok c.in_ok-append_run.ensures.ok (apart ∙ ap (λ l. first ++ l) c.plain_run-byte.ensures.run)
