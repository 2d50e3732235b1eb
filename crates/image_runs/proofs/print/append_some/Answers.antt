use Rattle.std.proofs.Common.{◌++◌, drop, ap, ◌∙◌, refl, arith, append_assoc}
use Rattle.image_runs.specs.Runs.{runs}
use Rattle.image_runs.specs.Printing.{with_commas}
use Rattle.image_runs.proofs.RunsLemmas.{lone_printed, run_printed}
use Rattle.image_runs.proofs.print.append_some.Goals as goal

pub returns-then-alone-gt0-clause-ok : goal.returns-then-alone-gt0-clause-ok
returns-then-alone-gt0-clause-ok c =
    let bytes = c.args.bytes.now in
    let old = c.args.into.now.items in
    let n = c.lone_bytes-alone.result in
    ap (λ l. l ++ with_commas (runs (drop n bytes))) c.in_ok-append_lone.ensures.ok
    ∙ append_assoc old _ _
    ∙ ap (λ l. old ++ l) (lone_printed n bytes c.lone_bytes-alone.ensures.within c.lone_bytes-alone.ensures.differ)

pub returns-clause-ok : goal.returns-clause-ok
returns-clause-ok c =
    let bytes = c.args.bytes.now in
    let old = c.args.into.now.items in
    let n = c.run_length-count.result in
    ap (λ l. l ++ with_commas (runs (drop n bytes))) c.in_ok-append_run.ensures.ok
    ∙ append_assoc old _ _
    ∙ ap (λ l. old ++ l) (run_printed bytes _ n (omega arith) refl c.run_length-count.ensures.value).1
