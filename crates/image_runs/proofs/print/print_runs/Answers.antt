use Rattle.std.proofs.Common.{◌<◌, ◌-◌, length, take, ap, ◌∙◌, rules}
use Rattle.image_runs.proofs.RunsLemmas.{runs_text-printed}
use Rattle.image_runs.proofs.print.print_runs.Goals as goal

pub returns-clause-ok : goal.returns-clause-ok
returns-clause-ok c =
    let all = c.append_runs.new.into in
    let some : 0 < length c.args.bytes.now = search rules in
    c.pop.ensures.rest ∙ ap (λ n. take (n - 1) all.items) all.ok.0
    ∙ runs_text-printed c.args.into.now.items c.args.bytes.now all.items some c.in_default.ensures.ok
