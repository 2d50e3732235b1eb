use Rattle.std.proofs.Common.{◌<◌, ◌-◌, length, take, ap, ◌∙◌, arith}
use Rattle.image_runs.proofs.RunsLemmas.{runs_text-printed}
use Rattle.packed_bytes.proofs.print.print_packed.Goals as goal

pub returns-clause-ok : goal.returns-clause-ok
returns-clause-ok c =
    let all = c.append_runs.new.into in
    let list = c.args.list.now in
    let some : 0 < length list = omega (arith, c.len.ensures) in
    c.pop.ensures.rest ∙ ap (λ n. take (n - 1) all.items) all.ok.0
    ∙ runs_text-printed c.args.into.now.items list all.items some c.in_default.ensures.ok
