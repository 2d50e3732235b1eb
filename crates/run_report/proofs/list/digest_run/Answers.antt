use Rattle.std.proofs.Common.{◌≡◌, ◌++◌, ◌+◌, ◌-◌, replicate, ap, ◌∙◌, append_assoc, arith}
use Rattle.std.proofs.lemmas.List.{replicate-append-replicate, take-replicate}
use Rattle.run_report.proofs.list.digest_run.Goals as goal

pub loop-left-preserved : goal.loop-left-preserved
loop-left-preserved c =
    let b = c.args.byte in
    let left = c.loop-left.left in
    let had = c.loop-left.digest in
    let rest = replicate (left - 1024) b in
    let whole : 1024 + (left - 1024) ≡ left = omega arith in
    ap (λ l. l ++ rest) c.add.ensures ∙ append_assoc had (replicate 1024 b) rest
    ∙ ap (λ l. had ++ l) (replicate-append-replicate 1024 (left - 1024) b ∙ ap (λ n. replicate n b) whole) ∙ c.loop-left.invariant

pub returns : goal.returns
returns c =
    let b = c.args.byte in
    let left = c.loop-left.left in
    c.add-2.ensures ∙ ap (λ l. c.loop-left.digest ++ l) (take-replicate left 1024 b (omega arith)) ∙ c.loop-left.invariant
