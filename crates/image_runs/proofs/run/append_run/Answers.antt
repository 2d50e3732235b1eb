use Rattle.std.proofs.Common.{◌≡◌, [], ◌∷◌, ◌+◌, decimal, arith, rules}
use Rattle.std.proofs.lemmas.Fmt.{decimal_digit}
use Rattle.image_runs.proofs.run.append_run.Goals as goal

pub returns-then-count-lt10-clause-ok : goal.returns-then-count-lt10-clause-ok
returns-then-count-lt10-clause-ok c =
    let one : decimal c.args.count ≡ (48 + c.args.count) ∷ [] = decimal_digit c.args.count (omega arith) in rw one (search rules)
