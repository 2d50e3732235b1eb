use Rattle.std.proofs.Common.{◌≡◌, ◌+◌, ◌-◌, ◌∷◌, ◌++◌, drop, sym, ap, ◌∙◌, arith, rules}
use Rattle.std.proofs.lemmas.Fmt.{decimal_digit, length-decimal-le}
use Rattle.std.proofs.lemmas.List.{drop-set}
use Rattle.run_report.proofs.gathered.put_decimal.Goals as goal

pub write_digits-requires : goal.write_digits-requires
write_digits-requires c = (omega (arith, length-decimal-le 20 c.args.n (omega arith) (omega arith) c.ranges.n.fits), search rules)

pub returns-clause-start : goal.returns-clause-start
returns-clause-start c = omega (arith, length-decimal-le 20 c.args.n (omega arith) (omega arith) c.ranges.n.fits)

-- the one digit stands where the text was set
pub returns-then-n-lt10-clause-written : goal.returns-then-n-lt10-clause-written
returns-then-n-lt10-clause-written c =
    drop-set c.args.text.now (c.args.end - 1) (48 + c.args.n) (omega arith)
    ∙ ap (λ k. (48 + c.args.n) ∷ drop k c.args.text.now) behind
    ∙ ap (λ d. d ++ drop c.args.end c.args.text.now) (sym (decimal_digit c.args.n c.if-n-lt10.true))
  where
    behind : c.args.end - 1 + 1 ≡ c.args.end
    behind = omega arith
