use Rattle.std.proofs.Common.{◌++◌, sym, ap, ◌∙◌}
use Rattle.std.proofs.lemmas.Fmt.{decimal_digit}
use Rattle.run_report.proofs.words.append_decimal.Goals as goal

pub returns-then-n-lt10-clause-ok : goal.returns-then-n-lt10-clause-ok
returns-then-n-lt10-clause-ok c =
    c.in_ok-push.ensures.items ∙ ap (λ d. c.args.into.now.items ++ d) (sym (decimal_digit c.args.n c.if-n-lt10.true))
