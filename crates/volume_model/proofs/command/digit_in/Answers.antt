use Rattle.std.proofs.Common.{arith}
use Rattle.volume_model.proofs.TextLemmas.{is_digit, digit_of}
use Rattle.volume_model.proofs.command.digit_in.Goals as goal

pub returns-in-len1-clause-some : goal.returns-in-len1-clause-some
returns-in-len1-clause-some c =
    let digit = c.if-is_ascii_digit.ensures.cases in
    is_digit c.args.text.now (omega arith) digit.0 digit.1

pub returns-in_default-clause-none : goal.returns-in_default-clause-none
returns-in_default-clause-none c = λ n small is. omega (arith, digit_of c.args.text.now n small is)

pub returns-in_default-2-clause-none : goal.returns-in_default-2-clause-none
returns-in_default-2-clause-none c = λ n small is.
    let digit = digit_of c.args.text.now n small is in
    omega (arith, digit, c.if-is_ascii_digit.ensures.cases)

pub returns-in_default-3-clause-none : goal.returns-in_default-3-clause-none
returns-in_default-3-clause-none c = λ n small is. omega (arith, digit_of c.args.text.now n small is)
