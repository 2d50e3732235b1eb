use Rattle.std.proofs.Common.{arith, sym, ◌∙◌}
use Rattle.std.proofs.lemmas.Bool.{false≢true}
use Rattle.image_maps.proofs.BegunLemmas.{first_is_digit, first_begins, digit_text}
use Rattle.image_maps.proofs.line.first_digit.Goals as goal

pub returns-in-None : goal.returns-in-None
returns-in-None c more begins =
    c.in-None.ensures (first_is_digit c.args.least c.args.block_count c.args.byte more (omega arith) begins)

pub returns-then-may_begin : goal.returns-then-may_begin
returns-then-may_begin c =
    let may = c.may_begin.ensures in
    let spelled = digit_text c.args.byte c.in-Some.digit c.in-Some.ensures in
    (spelled, (may.small c.if-may_begin.true, may.means.0 c.if-may_begin.true))

pub returns-else-may_begin : goal.returns-else-may_begin
returns-else-may_begin c more begins =
    let digit = c.in-Some.digit in
    let may =
    first_begins c.args.least c.args.block_count c.args.byte digit more (omega arith) c.in-Some.ensures begins in
    false≢true (sym c.if-may_begin.false ∙ c.may_begin.ensures.means.1 may)
