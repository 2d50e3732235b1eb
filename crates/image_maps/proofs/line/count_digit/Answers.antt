use Rattle.std.proofs.Common.{arith}
use Rattle.image_maps.proofs.BegunLemmas.{count_is_digit, count_begins, count_text}
use Rattle.image_maps.proofs.line.count_digit.Goals as goal

pub returns-in-None : goal.returns-in-None
returns-in-None c more begins =
    c.in-None.ensures
    (count_is_digit c.args.least c.args.block_count c.args.first c.args.byte more (omega arith) c.requires.1 begins)

pub returns-then-count-eq0 : goal.returns-then-count-eq0
returns-then-count-eq0 c more begins =
    let found =
    count_begins c.args.least c.args.block_count c.args.first c.args.byte c.in-Some.digit more (omega arith)
    c.requires.1 c.in-Some.ensures begins in
    omega (arith, found.0)

pub returns-then-count-from : goal.returns-then-count-from
returns-then-count-from c =
    let spelled = count_text c.args.first c.args.byte c.in-Some.digit c.in-Some.ensures in
    (spelled, (c.requires.0, omega arith, omega (arith, c.requires.1)))

pub returns-else-count-from : goal.returns-else-count-from
returns-else-count-from c more begins =
    let found =
    count_begins c.args.least c.args.block_count c.args.first c.args.byte c.in-Some.digit more (omega arith)
    c.requires.1 c.in-Some.ensures begins in
    omega (arith, found.1)
