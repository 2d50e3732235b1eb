use Rattle.std.proofs.Common.{arith}
use Rattle.image_maps.proofs.BegunLemmas.{behind_count_digit, behind_count_begins, longer_count_text}
use Rattle.image_maps.proofs.line.behind_count.Goals as goal

pub returns-in-None : goal.returns-in-None
returns-in-None c more begins =
    c.in-None.ensures
    (behind_count_digit c.args.least c.args.block_count c.args.first c.args.count c.args.byte more (omega arith)
    c.requires.2 c.requires.1 c.if-byte-eq10.false begins)

pub returns-then-longer-from : goal.returns-then-longer-from
returns-then-longer-from c =
    let spelled =
    longer_count_text c.args.first c.args.count c.args.byte c.in-Some.digit (omega (arith, c.requires.2)) c.requires.1
    c.in-Some.ensures in
    (spelled, (c.requires.0, omega (arith, c.requires.1), omega (arith, c.requires.2)))

pub returns-else-longer-from : goal.returns-else-longer-from
returns-else-longer-from c more begins =
    let found =
    behind_count_begins c.args.least c.args.block_count c.args.first c.args.count c.args.byte c.in-Some.digit more
    (omega arith) c.requires.2 c.requires.1 c.in-Some.ensures begins in
    omega (arith, found)
