use Rattle.std.proofs.Common.{arith}
use Rattle.std.proofs.lemmas.Int.{ints}
use Rattle.vol_units.proofs.RangeLemmas.{around_covers, around_inside, around_least}
use Rattle.vol_units.proofs.range.BlockRange.around.Goals as goal

pub returns-clause-covers : goal.returns-clause-covers
returns-clause-covers c =
    around_covers c.args.offset c.in_ok-at.at c.args.length c.touched.result (omega (arith, ints, c.in_ok-at.ensures.named))
    c.touched.ensures

pub returns-clause-least : goal.returns-clause-least
returns-clause-least c =
    around_least c.args.offset c.in_ok-at.at c.args.length c.touched.result (omega (arith, ints, c.in_ok-at.ensures.named))
    c.touched.ensures

pub returns-clause-inside : goal.returns-clause-inside
returns-clause-inside c =
    around_inside c.in_ok-at.at c.args.length c.args.size c.touched.result (omega (arith, c.in_ok-at.ensures.place))
    (omega arith) c.touched.ensures
