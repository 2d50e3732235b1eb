use Rattle.std.proofs.Common.{drop, refl, inr, arith}
use Rattle.frame_wire.proofs.OneAnswer.{length_of}
use Rattle.frame_wire.proofs.wire.decoded.Goals as goal

pub returns-then-head-most : goal.returns-then-head-most
returns-then-head-most c = (c.in-Some-head_of.head, drop 26 c.args.bytes.now, c.in-Some-head_of.ensures.some, refl, c.if-head-most.true)

pub returns-then-bytes-used : goal.returns-then-bytes-used
returns-then-bytes-used c =
    let front = c.in-Some-head_of.ensures.some in
    inr (c.in-Some-head_of.head, drop 26 c.args.bytes.now, front, omega (arith, length_of _ _ _ front), c.if-head-most.false)

pub returns : goal.returns
returns c =
    let front = c.in-Some-head_of.ensures.some in
    ((drop 26 c.args.bytes.now, front, omega (arith, length_of _ _ _ front), c.if-head-most.false), refl)
