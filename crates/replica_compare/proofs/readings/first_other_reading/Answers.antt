use Rattle.std.proofs.Common.{◌*◌, arith}
use Rattle.replica_compare.proofs.ReadLemmas.{found_first}
use Rattle.replica_compare.proofs.readings.first_other_reading.Goals as goal

pub returns : goal.returns
returns c =
    found_first c.args.one.now c.args.other.now (c.loop-page.page * 512) c.loop-page.best c.learn_pair.ensures.pair
    (omega (arith, c.page_count-page-end.ensures, c.loop-page-test.false)) c.loop-page.invariant
