use Rattle.std.proofs.Common.{arith}
use Rattle.location_map.specs.LocationMap.{index_without}
use Rattle.location_map.proofs.KnownLemmas.{changed_more}
use Rattle.location_map.proofs.map.renumber_all.Goals as goal

pub loop-index-preserved : goal.loop-index-preserved
loop-index-preserved c =
    rw c.renumbered.ensures
    (changed_more (index_without c.args.gone) c.args.indices.now c.loop-index.indices c.loop-index.index-index (omega arith)
    c.loop-index.invariant)
