use Rattle.std.proofs.Common.{◌*◌}
use Rattle.replica_compare.specs.Blocks.{IsFirstBelow}
use Rattle.replica_compare.proofs.readings.first_other_reading.Given as goal

abbrev pub invariant-loop-page : goal.invariant-loop-page
invariant-loop-page l = IsFirstBelow l.one l.other (l.page * 512) l.best
