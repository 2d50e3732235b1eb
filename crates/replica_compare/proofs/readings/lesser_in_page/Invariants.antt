use Rattle.replica_compare.specs.Blocks.{IsFirstBelow}
use Rattle.replica_compare.proofs.readings.lesser_in_page.Given as goal

abbrev pub invariant-loop-block : goal.invariant-loop-block
invariant-loop-block l = IsFirstBelow l.one l.other l.block l.best
