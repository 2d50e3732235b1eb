use Rattle.replica_compare.specs.Blocks.{AreTwins}
use Rattle.replica_compare.proofs.twins.find_twins.Given as goal

abbrev pub invariant-loop-place : goal.invariant-loop-place
invariant-loop-place l = AreTwins l.one l.other l.place l.twins
