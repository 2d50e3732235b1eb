use Rattle.replica_compare.specs.Holders.{AreBare}
use Rattle.replica_compare.proofs.holders.find_bare.Given as goal

abbrev pub invariant-loop-place : goal.invariant-loop-place
invariant-loop-place l = AreBare l.one l.other l.place l.bare
