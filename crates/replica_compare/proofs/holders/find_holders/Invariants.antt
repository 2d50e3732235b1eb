use Rattle.replica_compare.specs.Holders.{AreHolders}
use Rattle.replica_compare.proofs.holders.find_holders.Given as goal

abbrev pub invariant-loop-place : goal.invariant-loop-place
invariant-loop-place l = AreHolders l.one l.other l.page l.place l.holders
