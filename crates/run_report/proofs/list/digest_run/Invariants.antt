use Rattle.std.proofs.Common.{◌≡◌, ◌++◌, replicate}
use Rattle.run_report.proofs.list.digest_run.Given as goal

-- what is hashed, and then the bytes that are left, are all
abbrev pub invariant-loop-left : goal.invariant-loop-left
invariant-loop-left l = l.digest ++ replicate l.left l.byte ≡ l.fn.digest ++ replicate l.count l.byte

abbrev pub decreases-loop-left : goal.decreases-loop-left
decreases-loop-left l = l.left
