use Rattle.std.proofs.Common.{◌≡◌, ◌++◌, length}
use Rattle.image_runs.specs.Runs.{run_bytes}
use Rattle.run_report.proofs.list.digest_runs.Given as goal

-- what is hashed, and then the bytes of the runs that are left, are all
abbrev pub invariant-loop-byte : goal.invariant-loop-byte
invariant-loop-byte l = l.digest ++ run_bytes l.left ≡ l.fn.digest ++ l.list

abbrev pub decreases-loop-byte : goal.decreases-loop-byte
decreases-loop-byte l = length l.left
