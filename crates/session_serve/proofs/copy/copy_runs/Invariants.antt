use Rattle.std.proofs.Common.{◌≡◌, ◌≤◌, ◌++◌, length, vec_capacity}
use Rattle.image_runs.specs.Runs.{run_bytes}
use Rattle.session_serve.proofs.copy.copy_runs.Given as goal

-- what is copied, and then the bytes of the runs that are left, are all
abbrev pub invariant-loop-byte : goal.invariant-loop-byte
invariant-loop-byte l = record {
  bytes : l.into.items ++ run_bytes l.left ≡ l.fn.into.items ++ l.list;
  room : vec_capacity l.fn.into ≤ vec_capacity l.into;
}

abbrev pub decreases-loop-byte : goal.decreases-loop-byte
decreases-loop-byte l = length l.left
