use Rattle.std.proofs.Common.{◌≡◌, ◌≤◌, length, take}
use Rattle.image_runs.specs.Runs.{runs}
use Rattle.packed_bytes.proofs.count.run_count.Given as goal

abbrev pub invariant-loop-i : goal.invariant-loop-i
invariant-loop-i l = record { value : l.count ≡ length (runs (take l.i l.bytes)); most : l.count ≤ l.i }
