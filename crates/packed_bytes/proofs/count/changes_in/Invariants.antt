use Rattle.std.proofs.Common.{◌≡◌, ◌+◌, ◌≤◌, length, take}
use Rattle.image_runs.specs.Runs.{runs}
use Rattle.packed_bytes.proofs.count.changes_in.Given as goal

abbrev pub invariant-loop-i : goal.invariant-loop-i
invariant-loop-i l = record { value : l.changes + 1 ≡ length (runs (take (l.i + 1) l.piece)); most : l.changes ≤ l.i }
