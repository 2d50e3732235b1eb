use Rattle.std.proofs.Common.{◌≡◌, ◌+◌, ◌≤◌, length}
use Rattle.image_runs.specs.Runs.{runs}
use Rattle.packed_bytes.proofs.count.is_shorter.Given as goal

abbrev pub invariant-loop-piece : goal.invariant-loop-piece
invariant-loop-piece l = record {
  value : l.count + length (runs l.rest) ≡ length (runs l.list);
  most : l.count + length l.rest ≤ length l.list;
}

abbrev pub decreases-loop-piece : goal.decreases-loop-piece
decreases-loop-piece l = length l.rest
