use Rattle.std.proofs.Common.{◌≡◌, ◌==◌, ◌+◌, drop}
use Rattle.std.specs.List.{prefix_len}
use Rattle.image_runs.proofs.run.length_singly.Given as goal

abbrev pub invariant-loop-i : goal.invariant-loop-i
invariant-loop-i l = l.i + prefix_len (λ x. x == l.byte) (drop l.i l.bytes) ≡ prefix_len (λ x. x == l.byte) l.bytes
