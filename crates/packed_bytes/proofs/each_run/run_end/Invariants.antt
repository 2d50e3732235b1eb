use Rattle.std.proofs.Common.{◌≡◌, ◌==◌, ◌+◌, ◌-◌, ◌≤◌}
use Rattle.std.specs.List.{prefix_len}
use Rattle.packed_bytes.specs.Packed.{part}
use Rattle.packed_bytes.proofs.each_run.run_end.Given as goal

abbrev pub invariant-loop-end : goal.invariant-loop-end
invariant-loop-end l = let in_a_row = prefix_len (λ b. b == l.byte) in record {
  order : l.at ≤ l.end;
  within : l.end ≤ l.until;
  run : l.end + in_a_row (part l.store.items l.end l.until) ≡ l.at + in_a_row (part l.store.items l.at l.until);
}

abbrev pub decreases-loop-end : goal.decreases-loop-end
decreases-loop-end l = l.until - l.end
