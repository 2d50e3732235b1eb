use Rattle.std.proofs.Common.{◌<◌, ◌≤◌, ◌-◌, length}
use Rattle.std.specs.List.{All}
use Rattle.packed_bytes.specs.Packed.{part}
use Rattle.packed_bytes.proofs.list.know_part.Given as goal

abbrev pub invariant-loop-next : goal.invariant-loop-next
invariant-loop-next l = record {
  begun : l.at ≤ l.next;
  within : l.next ≤ length l.store.items;
  bytes : All (λ b. b < 256) (part l.store.items l.at l.next);
}

abbrev pub decreases-loop-next : goal.decreases-loop-next
decreases-loop-next l = l.until - l.next
