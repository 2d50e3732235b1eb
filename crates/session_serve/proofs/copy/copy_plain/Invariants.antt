use Rattle.std.proofs.Common.{◌≡◌, ◌≤◌, ◌-◌, ◌++◌, length, take, vec_capacity}
use Rattle.session_serve.proofs.copy.copy_plain.Given as goal

abbrev pub invariant-loop-next : goal.invariant-loop-next
invariant-loop-next l = record {
  within : l.next ≤ length l.list;
  bytes : l.into.items ≡ l.fn.into.items ++ take l.next l.list;
  room : vec_capacity l.fn.into ≤ vec_capacity l.into;
}

abbrev pub decreases-loop-next : goal.decreases-loop-next
decreases-loop-next l = length l.list - l.next
