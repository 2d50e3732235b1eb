use Rattle.std.proofs.Common.{◌≡◌, ℕ, ◌<◌, ◌≤◌, [], length, slice_index_or}
use Rattle.desk_trial.proofs.trial.Given as goal

abbrev pub invariant-loop : goal.invariant-loop
invariant-loop g l = length l.lists.items ≡ l.counter

abbrev pub invariant-loop-2 : goal.invariant-loop-2
invariant-loop-2 g l = record {
  long : l.streams ≤ length l.lists.items;
  empty : (n : ℕ) (d : _) → n < length l.lists.items → l.streams ≤ n → (slice_index_or l.lists.items n d).items ≡ [];
}
