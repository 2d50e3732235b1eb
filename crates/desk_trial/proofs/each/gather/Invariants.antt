use Rattle.std.proofs.Common.{◌≡◌, ℕ, ◌<◌, true, ◌++◌, length, slice_index_or, None}
use Rattle.desk_lock.specs.Seats.{known, number_of, made_of, last_of, IsSeatOf}
use Rattle.desk_trial.specs.Jobs.{HasPair}
use Rattle.desk_trial.proofs.each.gather.Given as goal

abbrev pub invariant-loop-done : goal.invariant-loop-done
invariant-loop-done l = record {
  whole : l.yielded ++ l.done-iterator.rest.items ≡ l.fn.all.items;
  seat : IsSeatOf l.desk l.seat;
  first : number_of l.seat ≡ None;
  made : made_of l.seat ≡ made_of l.initial.seat;
  pairs : (k : ℕ) (d : _) → k < length l.yielded → HasPair k (last_of (slice_index_or l.yielded k d).seat) (known l.seat).joined;
  ok : l.ok ≡ true → (k : ℕ) (d : _) → k < length l.yielded → (slice_index_or l.yielded k d).ok ≡ true;
}
