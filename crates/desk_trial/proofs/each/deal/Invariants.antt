use Rattle.std.proofs.Common.{◌≡◌, ℕ, ◌<◌, [], length, map, slice_index_or, None}
use Rattle.desk_lock.specs.Seats.{known, number_of, made_of, last_of, IsSeatOf}
use Rattle.desk_trial.specs.Jobs.{IsJob}
use Rattle.desk_trial.proofs.each.deal.Given as goal

abbrev pub invariant-loop-values : goal.invariant-loop-values
invariant-loop-values l = record {
  seat : IsSeatOf l.desk l.seat;
  first : number_of l.seat ≡ None;
  joined : (known l.seat).joined ≡ [];
  made : made_of l.seat ≡ l.stream;
  count : l.stream ≡ length l.jobs.items;
  jobs : (k : ℕ) (d : _) → k < length l.jobs.items → IsJob l.desk (slice_index_or l.jobs.items k d);
  numbers : (k : ℕ) (d : _) → k < length l.jobs.items → (slice_index_or l.jobs.items k d).stream ≡ k;
  values : map (λ j. j.values) l.jobs.items ≡ l.yielded;
  last : last_of l.seat ≡ last_of l.initial.seat;
}
