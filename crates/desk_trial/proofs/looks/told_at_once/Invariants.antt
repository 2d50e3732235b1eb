use Rattle.std.proofs.Common.{◌≡◌, ◌<◌, Some}
use Rattle.desk_lock.specs.Seats.{number_of, last_of, IsSeatOf}
use Rattle.desk_trial.specs.Books.{streams_of}
use Rattle.desk_trial.proofs.looks.told_at_once.Given as goal

abbrev pub invariant-loop-call : goal.invariant-loop-call
invariant-loop-call g l = record {
  caller : IsSeatOf l.desk l.caller;
  number : number_of l.caller ≡ Some 0;
  inside : 0 < streams_of (last_of l.caller);
  looker : IsSeatOf l.desk l.looker;
}
