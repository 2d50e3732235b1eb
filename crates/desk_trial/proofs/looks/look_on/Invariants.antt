use Rattle.std.proofs.Common.{◌≡◌, ◌≤◌}
use Rattle.desk_lock.specs.Seats.{known, told_of, IsSeatOf}
use Rattle.desk_trial.proofs.looks.look_on.Given as goal

abbrev pub invariant-loop : goal.invariant-loop
invariant-loop l = record {
  seat : IsSeatOf l.desk l.seat;
  same : known l.seat ≡ known l.initial.seat;
  told : l.before ≤ told_of l.seat;
}
