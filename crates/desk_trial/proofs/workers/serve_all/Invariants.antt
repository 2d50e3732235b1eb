use Rattle.std.proofs.Common.{◌≡◌, ◌<◌, ◌++◌, map, take, Some}
use Rattle.desk_lock.specs.Seats.{number_of, last_of, IsSeatOf}
use Rattle.desk_trial.specs.Books.{note_of, notes_in, streams_of}
use Rattle.desk_trial.proofs.workers.serve_all.Given as goal

abbrev pub invariant-loop-value : goal.invariant-loop-value
invariant-loop-value g l = record {
  seat : IsSeatOf l.desk l.seat;
  number : number_of l.seat ≡ Some l.stream;
  inside : l.stream < streams_of (last_of l.seat);
  mine : notes_in l.stream (last_of l.seat) ≡ notes_in l.stream (last_of l.initial.seat)
      ++ map (note_of l.stream) (take l.value-index l.values);
}
