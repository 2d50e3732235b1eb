use Rattle.std.proofs.Common.{◌≡◌, true, ◌++◌, map, None, All}
use Rattle.desk_lock.specs.Seats.{known, number_of, made_of, last_of, IsSeatOf}
use Rattle.stream_turns.specs.Volume.{heads_of}
use Rattle.stream_workers.specs.Tasks.{IsIn}
use Rattle.stream_workers.proofs.tasks.take_all_in.Given as goal

-- The tasks before are taken in.
abbrev pub invariant-loop-task : goal.invariant-loop-task
invariant-loop-task g l = record {
  whole : l.yielded ++ l.task-iterator.rest.items ≡ l.fn.tasks.items;
  seat : IsSeatOf l.desk l.first;
  first : number_of l.first ≡ None;
  made : made_of l.first ≡ made_of l.initial.first;
  last : last_of l.first ≡ last_of l.initial.first;
  joined : All (IsIn g.V.Wrapped.Line.count g.V.Wrapped.Line.carried (known l.first).joined (g.W.Wiring.counts l.wiring)
      (g.W.Wiring.carried l.wiring)) l.yielded;
  asked : g.W.Wiring.asked l.wiring ≡ g.W.Wiring.asked l.fn.wiring;
  heads : l.well ≡ true → l.heads.items ≡ map (λ j. heads_of j.stream) l.yielded;
}
