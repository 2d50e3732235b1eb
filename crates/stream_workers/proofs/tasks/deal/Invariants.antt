use Rattle.std.proofs.Common.{◌≡◌, [], ◌++◌, length, map, None, All}
use Rattle.desk_lock.specs.Seats.{known, number_of, made_of, last_of, IsSeatOf}
use Rattle.outer_traits.specs.Lines.{TellsMore}
use Rattle.stream_turns.specs.Volume.{asks_from}
use Rattle.stream_workers.specs.Tasks.{IsTask, AreNumbered}
use Rattle.stream_workers.proofs.tasks.deal.Given as goal

-- The streams before have their tasks, whose lines were asked for, and the next has the number of them.
abbrev pub invariant-loop-stream : goal.invariant-loop-stream
invariant-loop-stream g l = record {
  whole : l.yielded ++ l.stream-iterator.rest.items ≡ l.fn.streams.items;
  seat : IsSeatOf l.desk l.first;
  first : number_of l.first ≡ None;
  joined : (known l.first).joined ≡ [];
  made : made_of l.first ≡ l.number;
  last : last_of l.first ≡ last_of l.initial.first;
  count : l.number ≡ length l.yielded;
  many : length l.tasks.items ≡ length l.yielded;
  tasks : All (IsTask g.V.Wrapped.Line.ends g.V.Wrapped.Line.count g.V.Wrapped.Line.carried l.desk) l.tasks.items;
  numbered : AreNumbered l.tasks.items;
  streams : map (λ j. j.stream) l.tasks.items ≡ l.yielded;
  asked : TellsMore (g.W.Wiring.asked l.fn.wiring) (g.W.Wiring.asked l.wiring) (asks_from l.plans l.replicas l.number);
}
