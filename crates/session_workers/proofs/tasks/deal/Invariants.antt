use Rattle.std.proofs.Common.{◌≡◌, ◌≤◌, [], ◌++◌, length, map, None, All, vec_capacity}
use Rattle.desk_lock.specs.Seats.{known, number_of, made_of, last_of, IsSeatOf}
use Rattle.world_holder.specs.Laid.{laid}
use Rattle.session_workers.specs.Tasks.{IsTask, AreNumbered}
use Rattle.session_workers.proofs.tasks.deal.Given as goal

-- The clients before have their tasks, and the next has the number of them.
abbrev pub invariant-loop-client : goal.invariant-loop-client
invariant-loop-client g l = record {
  whole : l.yielded ++ l.client-iterator.rest.items ≡ l.fn.clients.items;
  seat : IsSeatOf l.desk l.first;
  first : number_of l.first ≡ None;
  joined : (known l.first).joined ≡ [];
  made : made_of l.first ≡ l.number;
  last : last_of l.first ≡ last_of l.initial.first;
  count : l.number ≡ length l.yielded;
  many : length l.tasks.items ≡ length l.yielded;
  room : length l.fn.clients.items ≤ vec_capacity l.tasks;
  tasks : All (IsTask (length (laid (last_of l.initial.first)).nodes) l.desk) l.tasks.items;
  numbered : AreNumbered l.tasks.items;
  clients : map (λ j. j.client) l.tasks.items ≡ l.yielded;
}
