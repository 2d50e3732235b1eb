use Rattle.std.proofs.Common.{◌≡◌, ◌≤◌, true, ◌++◌, length, map, None, Ok, All, vec_capacity}
use Rattle.desk_lock.specs.Seats.{known, number_of, made_of, last_of, told_of, IsSeatOf}
use Rattle.session_workers.specs.Tasks.{IsIn}
use Rattle.session_workers.proofs.tasks.take_all_in.Given as goal

-- The tasks before are taken in.
abbrev pub invariant-loop-task : goal.invariant-loop-task
invariant-loop-task g l = record {
  whole : l.yielded ++ l.task-iterator.rest.items ≡ l.fn.tasks.items;
  seat : IsSeatOf l.desk l.first;
  first : number_of l.first ≡ None;
  made : made_of l.first ≡ made_of l.initial.first;
  last : last_of l.first ≡ last_of l.initial.first;
  joined : All (IsIn (known l.first).joined (told_of l.first)) l.yielded;
  room : length l.fn.tasks.items ≤ vec_capacity l.clients;
  clients : l.clients.items ≡ map (λ j. j.client) l.yielded;
  ended : l.well ≡ true → map (λ e. Ok e) l.ended.items ≡ map (λ j. j.ended) l.yielded;
}
