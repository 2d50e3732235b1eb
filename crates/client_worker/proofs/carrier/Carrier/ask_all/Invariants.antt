use Rattle.std.proofs.Common.{◌≡◌, ◌≤◌, ◌<◌, length, drop, vec_capacity, IfSome}
use Rattle.frame_wire.specs.Spelling.{header_length}
use Rattle.client_worker.specs.Serving.{KeepsOpen}
use Rattle.client_worker.specs.Working.{Stays}
use Rattle.client_worker.proofs.Writing.{AreLeft, left_from}
use Rattle.client_worker.proofs.carrier.Carrier.ask_all.Given as goal

-- the write goes on, and the sets of the replicas from the next one on are as they were
abbrev pub invariant-loop-next : goal.invariant-loop-next
invariant-loop-next g l = record {
  stays : Stays g.C.ClientSteps.home g.L.Line.ends l.initial.self l.self;
  goes : KeepsOpen (g.C.ClientSteps.mine l.initial.self.steps) (g.C.ClientSteps.mine l.self.steps);
  room : vec_capacity l.initial.rooms.arrivals ≤ vec_capacity l.rooms.arrivals;
  long : length l.rooms.request.items ≡ length l.initial.rooms.request.items;
  request : drop header_length l.rooms.request.items ≡ drop header_length l.initial.rooms.request.items;
  many : length l.rooms.sets.items ≡ length l.initial.rooms.sets.items;
  inside : IfSome l.next (λ r. r < length l.self.channels);
  sets : AreLeft l.initial.rooms.sets.items l.rooms.sets.items l.next;
}

-- how many replicas there are from the next one on
abbrev pub decreases-loop-next : goal.decreases-loop-next
decreases-loop-next g l = left_from (length l.self.channels) l.next
