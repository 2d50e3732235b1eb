use Rattle.std.proofs.Common.{◌≤◌, length, vec_capacity}
use Rattle.stream_steps.specs.Seen.{TellsSource}
use Rattle.client_worker.specs.Serving.{KeepsOpen}
use Rattle.client_worker.specs.Ends.{NoneAcked}
use Rattle.client_worker.specs.Working.{Stays}
use Rattle.client_worker.proofs.carrier.Carrier.carry_read.Given as goal

-- the read goes on, no replica has acknowledged it, and the one to ask was read as it was seen last
abbrev pub invariant-loop : goal.invariant-loop
invariant-loop g l = record {
  stays : Stays g.C.ClientSteps.home g.L.Line.ends l.initial.self l.self;
  room : vec_capacity l.initial.room ≤ vec_capacity l.room;
  goes : KeepsOpen (g.C.ClientSteps.mine l.initial.self.steps) (g.C.ClientSteps.mine l.self.steps);
  none : NoneAcked (g.C.ClientSteps.mine l.self.steps);
  source : TellsSource (g.C.ClientSteps.modes l.self.steps) (length l.self.channels) l.source;
}
