use Rattle.std.proofs.Common.{◌≡◌}
use Rattle.client_worker.specs.Working.{StaysHome}
use Rattle.client_worker.proofs.carrier.Carrier.await_end.Given as goal

-- nothing has changed for the stream
abbrev pub invariant-loop : goal.invariant-loop
invariant-loop g l = record {
  stays : StaysHome g.C.ClientSteps.home l.initial.self l.self;
  same : g.C.ClientSteps.mine l.self.steps ≡ g.C.ClientSteps.mine l.initial.self.steps;
}
