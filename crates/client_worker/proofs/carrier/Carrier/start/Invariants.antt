use Rattle.std.proofs.Common.{◌≡◌}
use Rattle.client_worker.proofs.carrier.Carrier.start.Given as goal

-- nothing has changed for the stream
abbrev pub invariant-loop : goal.invariant-loop
invariant-loop g l = record {
  ready : g.C.ClientSteps.ready l.self-inside.steps;
  home : g.C.ClientSteps.home l.self-inside.steps ≡ g.C.ClientSteps.home l.initial.self-inside.steps;
  same : g.C.ClientSteps.mine l.self-inside.steps ≡ g.C.ClientSteps.mine l.initial.self-inside.steps;
  lines : l.self-inside.channels ≡ l.initial.self-inside.channels;
}
