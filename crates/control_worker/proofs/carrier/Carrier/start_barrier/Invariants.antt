use Rattle.control_worker.proofs.CarrierLemmas.{IsUnchanged}
use Rattle.control_worker.proofs.carrier.Carrier.start_barrier.Given as goal

abbrev pub invariant-loop : goal.invariant-loop
invariant-loop g l = record {
  unchanged : IsUnchanged g.C.CommandSteps.ready g.C.CommandSteps.mine g.C.CommandSteps.home g.L.Line.count g.L.Line.carried l.fn.self
      (record { steps = l.self-inside.steps; channels = l.self-inside.channels.items });
  unbegun : g.C.CommandSteps.unbegun l.self-inside.steps;
}
