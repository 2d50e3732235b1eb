use Rattle.std.proofs.Common.{ℕ, Bool}
use Rattle.control_worker.proofs.CarrierLemmas.{IsUnchanged}
use Rattle.control_worker.proofs.carrier.Carrier.await_end.Given as goal

abbrev pub invariant-loop : goal.invariant-loop
invariant-loop g l = record {
  unchanged : IsUnchanged g.C.CommandSteps.ready g.C.CommandSteps.mine g.C.CommandSteps.home g.L.Line.count g.L.Line.carried l.fn.self
      (record { steps = l.self-inside.steps; channels = l.self-inside.channels.items });
  begun : (past : Bool) (source r : ℕ) → g.C.CommandSteps.begun l.fn.self.steps past source r
      → g.C.CommandSteps.begun l.self-inside.steps past source r;
}
