use Rattle.std.proofs.Common.{[]}
use Rattle.stream_steps.specs.Mine.{with_running}
use Rattle.client_worker.specs.Working.{IsServing}
use Rattle.control_worker.specs.Giver.{GivesOn}
use Rattle.control_worker.proofs.giver.give_page.Given as goal

-- the replicas before gave none
abbrev pub invariant-loop : goal.invariant-loop
invariant-loop g l = record {
  serving : IsServing g.C.CommandSteps.ready (λ s. with_running (g.C.CommandSteps.mine s) []) g.L.Line.count g.L.Line.carried
      (record { steps = l.steps; channels = l.channels });
  keeps : GivesOn g.C.CommandSteps.home g.C.CommandSteps.mine g.C.BackupSteps.copies g.L.Line.ends
      (record { steps = l.initial.steps; channels = l.initial.channels }) (record { steps = l.steps; channels = l.channels });
}
