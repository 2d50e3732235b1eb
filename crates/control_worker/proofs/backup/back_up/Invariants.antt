use Rattle.std.proofs.Common.{◌≡◌, [], true}
use Rattle.backup_make.specs.Making.{AddsBlocks}
use Rattle.stream_steps.specs.Mine.{with_running}
use Rattle.client_worker.specs.Working.{IsServing}
use Rattle.control_worker.specs.Giver.{GivesOn}
use Rattle.control_worker.proofs.backup.back_up.Given as goal

-- the tries before have left blocks at most
abbrev pub invariant-loop : goal.invariant-loop
invariant-loop g l = record {
  serving : IsServing g.C.CommandSteps.ready (λ s. with_running (g.C.CommandSteps.mine s) []) g.L.Line.count g.L.Line.carried
      (record { steps = l.steps; channels = l.channels });
  keeps : GivesOn g.C.CommandSteps.home g.C.CommandSteps.mine g.C.BackupSteps.copies g.L.Line.ends
      (record { steps = l.initial.steps; channels = l.initial.channels }) (record { steps = l.steps; channels = l.channels });
  adds : g.T.Target.tells ≡ true → AddsBlocks l.volume (g.T.Target.holds l.initial.target) (g.T.Target.holds l.target);
  count : g.T.Target.faults l.target ≡ g.T.Target.faults l.initial.target;
  last : l.last ≡ l.initial.last;
}
