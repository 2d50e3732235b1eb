use Rattle.std.proofs.Common.{[], ◌∷◌}
use Rattle.volume_model.specs.declared.command.Command.TheVariants as command
use Rattle.stream_steps.specs.Mine.{OwnCall}
use Rattle.stream_steps.specs.Maint.{HasTurn}
use Rattle.client_worker.specs.Working.{Stays}
use Rattle.control_worker.specs.Purges.{PurgesOn}
use Rattle.control_worker.proofs.carrier.Carrier.take_all.Given as goal

-- the first parts are out
abbrev pub invariant-loop : goal.invariant-loop
invariant-loop g l = record {
  stays : Stays g.C.CommandSteps.home g.L.Line.ends l.initial.self l.self;
  on : (o : OwnCall) → HasTurn l.t command.Purge o (g.C.CommandSteps.mine l.initial.self.steps)
      → PurgesOn (o ∷ []) (g.C.CommandSteps.mine l.initial.self.steps) (g.C.CommandSteps.mine l.self.steps);
}
