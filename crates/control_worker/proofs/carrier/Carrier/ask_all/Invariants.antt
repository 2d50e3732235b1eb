use Rattle.std.proofs.Common.{◌≡◌, ◌⊎◌, ℕ, ◌<◌}
use Rattle.volume_model.specs.declared.mode.Mode.TheVariants.{Err as Failed}
use Rattle.volume_model.specs.Modes.{mode_of}
use Rattle.client_worker.specs.Working.{told_by}
use Rattle.control_worker.specs.Carrying.{Keeps}
use Rattle.control_worker.specs.Frames.{AsksPart}
use Rattle.control_worker.specs.Whole.{KeepsWhole, OwesNone, PartsShown}
use Rattle.control_worker.proofs.carrier.Carrier.ask_all.Given as goal

-- the operation goes on
abbrev pub invariant-loop-r : goal.invariant-loop-r
invariant-loop-r g l = record {
  keeps : Keeps g.C.CommandSteps.home g.C.CommandSteps.begun g.L.Line.ends l.fn.self l.self;
  asks : AsksPart l.fn.whole.op l.rooms;
  shown : PartsShown l.fn.whole.ticket l.fn.whole.op (g.C.CommandSteps.mine l.self.steps) (told_by g.L.Line.carried l.self);
  goes : KeepsWhole l.fn.whole.ticket (g.C.CommandSteps.mine l.fn.self.steps) (g.C.CommandSteps.mine l.self.steps);
  asked : (r : ℕ) → r < l.r → OwesNone l.fn.whole.ticket l.fn.whole.op r (g.C.CommandSteps.mine l.self.steps)
      ⊎ ((seen : g.row.C.Denot) × (g.C.CommandSteps.home seen ≡ g.C.CommandSteps.home l.fn.self.steps)
      × (mode_of (g.C.CommandSteps.modes seen) r ≡ Failed));
}
