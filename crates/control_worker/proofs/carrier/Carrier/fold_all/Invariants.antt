use Rattle.std.proofs.Common.{◌≡◌, ℕ, ◌<◌}
use Rattle.volume_model.specs.Modes.{mode_of}
use Rattle.client_worker.specs.Working.{Stays}
use Rattle.control_worker.specs.Frames.{KeepsText}
use Rattle.control_worker.specs.Purges.{IsFolded}
use Rattle.control_worker.specs.Whole.{GoesOn}
use Rattle.control_worker.proofs.carrier.Carrier.fold_all.Given as goal

-- the purge goes on
abbrev pub invariant-loop-r : goal.invariant-loop-r
invariant-loop-r g l = record {
  stays : Stays g.C.CommandSteps.home g.L.Line.ends l.initial.self l.self;
  text : KeepsText l.initial.rooms l.rooms;
  goes : GoesOn (g.C.CommandSteps.mine l.initial.self.steps) (g.C.CommandSteps.mine l.self.steps);
  folded : (r : ℕ) → r < l.r
      → (seen : g.row.C.Denot) × (g.C.CommandSteps.home seen ≡ g.C.CommandSteps.home l.initial.self.steps)
      × IsFolded (g.C.CommandSteps.wants_fold seen r l.fn.fold.parent l.fn.fold.page) (mode_of (g.C.CommandSteps.modes seen) r)
      l.fn.fold.parent l.fn.fold.page (g.C.CommandSteps.seen seen);
}
