use Rattle.std.proofs.Common.{◌≡◌, ◌≤◌, ℕ, true, take, IfSome}
use Rattle.std.specs.Prelude.{All}
use Rattle.target_traits.specs.Objects.{Objects}
use Rattle.client_worker.specs.Working.{Stays}
use Rattle.control_worker.specs.Backups.{IsLast}
use Rattle.control_worker.specs.Serving.{Commanded}
use Rattle.control_worker.specs.Store.{IsNoBackup, StoreSoFar, TellsFault}
use Rattle.control_worker.proofs.carrier.Carrier.answer_all.Given as goal

-- the commands before are answered
abbrev pub invariant-loop-command : goal.invariant-loop-command
invariant-loop-command g l =
    let mine = g.C.CommandSteps.mine in
    let holds = g.T.Target.holds in
    let faults = g.T.Target.faults in
    record {
      stays : Stays g.C.CommandSteps.home g.L.Line.ends l.initial.self l.self;
      done : Commanded (take l.command-index l.commands) (mine l.initial.self.steps) (mine l.self.steps);
      last : IfSome l.last (IsLast g.T.Target.tells (holds l.target) l.volume (mine l.self.steps).entries);
      store : g.T.Target.tells ≡ true → (first : Objects) (from : ℕ)
          → StoreSoFar first from (holds l.initial.target) (faults l.initial.target) l.volume (mine l.initial.self.steps).entries
          → StoreSoFar first from (holds l.target) (faults l.target) l.volume (mine l.self.steps).entries;
      fault : TellsFault l.target_fault (faults l.initial.target) (faults l.target);
      later : faults l.initial.target ≤ faults l.target;
      unasked : All IsNoBackup l.commands → l.target ≡ l.initial.target;
    }
