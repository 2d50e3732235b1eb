use Rattle.std.proofs.Common.{◌≡◌, true, take}
use Rattle.backup_restore.specs.Listed.{AreLines}
use Rattle.backup_restore.proofs.list.lines_of.Given as goal

abbrev pub invariant-loop-name : goal.invariant-loop-name
invariant-loop-name g l = record {
  lines : g.T.Target.tells ≡ true
      → AreLines (g.T.Target.holds l.initial.target) l.volume (take l.name-index l.names) l.text.items;
  same : g.T.Target.holds l.target ≡ g.T.Target.holds l.initial.target;
  faults : g.T.Target.faults l.target ≡ g.T.Target.faults l.initial.target;
}
