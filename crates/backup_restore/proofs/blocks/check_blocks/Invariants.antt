use Rattle.std.proofs.Common.{◌≡◌, ◌<◌, ℕ, true}
use Rattle.backup_units.specs.Backups.{IsWhole, listed_at}
use Rattle.backup_restore.proofs.blocks.check_blocks.Given as goal

abbrev pub invariant-loop-page : goal.invariant-loop-page
invariant-loop-page g l = record {
  whole : g.T.Target.tells ≡ true → (k : ℕ) → k < l.page-index
      → IsWhole (g.T.Target.holds l.initial.target) l.volume (listed_at l.listed k);
  same : g.T.Target.holds l.target ≡ g.T.Target.holds l.initial.target;
  faults : g.T.Target.faults l.target ≡ g.T.Target.faults l.initial.target;
}
