use Rattle.std.proofs.Common.{◌≡◌, ◌≤◌, ◌<◌, ℕ, None}
use Rattle.backup_units.specs.Backups.{listed_at}
use Rattle.backup_make.proofs.gather.copy_list.Given as goal

abbrev pub invariant-loop-page : goal.invariant-loop-page
invariant-loop-page l = record {
  done : (k : ℕ) → k < l.page → listed_at l.blocks k ≡ listed_at l.listed k;
  rest : (k : ℕ) → l.page ≤ k → listed_at l.blocks k ≡ None;
}
