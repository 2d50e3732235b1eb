-- What each reading of a backup makes of a World.
use Rattle.std.specs.Prelude.{◌≡◌, ◌⊎◌, ℕ, List}
use Rattle.step_answers.specs.declared.answers.NotThis.{NotThis}
use Rattle.volume_core.specs.State.{State}
use Rattle.volume_backup.specs.Answers.{GivesPage, AgainstPage}
use Rattle.core_laws.specs.declared.backup_step.BackupStep.{BackupStep}
use Rattle.core_laws.specs.declared.backup_step.BackupStep.TheVariants as step

-- the replica gave the page, and the World is as it was
pub record TakesPage (s : State) (replica : ℕ) (name : List ℕ) (page : ℕ) (s2 : State) : Type 0 where
  pub bytes : List ℕ
  pub gives : GivesPage s replica name page bytes
  pub same : s2 ≡ s

-- the step could be taken, and makes that of the World
abbrev pub TakesBackup : BackupStep → State → State → Type 0
TakesBackup (step.SnapPage replica name page) s s2 = TakesPage s replica name page s2

-- something stands against the step: its condition fails
abbrev pub IsAgainstBackup : BackupStep → State → Type 0
IsAgainstBackup (step.SnapPage replica name page) s = (why : NotThis) × AgainstPage s replica name page why

-- the step is taken, or something stands against it, and it is skipped
abbrev pub MakesBackup : BackupStep → State → State → Type 0
MakesBackup x s s2 = TakesBackup x s s2 ⊎ (IsAgainstBackup x s × (s2 ≡ s))
