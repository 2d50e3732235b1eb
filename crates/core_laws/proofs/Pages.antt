-- A backup reads a page, or something stands against it, and nothing has changed.
use Rattle.std.proofs.Common.{◌≡◌, ℕ, List, Result, Ok, Err as Failed, OnOk, IfErr, inl, inr}
use Rattle.volume_core.specs.State.{State}
use Rattle.step_answers.specs.declared.answers.NotThis.{NotThis}
use Rattle.volume_backup.specs.Answers.{GivesPage, AgainstPage}
use Rattle.core_laws.specs.declared.backup_step.BackupStep.TheVariants as step
use Rattle.core_laws.specs.BackupTakes.{MakesBackup}

pub page_made : {A : Type 0} (s s2 : State) (replica page : ℕ) (name bytes : List ℕ) (res : Result A NotThis) → s2 ≡ s
    → OnOk res (GivesPage s replica name page bytes) → IfErr res (AgainstPage s replica name page)
    → MakesBackup (step.SnapPage replica name page) s s2
page_made s s2 replica page name bytes (Ok a) same gives why = inl (record { bytes = bytes; gives = gives; same = same })
page_made s s2 replica page name bytes (Failed e) same gives why = inr ((e, why), same)
