-- What restoring a backup writes and answers: its cfg first, then its blocks.
use Rattle.std.specs.Prelude.{◌≡◌, ◌⊎◌, ⊤, ℕ, List, Option, Result, Ok, Err}
use Rattle.std.specs.Io.KnownBytes.{Appends}
use Rattle.outer_traits.specs.Passing.{WritesPrefix}
use Rattle.target_traits.specs.Objects.{Objects}
use Rattle.backup_units.specs.Backups.{AreWhole, disk_of}
use Rattle.backup_config.specs.declared.backup_cfg.BackupCfg.{BackupCfg}
use Rattle.backup_restore.specs.ReadCfg.{IsCfgOf, RefusesCfg}
use Rattle.backup_restore.specs.Restoring.{IsFirstBad}
use Rattle.backup_restore.specs.declared.error.Refusal.{Refusal}
use Rattle.backup_restore.specs.declared.error.RestoreError.{RestoreError}
use Rattle.backup_restore.specs.declared.error.RestoreError.TheVariants.{Refused, TargetFault, WriteFault, NoMemory}
use Rattle.backup_restore.specs.declared.error.StoredObject.{StoredObject}

-- the disk of the backup: that of the list in its cfg
abbrev pub IsDiskOf : Objects → List ℕ → List ℕ → List ℕ → Type 0
IsDiskOf objects volume backup disk =
    (cfg : BackupCfg) × IsCfgOf objects volume backup cfg × (disk ≡ disk_of objects volume cfg.list.blocks)

-- the disk was written, whole
abbrev pub WritesDisk : Objects → List ℕ → List ℕ → Option (List ℕ) → Option (List ℕ) → Type 0
WritesDisk objects volume backup old new = (disk : List ℕ) × IsDiskOf objects volume backup disk × Appends old new disk

-- nothing was written, or a beginning of the disk
abbrev pub WritesSome : Objects → List ℕ → List ℕ → Option (List ℕ) → Option (List ℕ) → Type 0
WritesSome objects volume backup old new =
    (new ≡ old) ⊎ ((disk : List ℕ) × IsDiskOf objects volume backup disk × WritesPrefix old new disk)

-- the cfg is read, and all blocks that it lists are whole
abbrev pub IsRestorable : Objects → List ℕ → List ℕ → Type 0
IsRestorable objects volume backup =
    (cfg : BackupCfg) × IsCfgOf objects volume backup cfg × AreWhole objects volume cfg.list.blocks

-- what is refused, and under which kind: a cfg, or the first block that is bad of those that the cfg lists
abbrev pub RefusesBackup : Objects → List ℕ → List ℕ → Refusal → StoredObject → Type 0
RefusesBackup objects volume backup kind object =
    RefusesCfg objects volume backup kind object
    ⊎ ((cfg : BackupCfg) × IsCfgOf objects volume backup cfg
    × (page : ℕ) × IsFirstBad objects volume cfg.list.blocks page kind object)

-- what the answer tells; faults and want of memory tell nothing of the backup
abbrev pub AnswersRestore : {T : Type 0} → Objects → List ℕ → List ℕ → Result T RestoreError → Type 0
AnswersRestore objects volume backup (Ok done) = IsRestorable objects volume backup
AnswersRestore objects volume backup (Err (Refused kind object)) = RefusesBackup objects volume backup kind object
AnswersRestore objects volume backup (Err TargetFault) = ⊤
AnswersRestore objects volume backup (Err WriteFault) = ⊤
AnswersRestore objects volume backup (Err NoMemory) = ⊤
