-- A restored backup: what its blocks answer is the answer, since its cfg was read.
use Rattle.std.proofs.Common.{ℕ, List, Option, Result, Ok, Err, OnOk, inl, inr, refl}
use Rattle.std.specs.Io.KnownBytes.{Appends}
use Rattle.outer_traits.specs.Passing.{WritesPrefix}
use Rattle.target_traits.specs.Objects.{Objects}
use Rattle.backup_units.specs.Backups.{disk_of}
use Rattle.backup_config.specs.declared.backup_cfg.BackupCfg.{BackupCfg}
use Rattle.backup_restore.specs.ReadCfg.{IsCfgOf, AnswersCfg}
use Rattle.backup_restore.specs.Restored.{AnswersRestore, WritesDisk, WritesSome}
use Rattle.backup_restore.specs.Restoring.{AnswersBlocks}
use Rattle.backup_restore.specs.declared.error.RestoreError.{RestoreError}
use Rattle.backup_restore.specs.declared.error.RestoreError.TheVariants.{Refused, TargetFault, WriteFault, NoMemory}

module _ (objects : Objects) (volume backup : List ℕ) where
  -- the cfg is refused
  pub cfg_refuses : (e : RestoreError) → AnswersCfg objects volume backup (Err e)
      → AnswersRestore {T = Unit {0}} objects volume backup (Err e)
  cfg_refuses (Refused kind object) is = inl is
  cfg_refuses TargetFault is = tt
  cfg_refuses WriteFault is = tt
  cfg_refuses NoMemory is = tt

  -- the cfg was read
  module _ (cfg : BackupCfg) (is : IsCfgOf objects volume backup cfg) where
    pub blocks_answer : (r : Result (Unit {0}) RestoreError) → AnswersBlocks objects volume cfg.list.blocks r
        → AnswersRestore objects volume backup r
    blocks_answer (Ok done) whole = (cfg, is, whole)
    blocks_answer (Err (Refused kind object)) (page, bad) = inr (cfg, is, page, bad)
    blocks_answer (Err TargetFault) r = tt
    blocks_answer (Err WriteFault) r = tt
    blocks_answer (Err NoMemory) r = tt

    pub disk_written : (r : Result (Unit {0}) RestoreError) (old new : Option (List ℕ))
        → OnOk r (Appends old new (disk_of objects volume cfg.list.blocks)) → OnOk r (WritesDisk objects volume backup old new)
    disk_written (Ok done) old new wrote = (disk_of objects volume cfg.list.blocks, (cfg, is, refl), wrote)
    disk_written (Err e) old new wrote = tt

    pub some_written : (old new : Option (List ℕ)) → WritesPrefix old new (disk_of objects volume cfg.list.blocks)
        → WritesSome objects volume backup old new
    some_written old new wrote = inr (disk_of objects volume cfg.list.blocks, (cfg, is, refl), wrote)
