-- A backup that is there is restored as the disk that it is of.
use Rattle.std.proofs.Common.{◌≡◌, ℕ, List, None, Some, Result, Ok, Err, inl, inr, sym, ap, subst, ◌∙◌}
use Rattle.serde_json.specs.Written.{compact_text}
use Rattle.target_traits.specs.Objects.{Objects}
use Rattle.backup_units.specs.Backups.{disk_of}
use Rattle.backup_config.specs.BackupCfgs.{backup_data, SaysBackup}
use Rattle.backup_config.specs.declared.backup_cfg.BackupCfg.{BackupCfg}
use Rattle.backup_config.specs.declared.error.CfgError.{CfgError}
use Rattle.backup_config.specs.declared.error.CfgError.TheVariants as cfg_error
use Rattle.backup_config.specs.declared.error.CfgMember.TheVariants.{DiskSize}
use Rattle.backup_config.proofs.MemberLemmas.{only_backup}
use Rattle.backup_make.specs.Made.{HasBackup}
use Rattle.backup_restore.specs.ReadCfg.{LacksSize, IsCfgOf}
use Rattle.backup_restore.specs.Restored.{IsDiskOf, IsRestorable}
use Rattle.backup_restore.proofs.OneAnswer.{one_cfg}

abbrev read_as : BackupCfg → Result BackupCfg CfgError
read_as cfg = Ok cfg

abbrev refused_by : CfgError → Result BackupCfg CfgError
refused_by e = Err e

not_refused : (cfg : BackupCfg) (e : CfgError) → read_as cfg ≡ refused_by e → ⊥
not_refused cfg e same = cc

other_error : refused_by (cfg_error.Missing DiskSize) ≡ refused_by cfg_error.NoMemory → ⊥
other_error same = cc

one_held : (held : List ℕ) (other : List ℕ) → Some held ≡ Some other → held ≡ other
one_held held other same = cc

module _ (objects : Objects) (volume backup disk : List ℕ) (is : HasBackup objects volume backup disk) where
  abbrev text : List ℕ
  text = compact_text (backup_data is.cfg)

  -- its cfg tells its size
  tells_size : LacksSize objects volume backup → ⊥
  tells_size (bytes, there, lacks) =
      elim (only_backup volume backup None text (Ok is.cfg) (is.says None) (Err (cfg_error.Missing DiskSize)) other_error
      (subst (λ held. SaysBackup volume backup None held (Err (cfg_error.Missing DiskSize)))
      (one_held bytes text (sym there ∙ is.there)) lacks)) [
        | inl same ↦ not_refused is.cfg (cfg_error.Missing DiskSize) same
        | inr same ↦ not_refused is.cfg cfg_error.NoMemory same
      ]

  its_cfg : IsCfgOf objects volume backup is.cfg
  its_cfg = (None, tells_size, (text, is.there, is.says None))

  pub restorable : IsRestorable objects volume backup
  restorable = (is.cfg, its_cfg, is.list.whole)

  pub its_disk : IsDiskOf objects volume backup disk
  its_disk = (is.cfg, its_cfg, sym is.list.bytes)

  pub one_disk : (other : List ℕ) → IsDiskOf objects volume backup other → other ≡ disk
  one_disk other (cfg, read, of) =
      of ∙ ap (λ (c : BackupCfg). disk_of objects volume c.list.blocks) (one_cfg objects volume backup cfg is.cfg read its_cfg)
      ∙ is.list.bytes
