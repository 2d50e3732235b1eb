-- Of what an error of restoring tells.
use Rattle.std.specs.Prelude.{ℕ, Bool, true, false, List}
use Rattle.outer_traits.specs.declared.error.OuterError.{OuterError}
use Rattle.outer_traits.specs.declared.error.OuterError.TheVariants as outer
use Rattle.backup_units.specs.Names.{volume_name, cfg_name, block_name}
use Rattle.backup_restore.specs.declared.error.RestoreError.{RestoreError}
use Rattle.backup_restore.specs.declared.error.RestoreError.TheVariants.{Refused, TargetFault, WriteFault, NoMemory}
use Rattle.backup_restore.specs.declared.error.StoredObject.{StoredObject}
use Rattle.backup_restore.specs.declared.error.StoredObject.TheVariants.{BackupCfg, VolumeCfg, Block}

-- the name of an object of a volume
abbrev pub name_of : List ℕ → StoredObject → List ℕ
name_of volume (BackupCfg backup) = cfg_name volume backup
name_of volume VolumeCfg = volume_name volume
name_of volume (Block checksum) = block_name volume checksum

-- the error that an error of the sink becomes
abbrev pub error_of_outer : OuterError → RestoreError
error_of_outer outer.Failed = WriteFault
error_of_outer outer.NoMemory = NoMemory

-- an object is refused
abbrev pub is_refusal : RestoreError → Bool
is_refusal (Refused kind object) = true
is_refusal TargetFault = false
is_refusal WriteFault = false
is_refusal NoMemory = false

-- the target failed
abbrev pub is_target_fault : RestoreError → Bool
is_target_fault (Refused kind object) = false
is_target_fault TargetFault = true
is_target_fault WriteFault = false
is_target_fault NoMemory = false

-- the sink failed
abbrev pub is_write_fault : RestoreError → Bool
is_write_fault (Refused kind object) = false
is_write_fault TargetFault = false
is_write_fault WriteFault = true
is_write_fault NoMemory = false

-- the error that an error of the target becomes
abbrev pub error_of_target : OuterError → RestoreError
error_of_target outer.Failed = TargetFault
error_of_target outer.NoMemory = NoMemory
