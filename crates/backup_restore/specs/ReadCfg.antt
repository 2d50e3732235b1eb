-- What reading the cfg of a backup answers, where the volume's cfg is asked for a size that is missing.
use Rattle.std.specs.Prelude.{◌≡◌, ◌⊎◌, ⊤, ◌<◌, ℕ, List, length, Option, None, Some, Result, Ok, Err}
use Rattle.target_traits.specs.Objects.{Objects}
use Rattle.backup_units.specs.Names.{volume_name, cfg_name}
use Rattle.backup_config.specs.Answers.{largest_cfg}
use Rattle.backup_config.specs.BackupCfgs.{SaysBackup}
use Rattle.backup_config.specs.VolumeCfgs.{SaysVolume}
use Rattle.backup_config.specs.declared.backup_cfg.BackupCfg.{BackupCfg}
use Rattle.backup_config.specs.declared.volume_cfg.VolumeCfg.{VolumeCfg}
use Rattle.backup_config.specs.declared.error.CfgError.{CfgError}
use Rattle.backup_config.specs.declared.error.CfgError.TheVariants as cfg_error
use Rattle.backup_config.specs.declared.error.CfgMember.TheVariants.{DiskSize}
use Rattle.backup_restore.specs.declared.error.Refusal.{Refusal}
use Rattle.backup_restore.specs.declared.error.Refusal.TheVariants as refusal
use Rattle.backup_restore.specs.declared.error.RestoreError.{RestoreError}
use Rattle.backup_restore.specs.declared.error.RestoreError.TheVariants.{Refused, TargetFault, WriteFault, NoMemory}
use Rattle.backup_restore.specs.declared.error.StoredObject.{StoredObject}
use Rattle.backup_restore.specs.declared.error.StoredObject.TheVariants as stored

-- the bytes are the whole object, or both are too long for a cfg
abbrev pub IsAlike : List ℕ → List ℕ → Type 0
IsAlike got whole = (got ≡ whole) ⊎ ((largest_cfg < length got) × (largest_cfg < length whole))

-- the kind under which a cfg is refused; want of memory is none
abbrev pub kind_of : CfgError → Option Refusal
kind_of cfg_error.Syntax = Some refusal.Syntax
kind_of (cfg_error.Missing member) = Some refusal.Syntax
kind_of cfg_error.Compressed = Some refusal.Compressed
kind_of cfg_error.Backing = Some refusal.Backing
kind_of cfg_error.NoMemory = None

-- the error that a refusal of a cfg becomes
abbrev pub error_of_cfg : StoredObject → CfgError → RestoreError
error_of_cfg object cfg_error.Syntax = Refused refusal.Syntax object
error_of_cfg object (cfg_error.Missing member) = Refused refusal.Syntax object
error_of_cfg object cfg_error.Compressed = Refused refusal.Compressed object
error_of_cfg object cfg_error.Backing = Refused refusal.Backing object
error_of_cfg object cfg_error.NoMemory = NoMemory

-- the object is not there, or is refused under that kind; `says` is what its bytes say
abbrev pub IsRefused : {T : Type 0} → (List ℕ → Result T CfgError → Type 0) → Option (List ℕ) → Refusal → Type 0
IsRefused says None kind = kind ≡ refusal.Missing
IsRefused says (Some bytes) kind = (e : CfgError) × says bytes (Err e) × (kind_of e ≡ Some kind)

-- the object is there, and says this
abbrev pub IsSaid : {T : Type 0} → (List ℕ → Result T CfgError → Type 0) → Option (List ℕ) → T → Type 0
IsSaid says held value = (bytes : List ℕ) × (held ≡ Some bytes) × says bytes (Ok value)

-- the backup's cfg has no size, and nothing else is wrong with it
abbrev pub LacksSize : Objects → List ℕ → List ℕ → Type 0
LacksSize objects volume backup =
    (bytes : List ℕ) × (objects (cfg_name volume backup) ≡ Some bytes)
    × SaysBackup volume backup None bytes (Err (cfg_error.Missing DiskSize))

-- the size that is told elsewhere: that of the volume's cfg where the backup's cfg lacks one
abbrev pub IsTold : Objects → List ℕ → List ℕ → Option ℕ → Type 0
IsTold objects volume backup None = LacksSize objects volume backup → ⊥
IsTold objects volume backup (Some size) =
    LacksSize objects volume backup
    × (cfg : VolumeCfg) × IsSaid (SaysVolume volume) (objects (volume_name volume)) cfg × (cfg.size ≡ size)

-- the cfg of the backup: what its object says, with the size that is told elsewhere where it lacks one
abbrev pub IsCfgOf : Objects → List ℕ → List ℕ → BackupCfg → Type 0
IsCfgOf objects volume backup cfg =
    (told : Option ℕ) × IsTold objects volume backup told
    × IsSaid (SaysBackup volume backup told) (objects (cfg_name volume backup)) cfg

-- what is refused, and under which kind: the backup's cfg first, then the volume's where it is asked
abbrev pub RefusesCfg : Objects → List ℕ → List ℕ → Refusal → StoredObject → Type 0
RefusesCfg objects volume backup kind (stored.BackupCfg named) =
    (named ≡ backup) × (told : Option ℕ) × IsTold objects volume backup told
    × IsRefused (SaysBackup volume backup told) (objects (cfg_name volume backup)) kind
RefusesCfg objects volume backup kind stored.VolumeCfg =
    LacksSize objects volume backup × IsRefused (SaysVolume volume) (objects (volume_name volume)) kind
RefusesCfg objects volume backup kind (stored.Block checksum) = ⊥

-- what the answer tells; faults and want of memory tell nothing
abbrev pub AnswersCfg : Objects → List ℕ → List ℕ → Result BackupCfg RestoreError → Type 0
AnswersCfg objects volume backup (Ok cfg) = IsCfgOf objects volume backup cfg
AnswersCfg objects volume backup (Err (Refused kind object)) = RefusesCfg objects volume backup kind object
AnswersCfg objects volume backup (Err TargetFault) = ⊤
AnswersCfg objects volume backup (Err WriteFault) = ⊥
AnswersCfg objects volume backup (Err NoMemory) = ⊤

-- what the volume's cfg tells of its size
abbrev pub AnswersSize : Option (List ℕ) → List ℕ → Result ℕ RestoreError → Type 0
AnswersSize held volume (Ok size) = (cfg : VolumeCfg) × IsSaid (SaysVolume volume) held cfg × (cfg.size ≡ size)
AnswersSize held volume (Err (Refused kind object)) = (object ≡ stored.VolumeCfg) × IsRefused (SaysVolume volume) held kind
AnswersSize held volume (Err TargetFault) = ⊤
AnswersSize held volume (Err WriteFault) = ⊥
AnswersSize held volume (Err NoMemory) = ⊤

-- the object is there, and this is as much of it as is read
abbrev pub IsGot : Option (List ℕ) → List ℕ → Type 0
IsGot held got = (bytes : List ℕ) × (held ≡ Some bytes) × IsAlike got bytes

-- there is no such object
abbrev pub IsNotThere : Option (List ℕ) → StoredObject → RestoreError → Type 0
IsNotThere held object (Refused kind named) = (kind ≡ refusal.Missing) × (named ≡ object) × (held ≡ None)
IsNotThere held object TargetFault = ⊤
IsNotThere held object WriteFault = ⊥
IsNotThere held object NoMemory = ⊤
