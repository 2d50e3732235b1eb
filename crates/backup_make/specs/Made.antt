-- What a backup that was made has left, and what each answer tells of the target.
use Rattle.std.specs.Prelude.{◌≡◌, ◌≢◌, ◌⊎◌, ⊤, ℕ, ◌*◌, ◌<◌, Bool, true, false, List, length}
use Rattle.std.specs.Prelude.{Option, None, Some, IsSome, Result, Ok, Err}
use Rattle.serde_json.specs.Written.{compact_text}
use Rattle.target_traits.specs.Objects.{Objects}
use Rattle.backup_units.specs.Backups.{IsBackup, AreWhole, HoldsPage, disk_of, page_at}
use Rattle.backup_units.specs.Blocks.{page_bytes}
use Rattle.backup_units.specs.Names.{block_name, cfg_name, volume_name}
use Rattle.backup_config.specs.BackupCfgs.{backup_data, SaysBackup}
use Rattle.backup_config.specs.VolumeCfgs.{volume_data, SaysVolume}
use Rattle.backup_config.specs.Lists.{Listing}
use Rattle.backup_config.specs.declared.backup_cfg.BackupCfg.{BackupCfg}
use Rattle.backup_config.specs.declared.volume_cfg.VolumeCfg.{VolumeCfg}
use Rattle.backup_make.specs.declared.error.MakeError.{MakeError}
use Rattle.backup_make.specs.declared.error.MakeError.TheVariants as make_error

-- the list is that of the snapshot's copy, and the target holds its blocks, where it tells what it holds
pub record IsMade (tells : Bool) (objects : Objects) (volume : List ℕ) (copy : Option (List ℕ)) (name : List ℕ) (list : Listing)
    : Type 0 where
  pub named : list.snapshot ≡ name
  pub backup : (disk : List ℕ) → copy ≡ Some disk → IsBackup tells objects volume disk list.blocks

-- the blocks of a list are whole, and its disk is that
pub record IsDisk (objects : Objects) (volume disk : List ℕ) (listed : List (Option (List ℕ))) : Type 0 where
  pub whole : AreWhole objects volume listed
  pub bytes : disk_of objects volume listed ≡ disk

-- the disk of the list is the snapshot's copy
abbrev pub IsMadeDisk : Objects → List ℕ → Option (List ℕ) → Listing → Type 0
IsMadeDisk objects volume copy list = (disk : List ℕ) → copy ≡ Some disk → IsDisk objects volume disk list.blocks

-- ---- cfgs

-- what is told of the backup
abbrev pub cfg_of : List ℕ → List ℕ → List ℕ → Listing → BackupCfg
cfg_of volume backup now list = record { volume = volume; name = backup; created = now; list = list }

-- and of its volume
abbrev pub volume_cfg_of : BackupCfg → ℕ → VolumeCfg
volume_cfg_of cfg size = record { name = cfg.volume; created = cfg.created; last = Some cfg.name; size = size }

-- The target has the cfg of the backup and that of its volume, byte for byte; and they are read as the same.
pub record HasCfgs (objects : Objects) (cfg : BackupCfg) (size : ℕ) : Type 0 where
  pub backup : objects (cfg_name cfg.volume cfg.name) ≡ Some (compact_text (backup_data cfg))
  pub says : (told : Option ℕ) → SaysBackup cfg.volume cfg.name told (compact_text (backup_data cfg)) (Ok cfg)
  pub volume : objects (volume_name cfg.volume) ≡ Some (compact_text (volume_data (volume_cfg_of cfg size)))
  pub says_volume : SaysVolume cfg.volume (compact_text (volume_data (volume_cfg_of cfg size))) (Ok (volume_cfg_of cfg size))

-- ---- a backup that is there

-- The store has a backup of that disk: its cfg is there and is read, each block that it lists is whole, and these are the
-- disk. The cfg of its volume is not asked for.
pub record HasBackup (objects : Objects) (volume backup disk : List ℕ) : Type 0 where
  pub cfg : BackupCfg
  pub there : objects (cfg_name volume backup) ≡ Some (compact_text (backup_data cfg))
  pub says : (told : Option ℕ) → SaysBackup volume backup told (compact_text (backup_data cfg)) (Ok cfg)
  pub list : IsDisk objects volume disk cfg.list.blocks

-- the same of a copy, if there is one
abbrev pub HasCopyOf : Objects → List ℕ → List ℕ → Option (List ℕ) → Type 0
HasCopyOf objects volume backup copy = (disk : List ℕ) → copy ≡ Some disk → HasBackup objects volume backup disk

-- ---- what else changes

-- all objects but these two hold what they held
abbrev pub OnlyCfgs : List ℕ → List ℕ → Objects → Objects → Type 0
OnlyCfgs volume backup old new =
    (other : List ℕ) → other ≢ cfg_name volume backup → other ≢ volume_name volume → new other ≡ old other

-- all objects but the blocks of the volume and these two hold what they held
abbrev pub OnlyBackup : List ℕ → List ℕ → Objects → Objects → Type 0
OnlyBackup volume backup old new =
    (name : List ℕ) → ((checksum : List ℕ) → name ≢ block_name volume checksum)
    → name ≢ cfg_name volume backup → name ≢ volume_name volume → new name ≡ old name

-- the block of each page of a copy is held
abbrev pub HoldsCopy : Objects → List ℕ → Option (List ℕ) → Type 0
HoldsCopy objects volume copy =
    (disk : List ℕ) → copy ≡ Some disk
    → (page : ℕ) → page * page_bytes < length disk → HoldsPage objects volume (page_at disk page)

-- what can be seen of a backup has its blocks: its cfg is as it was, or each page of the copy is held
abbrev pub HasBlocksIfSeen : List ℕ → List ℕ → Option (List ℕ) → Objects → Objects → Type 0
HasBlocksIfSeen volume backup copy old new =
    (new (cfg_name volume backup) ≡ old (cfg_name volume backup)) ⊎ HoldsCopy new volume copy

-- ---- answers

-- nothing failed, and no backup was made
abbrev pub is_refusal : MakeError → Bool
is_refusal make_error.Exists = true
is_refusal make_error.NoReplica = true
is_refusal (make_error.BlockDiffers c) = true
is_refusal make_error.TargetFault = false
is_refusal make_error.NoMemory = false

-- By what the backup's cfg held: it exists exactly where there was one. Faults and want of memory tell nothing of it.
abbrev pub AnswersMake : {T : Type 0} → Option (List ℕ) → Result T MakeError → Type 0
AnswersMake held (Ok list) = held ≡ None
AnswersMake held (Err make_error.Exists) = IsSome held
AnswersMake held (Err make_error.NoReplica) = held ≡ None
AnswersMake held (Err (make_error.BlockDiffers c)) = held ≡ None
AnswersMake held (Err make_error.TargetFault) = ⊤
AnswersMake held (Err make_error.NoMemory) = ⊤
