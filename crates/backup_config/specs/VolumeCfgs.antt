-- The cfg of a volume, as JSON. The format is this project's profile of what Longhorn's backupstore writes.
use Rattle.std.specs.Prelude.{◌≡◌, ℕ, Bool, true, false, List, [], codes, decimal, Option, None, Some, option_and_then}
use Rattle.std.specs.Prelude.{Result, Ok, Err}
use Rattle.serde_json.specs.Data.{Data, string, object, member, no_members}
use Rattle.serde_json.specs.Find.{get, as_str}
use Rattle.vol_units.specs.Name.{IsPlainName}
use Rattle.vol_units.specs.Size.{IsVolumeSize}
use Rattle.vol_units.specs.Time.{IsTimeText}
use Rattle.backup_config.specs.Kinds.{IsTime, IsLast, HasSize, is_filled}
use Rattle.backup_config.specs.Answers.{Says, IsOnlyAnswer}
use Rattle.backup_config.specs.declared.volume_cfg.VolumeCfg.{VolumeCfg}
use Rattle.backup_config.specs.declared.volume_cfg.VolumeMembers.{VolumeMembers}
use Rattle.backup_config.specs.declared.error.CfgError.{CfgError}
use Rattle.backup_config.specs.declared.error.CfgError.TheVariants.{Missing, Backing}
use Rattle.backup_config.specs.declared.error.CfgMember.TheVariants.{Size}

-- the name of the last backup, or the empty text
abbrev pub last_text : Option (List ℕ) → List ℕ
last_text None = []
last_text (Some name) = name

-- a last backup, if there is one, has a backup's name
abbrev pub IsGoodLast : Option (List ℕ) → Type 0
IsGoodLast None = Unit {0}
IsGoodLast (Some name) = IsPlainName name

-- what is written of a volume
abbrev pub volume_data : VolumeCfg → Data
volume_data cfg = object (member (codes "CompressionMethod") (string (codes "none"))
    (member (codes "CreatedTime") (string cfg.created)
    (member (codes "LastBackupName") (string (last_text cfg.last))
    (member (codes "Name") (string cfg.name)
    (member (codes "Size") (string (decimal cfg.size)) no_members)))))

-- the members of an object are these, and the size is of the kind that it may have
pub record HasVolumeMembers (d : Data) (m : VolumeMembers) : Type 0 where
  pub created : IsTime (option_and_then as_str (get (codes "CreatedTime") d)) m.created
  pub last : IsLast (option_and_then as_str (get (codes "LastBackupName") d)) m.last
  pub size : HasSize (get (codes "Size") d) m.size
  pub backed : is_filled (option_and_then as_str (get (codes "BackingImageName") d)) ≡ m.backed

-- the answer that members give: a size that is missing comes first, then a backing image
abbrev pub volume_answer_of : List ℕ → VolumeMembers → Result VolumeCfg CfgError
volume_answer_of volume m = by m.size m.backed
  where
    by : Option ℕ → Bool → Result VolumeCfg CfgError
    by None b = Err (Missing Size)
    by (Some n) true = Err Backing
    by (Some n) false = Ok (record { name = volume; created = m.created; last = m.last; size = n })

-- what bytes say of that volume
abbrev pub SaysVolume : List ℕ → List ℕ → Result VolumeCfg CfgError → Type 0
SaysVolume volume = Says HasVolumeMembers (volume_answer_of volume)

-- but for want of memory no other answer is true of the bytes
abbrev pub IsOnlyVolume : List ℕ → List ℕ → Result VolumeCfg CfgError → Type 0
IsOnlyVolume volume = IsOnlyAnswer HasVolumeMembers (volume_answer_of volume)

-- what each value of the type keeps
pub record IsGoodVolume (cfg : VolumeCfg) : Type 0 where
  pub name : IsPlainName cfg.name
  pub created : IsTimeText cfg.created
  pub last : IsGoodLast cfg.last
  pub size : IsVolumeSize cfg.size
