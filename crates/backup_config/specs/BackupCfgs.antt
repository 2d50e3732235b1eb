-- The cfg of a backup, as JSON. The format is this project's profile of what Longhorn's backupstore writes.
use Rattle.std.specs.Prelude.{◌≡◌, ℕ, ◌*◌, ◌/◌, Bool, true, false, List, length, map, codes, decimal, string_bytes}
use Rattle.std.specs.Prelude.{Option, None, Some, option_map, option_and_then, Result, Ok, Err}
use Rattle.serde_json.specs.Data.{Data, string, number, array, object, unsigned, member, no_members}
use Rattle.serde_json.specs.Find.{get, as_str}
use Rattle.serde_json.specs.View.{items_of}
use Rattle.vol_units.specs.Name.{IsPlainName}
use Rattle.vol_units.specs.Size.{IsVolumeSize}
use Rattle.vol_units.specs.Time.{IsTimeText}
use Rattle.backup_units.specs.Blocks.{page_bytes}
use Rattle.backup_config.specs.Lists.{size_of, listed_from, AreOnce, pages_of, AreEntries}
use Rattle.backup_config.specs.Kinds.{asked_in, text_in, IsTime, blocks_in, HasDiskSize, are_within, is_compressed}
use Rattle.backup_config.specs.Answers.{Says, IsOnlyAnswer}
use Rattle.backup_config.specs.declared.list.ListedBlock.{ListedBlock}
use Rattle.backup_config.specs.declared.backup_cfg.BackupCfg.{BackupCfg}
use Rattle.backup_config.specs.declared.backup_cfg.BackupMembers.{BackupMembers}
use Rattle.backup_config.specs.declared.error.CfgError.{CfgError}
use Rattle.backup_config.specs.declared.error.CfgError.TheVariants.{Missing, Compressed}
use Rattle.backup_config.specs.declared.error.CfgMember.TheVariants.{Name, VolumeName, SnapshotName, DiskSize}

-- a listed block
abbrev pub block_data : ListedBlock → Data
block_data b = object (member (codes "BlockChecksum") (string b.checksum)
    (member (codes "Offset") (number (unsigned (b.page * page_bytes))) no_members))

-- what is written of a backup
abbrev pub backup_data : BackupCfg → Data
backup_data cfg =
    let listed = listed_from 0 cfg.list.blocks in
    object (member (codes "Blocks") (array (items_of (map block_data listed)))
    (member (codes "CompressionMethod") (string (codes "none"))
    (member (codes "CreatedTime") (string cfg.created)
    (member (codes "DiskSize") (string (decimal (size_of cfg.list)))
    (member (codes "Name") (string cfg.name)
    (member (codes "Size") (string (decimal (length listed * page_bytes)))
    (member (codes "SnapshotName") (string cfg.list.snapshot)
    (member (codes "VolumeName") (string cfg.volume) no_members))))))))

-- the members of a backup's cfg, of which some may be missing
pub record Members : Type 0 where
  pub named : Bool
  pub of_volume : Bool
  pub snapshot : Option (List ℕ)
  pub created : List ℕ
  pub blocks : List ListedBlock
  pub size : Option ℕ
  pub compressed : Bool

-- the members of an object are these, and each is of the kind that it may have
pub record HasMembers (volume backup : List ℕ) (told : Option ℕ) (d : Data) (m : Members) : Type 0 where
  pub named : asked_in backup (get (codes "Name") d) ≡ Some m.named
  pub of_volume : asked_in volume (get (codes "VolumeName") d) ≡ Some m.of_volume
  pub snapshot : text_in (get (codes "SnapshotName") d) ≡ Some m.snapshot
  pub created : IsTime (option_and_then as_str (get (codes "CreatedTime") d)) m.created
  pub blocks : blocks_in (get (codes "Blocks") d) ≡ Some m.blocks
  pub once : AreOnce m.blocks
  pub size : HasDiskSize told (get (codes "DiskSize") d) m.size
  pub within : are_within m.size m.blocks ≡ true
  pub compressed : is_compressed (option_and_then as_str (get (codes "CompressionMethod") d)) ≡ m.compressed

-- the answer that members give: what is missing comes first, then a compression, then a size that is missing
abbrev pub answer_of : List ℕ → List ℕ → Members → Result BackupCfg CfgError
answer_of volume backup m = by m.named m.of_volume m.snapshot m.compressed m.size
  where
    by : Bool → Bool → Option (List ℕ) → Bool → Option ℕ → Result BackupCfg CfgError
    by false v s c n = Err (Missing Name)
    by true false s c n = Err (Missing VolumeName)
    by true true None c n = Err (Missing SnapshotName)
    by true true (Some s) true n = Err Compressed
    by true true (Some s) false None = Err (Missing DiskSize)
    by true true (Some s) false (Some n) = Ok (record {
      volume = volume;
      name = backup;
      created = m.created;
      list = record { snapshot = s; blocks = pages_of (n / page_bytes) m.blocks };
    })

-- what bytes say of that backup of that volume, where the size of the disk is told elsewhere, or not
abbrev pub SaysBackup : List ℕ → List ℕ → Option ℕ → List ℕ → Result BackupCfg CfgError → Type 0
SaysBackup volume backup told = Says (HasMembers volume backup told) (answer_of volume backup)

-- but for want of memory no other answer is true of the bytes
abbrev pub IsOnlyBackup : List ℕ → List ℕ → Option ℕ → List ℕ → Result BackupCfg CfgError → Type 0
IsOnlyBackup volume backup told = IsOnlyAnswer (HasMembers volume backup told) (answer_of volume backup)

-- what each value of the type keeps
pub record IsGoodBackup (cfg : BackupCfg) : Type 0 where
  pub volume : IsPlainName cfg.volume
  pub name : IsPlainName cfg.name
  pub created : IsTimeText cfg.created
  pub size : IsVolumeSize (size_of cfg.list)
  pub entries : AreEntries cfg.list.blocks

-- ---- members that were read

-- what they are
abbrev pub members_of : BackupMembers → Members
members_of m = record {
  named = m.named;
  of_volume = m.of_volume;
  snapshot = option_map string_bytes m.snapshot;
  created = m.created;
  blocks = m.blocks.items;
  size = m.size;
  compressed = m.compressed;
}

-- the size, if it is known, is that of a disk, and each block lies within
pub record IsComplete (m : Members) : Type 0 where
  pub size : (n : ℕ) → m.size ≡ Some n → IsVolumeSize n
  pub within : are_within m.size m.blocks ≡ true
