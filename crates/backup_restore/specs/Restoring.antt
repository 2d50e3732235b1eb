-- What restoring the blocks of a list answers.
use Rattle.std.specs.Prelude.{◌≡◌, ◌<◌, ⊤, ℕ, List, length, Option, None, Some, Result, Ok, Err}
use Rattle.target_traits.specs.Objects.{Objects}
use Rattle.backup_units.specs.Backups.{IsWhole, AreWhole, listed_at}
use Rattle.backup_units.specs.Blocks.{IsBlock}
use Rattle.backup_units.specs.Names.{block_name}
use Rattle.backup_restore.specs.declared.error.Refusal.{Refusal}
use Rattle.backup_restore.specs.declared.error.Refusal.TheVariants.{Missing, Damaged, Syntax, Compressed, Backing}
use Rattle.backup_restore.specs.declared.error.RestoreError.{RestoreError}
use Rattle.backup_restore.specs.declared.error.RestoreError.TheVariants.{Refused, TargetFault, WriteFault, NoMemory}
use Rattle.backup_restore.specs.declared.error.StoredObject.{StoredObject}
use Rattle.backup_restore.specs.declared.error.StoredObject.TheVariants.{BackupCfg, VolumeCfg, Block}

-- so many zeros are written at once where no block is listed
abbrev pub zeros_at_once : ℕ
zeros_at_once = 65536

-- what is wrong with a block: there is no such object, or one that is no block of that checksum
abbrev pub IsBad : Option (List ℕ) → List ℕ → Refusal → Type 0
IsBad held checksum Missing = held ≡ None
IsBad held checksum Damaged = (bytes : List ℕ) × (held ≡ Some bytes) × (IsBlock checksum bytes → ⊥)
IsBad held checksum Syntax = ⊥
IsBad held checksum Compressed = ⊥
IsBad held checksum Backing = ⊥

-- the object is the block of that checksum, and bad
abbrev pub IsBadBlock : Objects → List ℕ → List ℕ → Refusal → StoredObject → Type 0
IsBadBlock objects volume checksum kind (BackupCfg backup) = ⊥
IsBadBlock objects volume checksum kind VolumeCfg = ⊥
IsBadBlock objects volume checksum kind (Block named) =
    (named ≡ checksum) × IsBad (objects (block_name volume checksum)) checksum kind

-- the object is the block of a page, and bad
abbrev pub IsBadPage : Objects → List ℕ → Option (List ℕ) → Refusal → StoredObject → Type 0
IsBadPage objects volume None kind object = ⊥
IsBadPage objects volume (Some checksum) kind object = IsBadBlock objects volume checksum kind object

-- the block of that page is the first that is bad
pub record IsFirstBad (objects : Objects) (volume : List ℕ) (listed : List (Option (List ℕ))) (page : ℕ) (kind : Refusal)
    (object : StoredObject) : Type 0 where
  pub within : page < length listed
  pub bad : IsBadPage objects volume (listed_at listed page) kind object
  pub before : (earlier : ℕ) → earlier < page → IsWhole objects volume (listed_at listed earlier)

-- all listed blocks are whole, or the first that is not is refused; faults and want of memory tell nothing of them
abbrev pub AnswersBlocks : {T : Type 0} → Objects → List ℕ → List (Option (List ℕ)) → Result T RestoreError → Type 0
AnswersBlocks objects volume listed (Ok done) = AreWhole objects volume listed
AnswersBlocks objects volume listed (Err (Refused kind object)) = (page : ℕ) × IsFirstBad objects volume listed page kind object
AnswersBlocks objects volume listed (Err TargetFault) = ⊤
AnswersBlocks objects volume listed (Err WriteFault) = ⊤
AnswersBlocks objects volume listed (Err NoMemory) = ⊤

-- why a block does not come
abbrev pub RefusesBlock : Objects → List ℕ → List ℕ → RestoreError → Type 0
RefusesBlock objects volume checksum (Refused kind object) = IsBadBlock objects volume checksum kind object
RefusesBlock objects volume checksum TargetFault = ⊤
RefusesBlock objects volume checksum WriteFault = ⊥
RefusesBlock objects volume checksum NoMemory = ⊤

-- why a page is not written
abbrev pub RefusesPage : Objects → List ℕ → Option (List ℕ) → RestoreError → Type 0
RefusesPage objects volume page (Refused kind object) = IsBadPage objects volume page kind object
RefusesPage objects volume page TargetFault = ⊤
RefusesPage objects volume page WriteFault = ⊤
RefusesPage objects volume page NoMemory = ⊤
