-- What listing the backups of a volume writes and answers: all cfgs are read first, in byte order of the backups' names.
use Rattle.std.specs.Prelude.{◌≡◌, ◌↔◌, ◌⊎◌, ⊤, ◌<◌, ℕ, List, [], ◌∷◌, ◌++◌, length, codes, decimal, count_by, is_some}
use Rattle.std.specs.Prelude.{Option, Result, Ok, Err, Contains, IsSome, slice_index_or}
use Rattle.std.specs.Cmp.Lexicographic.{slice_cmp}
use Rattle.std.specs.Io.KnownBytes.{Appends}
use Rattle.std.specs.List.Sorted.{IsStrictlySortedBy}
use Rattle.std.specs.Ordering.{nat_cmp}
use Rattle.outer_traits.specs.Passing.{WritesPrefix}
use Rattle.target_traits.specs.Objects.{Objects}
use Rattle.vol_units.specs.Name.{IsPlainName}
use Rattle.backup_units.specs.Names.{cfg_name}
use Rattle.backup_config.specs.declared.backup_cfg.BackupCfg.{BackupCfg}
use Rattle.backup_restore.specs.ReadCfg.{IsCfgOf, RefusesCfg}
use Rattle.backup_restore.specs.declared.error.Refusal.{Refusal}
use Rattle.backup_restore.specs.declared.error.RestoreError.{RestoreError}
use Rattle.backup_restore.specs.declared.error.RestoreError.TheVariants.{Refused, TargetFault, WriteFault, NoMemory}
use Rattle.backup_restore.specs.declared.error.StoredObject.{StoredObject}

-- these are the names of the volume's backups, of each of which a cfg is there: in byte order, each once
pub record AreBackups (objects : Objects) (volume : List ℕ) (names : List (List ℕ)) : Type 0 where
  pub exact : (name : List ℕ) → Contains names name ↔ (IsPlainName name × IsSome (objects (cfg_name volume name)))
  pub ascending : IsStrictlySortedBy (slice_cmp nat_cmp) names

-- ---- the lines

-- the line of a backup: `backup NAME SNAPSHOT BLOCKS`, BLOCKS being how many blocks are listed
abbrev pub backup_line : List ℕ → BackupCfg → List ℕ
backup_line name cfg =
    codes "backup " ++ (name ++ (codes " " ++ (cfg.list.snapshot ++ (codes " " ++ decimal (count_by is_some cfg.list.blocks)))))

-- the text has a line of each of these backups, by its cfg and in this order, each with a line feed behind it
unfoldable pub AreLines : Objects → List ℕ → List (List ℕ) → List ℕ → Type 0
AreLines objects volume [] text = text ≡ []
AreLines objects volume (name ∷ names) text =
    (cfg : BackupCfg) × IsCfgOf objects volume name cfg
    × (rest : List ℕ) × AreLines objects volume names rest × (text ≡ backup_line name cfg ++ (10 ∷ rest))

-- the text is the list of the volume's backups
abbrev pub IsListOf : Objects → List ℕ → List ℕ → Type 0
IsListOf objects volume text =
    (names : List (List ℕ)) × AreBackups objects volume names × AreLines objects volume names text

-- the list was written, whole
abbrev pub WritesList : Objects → List ℕ → Option (List ℕ) → Option (List ℕ) → Type 0
WritesList objects volume old new = (text : List ℕ) × IsListOf objects volume text × Appends old new text

-- nothing was written, or a beginning of the list
abbrev pub WritesSomeList : Objects → List ℕ → Option (List ℕ) → Option (List ℕ) → Type 0
WritesSomeList objects volume old new =
    (new ≡ old) ⊎ ((text : List ℕ) × IsListOf objects volume text × WritesPrefix old new text)

-- ---- the answer

-- the name at a place
abbrev pub name_at : List (List ℕ) → ℕ → List ℕ
name_at names place = slice_index_or names place []

-- the cfg of a backup is read
abbrev pub HasCfg : Objects → List ℕ → List ℕ → Type 0
HasCfg objects volume name = (cfg : BackupCfg) × IsCfgOf objects volume name cfg

-- of these backups the one at that place is the first of which an object is refused
pub record IsFirstRefused (objects : Objects) (volume : List ℕ) (names : List (List ℕ)) (place : ℕ) (kind : Refusal)
    (object : StoredObject) : Type 0 where
  pub within : place < length names
  pub refused : RefusesCfg objects volume (name_at names place) kind object
  pub before : (earlier : ℕ) → earlier < place → HasCfg objects volume (name_at names earlier)

-- there is a list
abbrev pub IsListed : Objects → List ℕ → Type 0
IsListed objects volume = (text : List ℕ) × IsListOf objects volume text

-- what is refused, and under which kind: of the first backup that has such an object
abbrev pub RefusesList : Objects → List ℕ → Refusal → StoredObject → Type 0
RefusesList objects volume kind object =
    (names : List (List ℕ)) × AreBackups objects volume names
    × (place : ℕ) × IsFirstRefused objects volume names place kind object

-- what the answer tells; faults and want of memory tell nothing of the backups
abbrev pub AnswersList : {T : Type 0} → Objects → List ℕ → Result T RestoreError → Type 0
AnswersList objects volume (Ok done) = IsListed objects volume
AnswersList objects volume (Err (Refused kind object)) = RefusesList objects volume kind object
AnswersList objects volume (Err TargetFault) = ⊤
AnswersList objects volume (Err WriteFault) = ⊤
AnswersList objects volume (Err NoMemory) = ⊤
