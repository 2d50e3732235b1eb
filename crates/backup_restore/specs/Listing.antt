-- The parts of a list of backups: names among those of objects, and lines.
use Rattle.std.specs.Prelude.{◌≡◌, ◌↔◌, ◌⊎◌, ⊤, ℕ, List, [], ◌∷◌, ◌++◌, codes, Contains}
use Rattle.target_traits.specs.Objects.{Objects}
use Rattle.vol_units.specs.Name.{IsPlainName}
use Rattle.backup_config.specs.declared.backup_cfg.BackupCfg.{BackupCfg}
use Rattle.backup_restore.specs.Listed.{IsFirstRefused, backup_line}
use Rattle.backup_restore.specs.ReadCfg.{IsCfgOf}
use Rattle.backup_restore.specs.declared.error.RestoreError.{RestoreError}
use Rattle.backup_restore.specs.declared.error.RestoreError.TheVariants.{Refused, TargetFault, WriteFault, NoMemory}

-- ---- names, where those of the cfgs begin so

-- the object is the cfg of the backup of that name
abbrev pub IsCfgName : List ℕ → List ℕ → List ℕ → Type 0
IsCfgName prefix name object = IsPlainName name × (object ≡ prefix ++ (name ++ codes ".cfg"))

-- the old names, and that of the backup whose cfg the object is, if it is one
abbrev pub AddsName : List ℕ → List ℕ → List (List ℕ) → List (List ℕ) → Type 0
AddsName prefix object old new = (name : List ℕ) → Contains new name ↔ (Contains old name ⊎ IsCfgName prefix name object)

-- the names of the backups whose cfgs are among these objects
abbrev pub AreNamesIn : List ℕ → List (List ℕ) → List (List ℕ) → Type 0
AreNamesIn prefix objects names =
    (name : List ℕ) → Contains names name ↔ (IsPlainName name × Contains objects (prefix ++ (name ++ codes ".cfg")))

-- ---- lines

-- the line of the backup stands behind the old text
abbrev pub AddsLine : Objects → List ℕ → List ℕ → List ℕ → List ℕ → Type 0
AddsLine objects volume name old new =
    (cfg : BackupCfg) × IsCfgOf objects volume name cfg × (new ≡ old ++ (backup_line name cfg ++ (10 ∷ [])))

-- why there are no lines of these backups
abbrev pub RefusesOneOf : Objects → List ℕ → List (List ℕ) → RestoreError → Type 0
RefusesOneOf objects volume names (Refused kind object) = (place : ℕ) × IsFirstRefused objects volume names place kind object
RefusesOneOf objects volume names TargetFault = ⊤
RefusesOneOf objects volume names WriteFault = ⊥
RefusesOneOf objects volume names NoMemory = ⊤
