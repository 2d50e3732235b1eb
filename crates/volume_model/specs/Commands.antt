-- The commands of a control stream, and the text of each. The texts are this project's own.
use Rattle.std.specs.Prelude.{◌≡◌, ◌≢◌, List, [], ◌∷◌, ℕ, ◌<◌, ◌++◌, codes}
use Rattle.std.specs.Fmt.{decimal}
use Rattle.vol_units.specs.Name.{IsSnapName, IsLayerName, IsPlainName}
use Rattle.volume_model.specs.declared.command.Command.{Command}
use Rattle.volume_model.specs.declared.command.Command.TheVariants.{Snapshot, Remove, Revert, Purge, Status, Fail, Add, Backup}

-- the names of a backup and of its snapshot, as a text
abbrev pub names_text : List ℕ → List ℕ → List ℕ
names_text backup snapshot = backup ++ (codes " " ++ snapshot)

-- a command as a text: words that one space parts
abbrev pub command_text : Command → List ℕ
command_text (Snapshot name) = codes "snapshot " ++ name
command_text (Remove name) = codes "remove " ++ name
command_text (Revert name) = codes "revert " ++ name
command_text Purge = codes "purge"
command_text Status = codes "status"
command_text (Fail r) = codes "fail r" ++ decimal r
command_text (Add r) = codes "add r" ++ decimal r
command_text (Backup backup snapshot) = codes "backup " ++ names_text backup snapshot

-- The names or the number in it, where it has some, are such as it may have: the engine takes its own snapshots, and the
-- number of a replica that fails or is rebuilt is one digit.
abbrev pub HasGoodName : Command → Type 0
HasGoodName (Snapshot name) = IsSnapName name
HasGoodName (Remove name) = IsLayerName name
HasGoodName (Revert name) = IsLayerName name
HasGoodName Purge = Unit {0}
HasGoodName Status = Unit {0}
HasGoodName (Fail r) = r < 10
HasGoodName (Add r) = r < 10
HasGoodName (Backup backup snapshot) = IsPlainName backup × IsLayerName snapshot

-- it is of no replica, or of one of so many
abbrev pub NamesReplica : ℕ → Command → Type 0
NamesReplica replicas (Fail r) = r < replicas
NamesReplica replicas (Add r) = r < replicas
NamesReplica replicas c = Unit {0}

-- the text is that of the command
pub record IsCommand (text : List ℕ) (c : Command) : Type 0 where
  pub named : HasGoodName c
  pub spelled : text ≡ command_text c

-- no command has the text
abbrev pub IsNoCommand : List ℕ → Type 0
IsNoCommand text = (c : Command) → IsCommand text c → ⊥

-- ---- the names of a backup

-- no byte is a blank
abbrev pub HasNoBlank : List ℕ → Type 0
HasNoBlank [] = Unit {0}
HasNoBlank (byte ∷ bytes) = (byte ≢ 32) × HasNoBlank bytes

-- the first blank of the text parts it into these two
pub record ArePartsOf (text first rest : List ℕ) : Type 0 where
  pub whole : text ≡ names_text first rest
  pub first_blank : HasNoBlank first

-- it is that backup whose names the text has
pub record IsOfBackup (text : List ℕ) (c : Command) : Type 0 where
  pub backup : List ℕ
  pub snapshot : List ℕ
  pub is : c ≡ Backup backup snapshot
  pub named : HasGoodName c
  pub spelled : text ≡ names_text backup snapshot

-- the text has no backup's names
abbrev pub IsOfNoBackup : List ℕ → Type 0
IsOfNoBackup text = (backup snapshot : List ℕ) → IsPlainName backup → IsLayerName snapshot → text ≢ names_text backup snapshot
