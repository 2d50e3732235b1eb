-- What the words on a store of backups answer and write, by what the target holds.
use Rattle.std.specs.Prelude.{◌≡◌, ◌⊎◌, ℕ, List, Option, Result, Ok, Err}
use Rattle.std.specs.Io.KnownBytes.{Appends}
use Rattle.outer_traits.specs.Causes.{Rose}
use Rattle.outer_traits.specs.Passing.{WritesPrefix}
use Rattle.target_traits.specs.Objects.{Objects}
use Rattle.program_words.specs.declared.words.Words.{Words}
use Rattle.program_words.specs.declared.words.Words.TheVariants as words
use Rattle.backup_restore.specs.declared.error.Refusal.{Refusal}
use Rattle.backup_restore.specs.declared.error.RestoreError.{RestoreError}
use Rattle.backup_restore.specs.declared.error.RestoreError.TheVariants as restore_error
use Rattle.backup_restore.specs.declared.error.StoredObject.{StoredObject}
use Rattle.backup_restore.specs.Errors.{name_of}
use Rattle.backup_restore.specs.Listed.{IsListOf, IsListed, RefusesList}
use Rattle.backup_restore.specs.Restored.{IsDiskOf, IsRestorable, RefusesBackup}
use Rattle.volume_cli.specs.declared.status.Status.{Status}
use Rattle.volume_cli.specs.declared.status.Status.TheVariants as status

-- what the words ask for is in a store of backups
abbrev pub IsOfStore : Words → Type 0
IsOfStore (words.Run workers) = ⊥
IsOfStore (words.Replica size) = ⊥
IsOfStore (words.Generate number streams calls) = ⊥
IsOfStore (words.Restore backup volume) = Unit {0}
IsOfStore (words.Backups volume) = Unit {0}
IsOfStore (words.Serve address size replicas sessions) = ⊥

-- the bytes that are asked for: the disk of a backup, or the lines of a volume's backups
abbrev pub IsAnswer : Objects → Words → List ℕ → Type 0
IsAnswer objects (words.Run workers) bytes = ⊥
IsAnswer objects (words.Replica size) bytes = ⊥
IsAnswer objects (words.Generate number streams calls) bytes = ⊥
IsAnswer objects (words.Restore backup volume) bytes = IsDiskOf objects volume backup bytes
IsAnswer objects (words.Backups volume) bytes = IsListOf objects volume bytes
IsAnswer objects (words.Serve address size replicas sessions) bytes = ⊥

-- all objects that it stands on are as they have to be
abbrev pub HasAnswer : Objects → Words → Type 0
HasAnswer objects (words.Run workers) = ⊥
HasAnswer objects (words.Replica size) = ⊥
HasAnswer objects (words.Generate number streams calls) = ⊥
HasAnswer objects (words.Restore backup volume) = IsRestorable objects volume backup
HasAnswer objects (words.Backups volume) = IsListed objects volume
HasAnswer objects (words.Serve address size replicas sessions) = ⊥

-- this is the first object that is not, as they are tried, and what is wrong with it
abbrev pub RefusesObject : Objects → Words → Refusal → List ℕ → Type 0
RefusesObject objects (words.Run workers) kind name = ⊥
RefusesObject objects (words.Replica size) kind name = ⊥
RefusesObject objects (words.Generate number streams calls) kind name = ⊥
RefusesObject objects (words.Restore backup volume) kind name =
    (object : StoredObject) × RefusesBackup objects volume backup kind object × (name ≡ name_of volume object)
RefusesObject objects (words.Backups volume) kind name =
    (object : StoredObject) × RefusesList objects volume kind object × (name ≡ name_of volume object)
RefusesObject objects (words.Serve address size replicas sessions) kind name = ⊥

-- ---- what each status says

-- of the objects
abbrev pub AnswersStore : Objects → Words → Status → Type 0
AnswersStore objects asked status.Done = HasAnswer objects asked
AnswersStore objects asked status.Usage = ⊥
AnswersStore objects asked (status.Script place what) = ⊥
AnswersStore objects asked status.ReadFault = ⊥
AnswersStore objects asked status.WriteFault = Unit {0}
AnswersStore objects asked status.ShelfFault = ⊥
AnswersStore objects asked status.TargetFault = Unit {0}
AnswersStore objects asked status.NoMemory = Unit {0}
AnswersStore objects asked (status.NoCleanShelf reasons) = ⊥
AnswersStore objects asked (status.Refused kind name) = RefusesObject objects asked kind name
AnswersStore objects asked (status.Frame place) = ⊥
AnswersStore objects asked status.DoorFault = ⊥

-- of what was written: all, some of it, or nothing where an object is refused; `same` says that the sink is as it was
abbrev pub WritesAnswer : Objects → Words → (old new : Option (List ℕ)) → Type 0
WritesAnswer objects asked old new = (bytes : List ℕ) × IsAnswer objects asked bytes × Appends old new bytes

abbrev pub WritesSomeOf : Objects → Words → (old new : Option (List ℕ)) → Type 0
WritesSomeOf objects asked old new =
    (new ≡ old) ⊎ ((bytes : List ℕ) × IsAnswer objects asked bytes × WritesPrefix old new bytes)

abbrev pub LeavesAnswer : Objects → Words → (same : Type 0) → (old new : Option (List ℕ)) → Status → Type 0
LeavesAnswer objects asked same old new status.Done = WritesAnswer objects asked old new
LeavesAnswer objects asked same old new status.Usage = ⊥
LeavesAnswer objects asked same old new (status.Script place what) = ⊥
LeavesAnswer objects asked same old new status.ReadFault = ⊥
LeavesAnswer objects asked same old new status.WriteFault = WritesSomeOf objects asked old new
LeavesAnswer objects asked same old new status.ShelfFault = ⊥
LeavesAnswer objects asked same old new status.TargetFault = WritesSomeOf objects asked old new
LeavesAnswer objects asked same old new status.NoMemory = WritesSomeOf objects asked old new
LeavesAnswer objects asked same old new (status.NoCleanShelf reasons) = ⊥
LeavesAnswer objects asked same old new (status.Refused kind name) = same
LeavesAnswer objects asked same old new (status.Frame place) = ⊥
LeavesAnswer objects asked same old new status.DoorFault = ⊥

-- of the counts of faults of the sink (k, then l) and of the target (m, then n)
abbrev pub StoreCounts : Status → ℕ → ℕ → ℕ → ℕ → Type 0
StoreCounts status.Done k l m n = (l ≡ k) × (n ≡ m)
StoreCounts status.Usage k l m n = ⊥
StoreCounts (status.Script place what) k l m n = ⊥
StoreCounts status.ReadFault k l m n = ⊥
StoreCounts status.WriteFault k l m n = Rose k l × (n ≡ m)
StoreCounts status.ShelfFault k l m n = ⊥
StoreCounts status.TargetFault k l m n = (l ≡ k) × Rose m n
StoreCounts status.NoMemory k l m n = (l ≡ k) × (n ≡ m)
StoreCounts (status.NoCleanShelf reasons) k l m n = ⊥
StoreCounts (status.Refused kind name) k l m n = (l ≡ k) × (n ≡ m)
StoreCounts (status.Frame place) k l m n = ⊥
StoreCounts status.DoorFault k l m n = ⊥

-- the status of a restore, or of a list, that ended so; the name of an object takes memory
abbrev pub IsEndOf : {T : Type 0} → List ℕ → Result T RestoreError → Status → Type 0
IsEndOf volume (Ok done) answer = answer ≡ status.Done
IsEndOf volume (Err (restore_error.Refused kind object)) answer =
    (answer ≡ status.Refused kind (name_of volume object)) ⊎ (answer ≡ status.NoMemory)
IsEndOf volume (Err restore_error.TargetFault) answer = answer ≡ status.TargetFault
IsEndOf volume (Err restore_error.WriteFault) answer = answer ≡ status.WriteFault
IsEndOf volume (Err restore_error.NoMemory) answer = answer ≡ status.NoMemory
