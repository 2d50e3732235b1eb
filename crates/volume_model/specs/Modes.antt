-- The modes of the replicas, as Longhorn's documentation of rebuilding names them. Marks alone change them.
use Rattle.std.specs.Prelude.{◌≡◌, ◌≢◌, ℕ, suc, ◌<◌, List, [], ◌∷◌, Contains, Bool, true, false, Option, Some, None}
use Rattle.std.specs.Prelude.{slice_index_or, slice_set}
use Rattle.std.specs.Option.{option_map}
use Rattle.volume_model.specs.declared.command.Command.{Command}
use Rattle.volume_model.specs.declared.command.Command.TheVariants as command
use Rattle.volume_model.specs.declared.call.Call.{Call}
use Rattle.volume_model.specs.declared.call.Call.TheVariants as call
use Rattle.volume_model.specs.declared.entry.Entry.{Entry}
use Rattle.volume_model.specs.declared.entry.Entry.TheVariants as entry
use Rattle.volume_model.specs.declared.mark.Mark.{Mark}
use Rattle.volume_model.specs.declared.mark.Mark.TheVariants as mark
use Rattle.volume_model.specs.declared.mode.Mode.{Mode}
use Rattle.volume_model.specs.declared.mode.Mode.TheVariants.{Rw, Wo, Err}

-- the mode of a replica; one that is not there has failed
abbrev pub mode_of : List Mode → ℕ → Mode
mode_of modes replica = slice_index_or modes replica Err

-- ---- what marks make of them

-- the modes after a mark: a purge leaves them
abbrev pub modes_after_mark : List Mode → Mark → List Mode
modes_after_mark modes (mark.Purged part) = modes
modes_after_mark modes (mark.Fault stream replica count) = slice_set modes replica Err
modes_after_mark modes (mark.Failed replica) = slice_set modes replica Err
modes_after_mark modes (mark.Added replica source name) = slice_set modes replica Wo
modes_after_mark modes (mark.Promoted replica) = slice_set modes replica Rw
modes_after_mark modes (mark.Aborted replica) = slice_set modes replica Err

-- the modes after one entry: an answer leaves them
abbrev pub modes_after_entry : List Mode → Entry → List Mode
modes_after_entry modes (entry.Answer a) = modes
modes_after_entry modes (entry.Mark m) = modes_after_mark modes m

-- the modes after these entries, one after another
abbrev pub modes_after : List Mode → List Entry → List Mode
modes_after modes [] = modes
modes_after modes (e ∷ es) = modes_after (modes_after_entry modes e) es

-- ---- the replicas that are read and written

-- some replica is
abbrev pub HasSource : List Mode → Type 0
HasSource modes = Contains modes Rw

-- none is
abbrev pub HasNoSource : List Mode → Type 0
HasNoSource modes = (replica : ℕ) → mode_of modes replica ≢ Rw

-- the replica is the first that is
pub record IsSource (modes : List Mode) (s : ℕ) : Type 0 where
  pub read : mode_of modes s ≡ Rw
  pub first : (q : ℕ) → q < s → mode_of modes q ≢ Rw

-- the first that is, if one is
abbrev pub source_of : List Mode → Option ℕ
source_of [] = None
source_of (Rw ∷ ms) = Some 0
source_of (Wo ∷ ms) = option_map suc (source_of ms)
source_of (Err ∷ ms) = option_map suc (source_of ms)

-- ---- which calls want one

-- whether the command, where it is done, was done on a replica to read and write
abbrev pub is_command_change : Command → Bool
is_command_change (command.Snapshot name) = true
is_command_change (command.Remove name) = true
is_command_change (command.Revert name) = true
is_command_change command.Purge = true
is_command_change c = false

-- whether the call, where it is done, was done on a replica to read and write
abbrev pub is_change : Call → Bool
is_change (call.Write offset bytes) = true
is_change (call.Command c) = is_command_change c
is_change c = false

-- whether the call may be answered what the store of backups has against it: it backs up
abbrev pub asks_store : Call → Bool
asks_store (call.Command (command.Backup backup snapshot)) = true
asks_store c = false

-- whether the call may be answered that there is no replica: it changes, it reads, it rebuilds, or it backs up
abbrev pub asks_replica : Call → Bool
asks_replica (call.Read offset n) = true
asks_replica (call.Command (command.Add r)) = true
asks_replica (call.Command (command.Backup backup snapshot)) = true
asks_replica c = is_change c
