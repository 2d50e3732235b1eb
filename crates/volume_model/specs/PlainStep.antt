-- What one plain disk with whole copies answers to a call, and what the call leaves.
use Rattle.std.specs.Prelude.{ℕ, ℤ, List, length, nat_lt, if◌then◌else◌, Option, Some, None}
use Rattle.std.specs.Option.{option_or}
use Rattle.volume_model.specs.declared.command.Command.{Command}
use Rattle.volume_model.specs.declared.command.Command.TheVariants as command
use Rattle.volume_model.specs.declared.call.Call.{Call}
use Rattle.volume_model.specs.declared.call.Call.TheVariants as call
use Rattle.volume_model.specs.declared.call.Refusal.{Refusal}
use Rattle.volume_model.specs.declared.call.Refusal.TheVariants.{TooLong, OutOfRange, Unsupported, NameUsed}
use Rattle.volume_model.specs.declared.call.Refusal.TheVariants.{ChainFull, NoSuchSnapshot, InUse}
use Rattle.volume_model.specs.declared.call.Reply.{Reply}
use Rattle.volume_model.specs.declared.call.Reply.TheVariants as reply
use Rattle.volume_model.specs.declared.mode.Mode.{Mode}
use Rattle.volume_model.specs.declared.mode.Mode.TheVariants.{Rw, Wo, Err}
use Rattle.volume_model.specs.Disk.{is_good, place_of, bytes_at}
use Rattle.volume_model.specs.Snapshots.{layer_count, is_live}
use Rattle.volume_model.specs.PlainState.{Volume, PlainState, is_used, with_used, written, snapped, reverted, removed}
use Rattle.volume_model.specs.Modes.{mode_of}

-- the most bytes that one call reads
abbrev pub longest_call : ℕ
longest_call = 1048576

-- the most layers of a volume, its head counted
abbrev pub most_layers : ℕ
most_layers = 250

-- ---- what stands against a call, the first in the order in which refusals are tried

-- that n bytes from the offset on do not lie within the disk
abbrev pub range_refusal : Volume → ℤ → ℕ → Option Refusal
range_refusal volume offset n = if is_good (length volume.disk) offset n then None else Some OutOfRange

-- that there is no room for one layer more
abbrev pub room_refusal : Volume → Option Refusal
room_refusal volume = if nat_lt (layer_count volume.snapshots) most_layers then None else Some ChainFull

-- that no snapshot of the name can be used
abbrev pub live_refusal : Volume → List ℕ → Option Refusal
live_refusal volume name = if is_live volume.snapshots.tree name then None else Some NoSuchSnapshot

-- that the replica has not failed, or that there is no room for one layer more
abbrev pub add_refusal : Mode → Volume → Option Refusal
add_refusal Rw volume = Some InUse
add_refusal Wo volume = Some InUse
add_refusal Err volume = room_refusal volume

-- what stands against it in the volume and its replicas
abbrev pub command_refusal : List Mode → Volume → Command → Option Refusal
command_refusal modes volume (command.Snapshot name) = room_refusal volume
command_refusal modes volume (command.Remove name) = live_refusal volume name
command_refusal modes volume (command.Revert name) = live_refusal volume name
command_refusal modes volume command.Purge = None
command_refusal modes volume command.Status = None
command_refusal modes volume (command.Fail r) = None
command_refusal modes volume (command.Add r) = add_refusal (mode_of modes r) volume
command_refusal modes volume (command.Backup backup snapshot) = live_refusal volume snapshot

abbrev pub volume_refusal : List Mode → Volume → Call → Option Refusal
volume_refusal modes volume (call.Read offset n) = if nat_lt longest_call n then Some TooLong else range_refusal volume offset n
volume_refusal modes volume (call.Write offset bytes) = range_refusal volume offset (length bytes)
volume_refusal modes volume call.Ping = None
volume_refusal modes volume (call.Other kind) = Some Unsupported
volume_refusal modes volume (call.Command c) = command_refusal modes volume c

-- that a snapshot had the name
abbrev pub name_refusal : List (List ℕ) → Call → Option Refusal
name_refusal used (call.Command (command.Snapshot name)) = if is_used used name then Some NameUsed else None
name_refusal used c = None

abbrev pub refusal_of : List Mode → PlainState → Call → Option Refusal
refusal_of modes state c = option_or (name_refusal state.used c) (volume_refusal modes state.volume c)

-- ---- what a call leaves that nothing stands against: what a purge takes out, its marks tell

abbrev pub volume_after_command : Volume → Command → Volume
volume_after_command volume (command.Snapshot name) = snapped volume name
volume_after_command volume (command.Remove name) = removed volume name
volume_after_command volume (command.Revert name) = reverted volume name
volume_after_command volume c = volume

-- the volume
abbrev pub volume_after : Volume → Call → Volume
volume_after volume (call.Write offset bytes) = written volume offset bytes
volume_after volume (call.Command c) = volume_after_command volume c
volume_after volume c = volume

-- the names that were taken
abbrev pub used_after : List (List ℕ) → Call → List (List ℕ)
used_after used (call.Command (command.Snapshot name)) = with_used used name
used_after used c = used

abbrev pub after_call : PlainState → Call → PlainState
after_call state c = record { volume = volume_after state.volume c; used = used_after state.used c }

-- ---- what a call is answered that nothing stands against

abbrev pub reply_of : List Mode → Volume → Call → Reply
reply_of modes volume (call.Read offset n) = reply.Read (bytes_at volume.disk (place_of offset) n)
reply_of modes volume (call.Command command.Status) = reply.Status (layer_count volume.snapshots) modes
reply_of modes volume c = reply.Done

-- ---- the step

-- A refused call changes nothing.
abbrev pub step_unless : Option Refusal → List Mode → PlainState → Call → PlainState × Reply
step_unless (Some why) modes state c = (state, reply.Refused why)
step_unless None modes state c = (after_call state c, reply_of modes state.volume c)

-- the state after a call on replicas of these modes, and the call's reply
abbrev pub plain_step : List Mode → PlainState → Call → PlainState × Reply
plain_step modes state c = step_unless (refusal_of modes state c) modes state c
