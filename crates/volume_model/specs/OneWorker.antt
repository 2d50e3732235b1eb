-- The journal of streams whose calls one worker answers, one stream after another, while no line fails. It is a function
-- of the calls, of where the run began, and of what the store of backups has against them.
use Rattle.std.specs.Prelude.{◌≡◌, ℕ, suc, ◌+◌, ◌<◌, Bool, true, false, List, [], ◌∷◌, ◌++◌, length, slice_index_or, Option, None, Some}
use Rattle.std.specs.Option.{option_or}
use Rattle.vol_units.specs.Name.{begins_sys, sys_name}
use Rattle.volume_model.specs.declared.command.Command.TheVariants as command
use Rattle.volume_model.specs.declared.call.Call.{Call}
use Rattle.volume_model.specs.declared.call.Call.TheVariants as call
use Rattle.volume_model.specs.declared.call.Refusal.{Refusal}
use Rattle.volume_model.specs.declared.call.Refusal.TheVariants.{NoReplica, BackupExists, BlockDiffers, TargetFault}
use Rattle.volume_model.specs.declared.entry.Entry.{Entry}
use Rattle.volume_model.specs.declared.entry.Entry.TheVariants as entry
use Rattle.volume_model.specs.declared.mark.Mark.TheVariants as mark
use Rattle.volume_model.specs.declared.mode.Mode.{Mode}
use Rattle.volume_model.specs.declared.mode.Mode.TheVariants.{Rw, Wo, Err}
use Rattle.volume_model.specs.PlainState.{PlainState}
use Rattle.volume_model.specs.PlainStep.{refusal_of, step_unless}
use Rattle.volume_model.specs.Purge.{parts_of}
use Rattle.volume_model.specs.Marks.{marks_of}
use Rattle.volume_model.specs.Replay.{replay}
use Rattle.volume_model.specs.declared.call.Reply.{Reply}
use Rattle.volume_model.specs.Modes.{mode_of, modes_after, source_of, asks_replica, asks_store}
use Rattle.volume_model.specs.History.{Spot}

-- ---- where the worker stands

-- behind these entries
abbrev pub behind_entries : Spot → List Entry → Spot
behind_entries spot es = record { state = replay spot.state es; modes = modes_after spot.modes es }

-- ---- what stands against a call

-- that there is none, where the call asks for one
abbrev pub want_of_replica : Bool → Option ℕ → Option Refusal
want_of_replica false source = None
want_of_replica true None = Some NoReplica
want_of_replica true (Some r) = None

-- what a store has against a backup: it has one of the name, it has another block of a page's checksum, or it failed
pub data Against : Type 0 where
  Exists : Against
  Differs : Against
  Fails : Against

abbrev pub why_against : Against → Refusal
why_against Exists = BackupExists
why_against Differs = BlockDiffers
why_against Fails = TargetFault

-- what it has against the backup that is answered at this place of the journal, if anything
abbrev pub Store : Type 0
Store = ℕ → Option Against

-- one that has nothing against any
abbrev pub no_store : Store
no_store place = None

-- a backup alone asks it
abbrev pub store_refusal : Option Against → Call → Option Refusal
store_refusal None c = None
store_refusal (Some against) (call.Command (command.Backup backup snapshot)) = Some (why_against against)
store_refusal (Some against) c = None

-- what the volume refuses, then what the store has against it, and then that there is no replica
abbrev pub refused_by : Option Against → Spot → Call → Option Refusal
refused_by told spot c = option_or (refusal_of spot.modes spot.state c)
    (option_or (store_refusal told c) (want_of_replica (asks_replica c) (source_of spot.modes)))

-- while the store has nothing against it
abbrev pub refused_at : Spot → Call → Option Refusal
refused_at spot c = refused_by None spot c

-- ---- the marks of a call before its answer

-- a replica that has not failed does
abbrev pub fail_marks : ℕ → Mode → List Entry
fail_marks r Rw = entry.Mark (mark.Failed r) ∷ []
fail_marks r Wo = entry.Mark (mark.Failed r) ∷ []
fail_marks r Err = []

-- a replica is rebuilt from that one, and read
abbrev pub add_marks : PlainState → ℕ → Option ℕ → List Entry
add_marks state r None = []
add_marks state r (Some source) = entry.Mark (mark.Added r source (sys_name state.volume.snapshots.number))
    ∷ entry.Mark (mark.Promoted r) ∷ []

-- a purge takes out all that can go
abbrev pub call_marks : Spot → Call → List Entry
call_marks spot (call.Command command.Purge) = marks_of (parts_of spot.state.volume.snapshots)
call_marks spot (call.Command (command.Fail r)) = fail_marks r (mode_of spot.modes r)
call_marks spot (call.Command (command.Add r)) = add_marks spot.state r (source_of spot.modes)
call_marks spot c = []

-- a refused call makes none
abbrev pub marks_unless : Option Refusal → Spot → Call → List Entry
marks_unless (Some why) spot c = []
marks_unless None spot c = call_marks spot c

-- ---- the journal

-- the marks that the worker makes of a call
abbrev pub marks_before : Spot → Call → List Entry
marks_before spot c = marks_unless (refused_at spot c) spot c

-- a call's marks and its answer, where that stands against it: the answer of a stream's call of this index, taken up at
-- this place of the journal
abbrev pub reply_for : Option Refusal → Spot → Call → Reply
reply_for why spot c = (step_unless why spot.modes spot.state c).1

abbrev pub answer_for : Option Refusal → Spot → ℕ → ℕ → ℕ → Call → Entry
answer_for why spot stream place index c =
    entry.Answer (record { call = c; reply = reply_for why spot c; index = index; saw = place; stream = stream })

abbrev pub entries_for : Option Refusal → Spot → ℕ → ℕ → ℕ → Call → List Entry
entries_for why spot stream place index c = marks_unless why spot c ++ answer_for why spot stream place index c ∷ []

-- the entries of that call, of which the store tells this
abbrev pub entries_by : Option Against → Spot → ℕ → ℕ → ℕ → Call → List Entry
entries_by told spot stream place index c = entries_for (refused_by told spot c) spot stream place index c

-- while it has nothing against it
abbrev pub entries_at : Spot → ℕ → ℕ → ℕ → Call → List Entry
entries_at spot stream place index c = entries_by None spot stream place index c

-- what the call leaves, whatever the store tells of it
abbrev pub after_done : Spot → Call → Spot
after_done spot c = behind_entries spot (entries_at spot 0 0 0 c)

-- the place behind these entries
abbrev pub behind : ℕ → List Entry → ℕ
behind place entries = place + length entries

-- the entries of these calls of a stream, the first of which has this place and this index
abbrev pub served_from : Store → Spot → ℕ → ℕ → ℕ → List Call → List Entry
served_from store spot stream place index [] = []
served_from store spot stream place index (c ∷ cs) =
    let first = entries_by (store place) spot stream place index c in
    first ++ served_from store (after_done spot c) stream (behind place first) (suc index) cs

-- where the worker stands after these calls, one after another
abbrev pub after_calls : Spot → List Call → Spot
after_calls spot [] = spot
after_calls spot (c ∷ cs) = after_calls (after_done spot c) cs

-- after the calls of these streams
abbrev pub after_streams : Spot → List (List Call) → Spot
after_streams spot [] = spot
after_streams spot (calls ∷ more) = after_streams (after_calls spot calls) more

-- the entries of these streams, the first of which has this number, and its first entry this place
abbrev pub served_streams : Store → Spot → ℕ → ℕ → List (List Call) → List Entry
served_streams store spot stream place [] = []
served_streams store spot stream place (calls ∷ more) =
    let first = served_from store spot stream place 0 calls in
    first ++ served_streams store (after_calls spot calls) (suc stream) (behind place first) more

-- the journal of the calls of each stream, in the order of their numbers, of which the store tells so
abbrev pub served : Store → Spot → List (List Call) → List Entry
served store opening streams = served_streams store opening 0 0 streams

-- ---- calls as a script has them

-- a snapshot is taken under a user's name, and a replica that is to be rebuilt is one of so many
abbrev pub IsProper : ℕ → Call → Type 0
IsProper replicas (call.Command (command.Snapshot name)) = begins_sys name ≡ false
IsProper replicas (call.Command (command.Add r)) = r < replicas
IsProper replicas c = Unit {0}

abbrev pub AreProper : ℕ → List Call → Type 0
AreProper replicas [] = Unit {0}
AreProper replicas (c ∷ cs) = IsProper replicas c × AreProper replicas cs

abbrev pub AllProper : ℕ → List (List Call) → Type 0
AllProper replicas [] = Unit {0}
AllProper replicas (calls ∷ more) = AreProper replicas calls × AllProper replicas more

-- none of the calls is a backup
abbrev pub AskNone : List Call → Type 0
AskNone [] = Unit {0}
AskNone (c ∷ cs) = (asks_store c ≡ false) × AskNone cs

-- how many calls the streams have
abbrev pub call_count : List (List Call) → ℕ
call_count [] = 0
call_count (calls ∷ more) = length calls + call_count more

-- the calls of each stream, of these streams
abbrev pub stream_of : List (List Call) → ℕ → List Call
stream_of streams stream = slice_index_or streams stream []
