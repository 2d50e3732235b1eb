-- Words for worked journals: of which it is shown whether they are legal.
use Rattle.std.specs.Prelude.{ℕ, List, [], ◌∷◌, pos}
use Rattle.vol_units.specs.Name.{sys_name}
use Rattle.volume_model.specs.declared.command.Command.TheVariants as command
use Rattle.volume_model.specs.declared.call.Call.{Call}
use Rattle.volume_model.specs.declared.call.Call.TheVariants as call
use Rattle.volume_model.specs.declared.call.Reply.{Reply}
use Rattle.volume_model.specs.declared.call.Reply.TheVariants as reply
use Rattle.volume_model.specs.declared.entry.Entry.{Entry}
use Rattle.volume_model.specs.declared.entry.Entry.TheVariants as entry
use Rattle.volume_model.specs.declared.mark.Mark.TheVariants as mark
use Rattle.volume_model.specs.declared.mode.Mode.{Mode}
use Rattle.volume_model.specs.PlainState.{state_of}
use Rattle.volume_model.specs.History.{Spot}

-- a disk of one byte, on replicas of these modes
abbrev pub on_replicas : List Mode → Spot
on_replicas modes = record { state = state_of (97 ∷ []); modes = modes }

-- a call of a stream with its index and its reply, taken up at that place of the journal
abbrev pub said : ℕ → ℕ → ℕ → Call → Reply → Entry
said saw stream index c r = entry.Answer (record { call = c; reply = r; index = index; saw = saw; stream = stream })

-- a replica is told to fail
abbrev pub told_to_fail : ℕ → ℕ → ℕ → List Entry → List Entry
told_to_fail saw index r more =
    entry.Mark (mark.Failed r) ∷ said saw 1 index (call.Command (command.Fail r)) reply.Done ∷ more

-- replica 1 failed, and a rebuild of it from replica 0 began
abbrev pub rebuilding : List Entry → List Entry
rebuilding more = told_to_fail 0 0 1 (entry.Mark (mark.Added 1 0 (sys_name 0)) ∷ more)

-- the rebuild of replica 1 is aborted, and its add is answered so
abbrev pub given_up : List Entry
given_up = entry.Mark (mark.Aborted 1) ∷ said 2 1 1 (call.Command (command.Add 1)) (reply.Aborted 3) ∷ []

-- A replica fails and is rebuilt while a client writes. Then the other one fails, and the first is read.
abbrev pub rebuilt_beside_a_write : List Entry
rebuilt_beside_a_write = rebuilding (
    said 2 0 0 (call.Write (pos 0) (98 ∷ [])) reply.Done
    ∷ entry.Mark (mark.Promoted 1) ∷ said 2 1 1 (call.Command (command.Add 1)) reply.Done
    ∷ told_to_fail 6 2 0 (said 8 2 0 (call.Read (pos 0) 1) (reply.Read (98 ∷ [])) ∷ []))
