-- Entries, and sessions that have ended, as a program holds them: names are names, no number has more than 64 bits, and bytes
-- are bytes.
use Rattle.std.specs.Prelude.{ℕ, ◌^◌, ◌<◌, List, length, FitsSigned}
use Rattle.std.specs.Int.{w64}
use Rattle.std.specs.List.{All}
use Rattle.vol_units.specs.Name.{IsName}
use Rattle.volume_model.specs.declared.call.Call.{Call}
use Rattle.volume_model.specs.declared.call.Call.TheVariants as call
use Rattle.volume_model.specs.declared.call.Reply.{Reply}
use Rattle.volume_model.specs.declared.call.Reply.TheVariants as reply
use Rattle.volume_model.specs.declared.command.Command.{Command}
use Rattle.volume_model.specs.declared.command.Command.TheVariants.{Snapshot, Remove, Revert, Fail, Add, Backup}
use Rattle.volume_model.specs.declared.entry.Answer.{Answer}
use Rattle.volume_model.specs.declared.entry.Entry.{Entry}
use Rattle.volume_model.specs.declared.entry.Entry.TheVariants as entry
use Rattle.volume_model.specs.declared.mark.FoldOrDrop.{FoldOrDrop}
use Rattle.volume_model.specs.declared.mark.FoldOrDrop.TheVariants as part
use Rattle.volume_model.specs.declared.mark.Mark.{Mark}
use Rattle.volume_model.specs.declared.mark.Mark.TheVariants as mark
use Rattle.run_report.specs.declared.session_line.EndedSession.{EndedSession}
use Rattle.run_report.specs.declared.session_line.SessionEnd.{SessionEnd}
use Rattle.run_report.specs.declared.session_line.SessionEnd.TheVariants as end

-- a number of at most 64 bits
abbrev pub Fits64 : ℕ → Type 0
Fits64 n = n < 2 ^ 64

-- bytes, and no more than such a number counts
pub record AreBytes (bytes : List ℕ) : Type 0 where
  pub each : All (λ b. b < 256) bytes
  pub few : Fits64 (length bytes)

-- the snapshot, the replica or the backup that a command names
abbrev pub CommandFits : Command → Type 0
CommandFits (Snapshot name) = IsName name
CommandFits (Remove name) = IsName name
CommandFits (Revert name) = IsName name
CommandFits (Fail r) = Fits64 r
CommandFits (Add r) = Fits64 r
CommandFits (Backup backup snapshot) = IsName backup × IsName snapshot
CommandFits c = Unit {0}

-- what a call asks
abbrev pub CallFits : Call → Type 0
CallFits (call.Read offset n) = FitsSigned w64 offset × Fits64 n
CallFits (call.Write offset bytes) = FitsSigned w64 offset × AreBytes bytes
CallFits (call.Other kind) = Fits64 kind
CallFits (call.Command c) = CommandFits c
CallFits c = Unit {0}

-- what a call is answered
abbrev pub ReplyFits : Reply → Type 0
ReplyFits (reply.Read bytes) = AreBytes bytes
ReplyFits (reply.Status layers modes) = Fits64 layers
ReplyFits (reply.Aborted place) = Fits64 place
ReplyFits r = Unit {0}

-- an answer, with its place in its stream and what it saw
pub record AnswerFits (a : Answer) : Type 0 where
  pub saw : Fits64 a.saw
  pub stream : Fits64 a.stream
  pub index : Fits64 a.index
  pub call : CallFits a.call
  pub reply : ReplyFits a.reply

-- the layer that goes, and the one that takes its place
abbrev pub PartFits : FoldOrDrop → Type 0
PartFits (part.Fold p c) = IsName p × IsName c
PartFits (part.Drop p) = IsName p

-- what a mark tells
abbrev pub MarkFits : Mark → Type 0
MarkFits (mark.Purged part) = PartFits part
MarkFits (mark.Fault stream r count) = Fits64 stream × Fits64 r × Fits64 count
MarkFits (mark.Failed r) = Fits64 r
MarkFits (mark.Added r source name) = Fits64 r × Fits64 source × IsName name
MarkFits (mark.Promoted r) = Fits64 r
MarkFits (mark.Aborted r) = Fits64 r

-- what an entry holds
abbrev pub EntryFits : Entry → Type 0
EntryFits (entry.Answer a) = AnswerFits a
EntryFits (entry.Mark m) = MarkFits m

-- what each of these entries holds
abbrev pub AllFit : List Entry → Type 0
AllFit entries = All EntryFits entries

-- the place where a session met no whole frame
abbrev pub EndFits : SessionEnd → Type 0
EndFits (end.Frame place) = Fits64 place
EndFits e = Unit {0}

-- what is told of a session that has ended
pub record SessionFits (s : EndedSession) : Type 0 where
  pub place : EndFits s.end
  pub calls : Fits64 s.calls
  pub seen : Fits64 s.seen

-- what is told of each of these sessions
abbrev pub SessionsFit : List EndedSession → Type 0
SessionsFit sessions = All SessionFits sessions
