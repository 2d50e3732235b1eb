-- What the core's steps say to the stream for which they are taken.
use Rattle.std.specs.Prelude.{◌≡◌, ◌⊎◌, ℕ, ◌+◌, ◌*◌, ◌<◌, ◌≤◌, ℤ, pos, true, false, List, [], ◌∷◌, ◌++◌, length, slice_set, All}
use Rattle.std.specs.Prelude.{is_some, Option, IfSome}
use Rattle.vol_units.specs.Bytes.{bytes_at, with_bytes_at}
use Rattle.vol_units.specs.Range.{place_of, blocks_around}
use Rattle.vol_units.specs.declared.range.BlockRange.{BlockRange}
use Rattle.vol_units.specs.declared.size.TheConstants.{BLOCK_BYTES, LARGEST_SIZE}
use Rattle.volume_model.specs.declared.call.Call.{Call}
use Rattle.volume_model.specs.declared.call.Call.TheVariants as call
use Rattle.volume_model.specs.declared.call.Reply.{Reply}
use Rattle.volume_model.specs.declared.call.Reply.TheVariants as reply
use Rattle.volume_model.specs.declared.entry.Answer.{Answer}
use Rattle.volume_model.specs.declared.mode.Mode.TheVariants.{Rw}
use Rattle.volume_model.specs.History.{Spot}
use Rattle.volume_model.specs.Modes.{mode_of}
use Rattle.step_answers.specs.declared.parts.Part.TheVariants.{Taken, Acked}
use Rattle.step_answers.specs.Asked.{IsNow}
use Rattle.step_answers.specs.Parts.{part_at}
use Rattle.sparse_image.specs.Listed.{bytes_in}
use Rattle.step_answers.specs.declared.answers.Admit.{Admit}
use Rattle.step_answers.specs.declared.answers.Admit.TheVariants as admit
use Rattle.step_answers.specs.declared.answers.Enrolled.{Enrolled}
use Rattle.step_answers.specs.declared.answers.Enrolled.TheVariants as enrol
use Rattle.step_answers.specs.declared.answers.Job.{Job}
use Rattle.volume_model.specs.declared.command.Command.{Command}
use Rattle.volume_model.specs.declared.command.Command.TheVariants as command
use Rattle.volume_model.specs.declared.entry.Entry.{Entry}
use Rattle.volume_model.specs.declared.entry.Entry.TheVariants as entry
use Rattle.volume_model.specs.declared.mark.Mark.{Mark}
use Rattle.volume_model.specs.declared.mark.Mark.TheVariants as mark
use Rattle.volume_model.specs.Modes.{HasSource, HasNoSource}
use Rattle.volume_model.specs.OneWorker.{entries_at}
use Rattle.stream_steps.specs.Mine.{Mine, OwnCall, Log, with_entries, with_more, with_running, answer_placed}
use Rattle.stream_steps.specs.Mine.{fault_placed, length_of, log_length}

-- ---- enrolled

-- a call that a frame asks, and no command
abbrev pub IsFrameCall : Call → Type 0
IsFrameCall (call.Command c) = ⊥
IsFrameCall c = Unit {0}

-- a read or a write
abbrev pub IsOnBlocks : Call → Type 0
IsOnBlocks (call.Read offset n) = Unit {0}
IsOnBlocks (call.Write offset bytes) = Unit {0}
IsOnBlocks c = ⊥

-- a read or a write that waits for its start
pub record HasNotStarted (o : OwnCall) : Type 0 where
  pub waits : o.started ≡ false
  pub range : IsOnBlocks o.call

-- one that has started
abbrev pub HasStarted : OwnCall → Type 0
HasStarted o = (o.started ≡ true) × IsOnBlocks o.call

abbrev pub IsWriteCall : Call → Type 0
IsWriteCall (call.Write offset bytes) = Unit {0}
IsWriteCall c = ⊥

abbrev pub IsReadCall : Call → Type 0
IsReadCall (call.Read offset n) = Unit {0}
IsReadCall c = ⊥

-- a started write, and a started read
abbrev pub IsStartedWrite : OwnCall → Type 0
IsStartedWrite o = (o.started ≡ true) × IsWriteCall o.call

abbrev pub IsStartedRead : OwnCall → Type 0
IsStartedRead o = (o.started ≡ true) × IsReadCall o.call

-- a call of a frame that asks nothing of a replica's blocks
pub record AsksNow (c : Call) : Type 0 where
  pub now : IsNow c
  pub frame : IsFrameCall c

-- so many bytes from the offset on lie within the largest volume
pub record HasPlaces (offset : ℤ) (n : ℕ) : Type 0 where
  pub from : offset ≡ pos (place_of offset)
  pub inside : place_of offset + n ≤ LARGEST_SIZE

-- those of a read or a write do
abbrev pub IsWithin : Call → Type 0
IsWithin (call.Read offset n) = HasPlaces offset n
IsWithin (call.Write offset bytes) = HasPlaces offset (length bytes)
IsWithin c = Unit {0}

-- the call is open now, under that ticket, and has not started; its caller saw what there is
pub record EnrolsAt (t : ℕ) (c : Call) (m m2 : Mine) : Type 0 where
  pub own : OwnCall
  pub is : m2 ≡ with_running m (own ∷ [])
  pub number : own.number ≡ t
  pub call : own.call ≡ c
  pub waits : own.started ≡ false
  pub saw : IfSome (log_length m) (λ place. own.saw ≡ place)

-- ---- answered

-- what is answered with nothing carried: no bytes are read, and no write is done
abbrev pub IsUncarried : Call → Reply → Type 0
IsUncarried c (reply.Read bytes) = ⊥
IsUncarried (call.Write offset bytes) reply.Done = ⊥
IsUncarried c r = Unit {0}

-- the call is answered at once
pub record AnswersNow (c : Call) (m m2 : Mine) : Type 0 where
  pub spot : Spot
  pub answer : Answer
  pub is : m2 ≡ with_more m (answer_placed spot answer ∷ []) []
  pub call : answer.call ≡ c
  pub by : answer.stream ≡ m.stream
  pub saw : IfSome (log_length m) (λ place. answer.saw ≡ place)
  pub uncarried : IsUncarried c answer.reply

-- An open call is answered. A write was done where each replica that is read and written has acknowledged it, and what
-- was read are the bytes of one that acknowledged.
pub record Answers (o : OwnCall) (m m2 : Mine) : Type 0 where
  pub spot : Spot
  pub answer : Answer
  pub is : m2 ≡ with_more m (answer_placed spot answer ∷ []) []
  pub here : IfSome m.log (λ log. log.spot ≡ spot)
  pub call : answer.call ≡ o.call
  pub by : answer.stream ≡ m.stream
  pub saw : answer.saw ≡ o.saw
  pub done : answer.reply ≡ reply.Done → (r : ℕ) → mode_of spot.modes r ≡ Rw → part_at o.parts r ≡ Acked
  pub read : (bytes : List ℕ) → answer.reply ≡ reply.Read bytes
      → (bytes ≡ o.buffer) × ((r : ℕ) × (r < m.replicas) × (part_at o.parts r ≡ Acked))

-- the same, with nothing carried, since no replica is read and written
pub record Refuses (o : OwnCall) (m m2 : Mine) : Type 0 where
  pub ends : Answers o m m2
  pub lost : HasNoSource ends.spot.modes
  pub uncarried : IsUncarried o.call ends.answer.reply

abbrev pub EnrolsTo : Call → Enrolled → Mine → Mine → Type 0
EnrolsTo c (enrol.Ticket t) m m2 = EnrolsAt t c m m2 × IsWithin c
EnrolsTo c (enrol.OutOfRange place) m m2 = AnswersNow c m m2

-- ---- started

-- the bytes, with what stays of the blocks before and behind them, are all bytes of the blocks around them
pub record IsRounded (offset : ℤ) (bytes : List ℕ) (range : BlockRange) (whole : List ℕ) : Type 0 where
  pub front : List ℕ
  pub back : List ℕ
  pub is : whole ≡ (front ++ bytes) ++ back
  pub first : range.first < range.end → range.first * BLOCK_BYTES + length front ≡ place_of offset
  pub count : range.first * BLOCK_BYTES + length whole ≡ range.end * BLOCK_BYTES
  pub around : range ≡ blocks_around (place_of offset) (length bytes)

-- what a started call is of: a write of whole blocks, and a read of as many bytes as were asked
abbrev pub IsStarted : Call → OwnCall → Type 0
IsStarted (call.Read offset n) o = length o.buffer ≡ n
IsStarted (call.Write offset bytes) o = IsRounded offset bytes o.range o.whole
IsStarted c o = Unit {0}

-- what the job carries of a write of these bytes: what stays before them, they, and what stays behind them
abbrev pub carried_by : Job → List ℕ → List ℕ
carried_by job bytes = (job.front ++ bytes) ++ job.back

-- that is all bytes of the write's blocks
abbrev pub IsJobFor : Call → Job → OwnCall → Type 0
IsJobFor (call.Write offset bytes) job o = o.whole ≡ carried_by job bytes
IsJobFor c job o = Unit {0}

-- and it is what the disk has in these blocks, with the write's bytes put in
abbrev pub IsMerged : List ℕ → Call → Job → Type 0
IsMerged disk (call.Write offset bytes) job = carried_by job bytes ≡ bytes_at
    (with_bytes_at disk (place_of offset) bytes) (job.range.first * BLOCK_BYTES) (length (carried_by job bytes))
IsMerged disk c job = Unit {0}

-- the call starts while a replica is read and written, and none has acknowledged it
pub record StartsCall (o : OwnCall) (j : Job) (m m2 : Mine) : Type 0 where
  pub own : OwnCall
  pub is : m2 ≡ with_running m (own ∷ [])
  pub same : own ≡ record o { started = true; whole = own.whole; buffer = own.buffer; parts = own.parts }
  pub of : IsStarted o.call own
  pub job : IsJobFor o.call j own
  pub range : j.range ≡ own.range
  pub asks : j.parts ≡ own.parts
  pub none : (r : ℕ) → part_at own.parts r ≡ Acked → ⊥
  pub source : IfSome m.log (λ log. HasSource log.spot.modes)

abbrev pub AdmitsTo : OwnCall → Admit → Mine → Mine → Type 0
AdmitsTo o (admit.Go job) m m2 = StartsCall o job m m2
AdmitsTo o (admit.After other) m m2 = m2 ≡ m
AdmitsTo o (admit.NoReplica place) m m2 = Refuses o m m2

-- no earlier call is in the way
abbrev pub IsNotAfter : Admit → Type 0
IsNotAfter (admit.After other) = ⊥
IsNotAfter a = Unit {0}

-- ---- on one replica

-- the blocks are those of a started write
pub record AreBlocksOfCall (o : OwnCall) (blocks : List (Option (List ℕ))) : Type 0 where
  pub full : All (λ b. is_some b ≡ true) blocks
  pub count : o.range.first + length blocks ≡ o.range.end
  pub bytes : bytes_in blocks ≡ o.whole

-- the replica has taken its part
abbrev pub TakesTo : OwnCall → ℕ → List ℕ → Mine → Mine → Type 0
TakesTo o r buffer m m2 = m2 ≡ with_running m (record o { buffer = buffer; parts = slice_set o.parts r Taken } ∷ [])

-- the replica has acknowledged it
abbrev pub AcksTo : OwnCall → ℕ → Mine → Mine → Type 0
AcksTo o r m m2 = m2 ≡ with_running m (record o { parts = slice_set o.parts r Acked } ∷ [])

-- the stream's line to a replica is marked
pub record FaultsTo (r count : ℕ) (m m2 : Mine) : Type 0 where
  pub spot : Spot
  pub is : m2 ≡ with_more m (fault_placed spot m.stream r count ∷ []) m.running

-- a rebuild is aborted, or none is
abbrev pub AreAborts : List Entry → Type 0
AreAborts es = (es ≡ []) ⊎ ((q : ℕ) × (es ≡ entry.Mark (mark.Aborted q) ∷ []))

-- the same, and behind it stands that a rebuild was aborted thereby, if one was
pub record FallsTo (r count : ℕ) (m m2 : Mine) : Type 0 where
  pub spot : Spot
  pub aborted : List Entry
  pub is : m2 ≡ with_entries m (fault_placed spot m.stream r count ∷ []) (entry.Mark (mark.Fault m.stream r count) ∷ aborted) m.running
  pub are : AreAborts aborted

-- ---- commands

-- a mark that is no fault of a line
abbrev pub IsNoFault : Mark → Type 0
IsNoFault (mark.Fault stream r count) = ⊥
IsNoFault m = Unit {0}

-- entries that are such marks
abbrev pub AreMarks : List Entry → Type 0
AreMarks [] = Unit {0}
AreMarks (entry.Answer a ∷ es) = ⊥
AreMarks (entry.Mark m ∷ es) = IsNoFault m × AreMarks es

-- the entries are those that one worker makes of the command there, as its stream's call of some index
abbrev pub IsCommandAt : ℕ → Command → List Entry → Answer → Log → Type 0
IsCommandAt stream c all answer log = all ≡ entries_at log.spot stream (length_of log) answer.index (call.Command c)

-- a command of the stream is answered, behind its marks
pub record CommandsTo (c : Command) (m m2 : Mine) : Type 0 where
  pub marks : List Entry
  pub spot : Spot
  pub answer : Answer
  pub is : m2 ≡ with_entries m (answer_placed spot answer ∷ []) (marks ++ entry.Answer answer ∷ []) []
  pub are : AreMarks marks
  pub call : answer.call ≡ call.Command c
  pub by : answer.stream ≡ m.stream
  pub saw : IfSome m.log (λ log. answer.saw ≡ length_of log)
  pub turn : IfSome m.log (IsCommandAt m.stream c (marks ++ entry.Answer answer ∷ []) answer)

-- a command that is answered at once
abbrev pub IsAtOnce : Command → Type 0
IsAtOnce (command.Fail r) = Unit {0}
IsAtOnce command.Status = Unit {0}
IsAtOnce c = ⊥
