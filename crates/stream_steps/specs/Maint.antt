-- What the core's steps on the whole volume and of the maintenance turn say to the stream for which they are taken.
use Rattle.std.specs.Prelude.{◌≡◌, ◌≢◌, ℕ, ◌⊎◌, true, false, List, [], ◌∷◌, ◌++◌, slice_set, Option, None, Some, IfSome}
use Rattle.volume_model.specs.declared.command.Command.{Command}
use Rattle.volume_model.specs.declared.command.Command.TheVariants as command
use Rattle.volume_model.specs.declared.call.Call.TheVariants as call
use Rattle.volume_model.specs.declared.call.Refusal.TheVariants.{NoReplica}
use Rattle.volume_model.specs.declared.call.Reply.{Reply}
use Rattle.volume_model.specs.declared.call.Reply.TheVariants as reply
use Rattle.volume_model.specs.declared.entry.Answer.{Answer}
use Rattle.volume_model.specs.declared.entry.Entry.{Entry}
use Rattle.volume_model.specs.declared.entry.Entry.TheVariants as entry
use Rattle.volume_model.specs.declared.mark.FoldOrDrop.{FoldOrDrop}
use Rattle.volume_model.specs.declared.mark.Mark.TheVariants as mark
use Rattle.volume_model.specs.declared.mode.Mode.{Mode}
use Rattle.volume_model.specs.declared.mode.Mode.TheVariants.{Err}
use Rattle.vol_units.specs.Name.{sys_name}
use Rattle.volume_model.specs.History.{Spot}
use Rattle.volume_model.specs.Modes.{mode_of, source_of, HasSource, HasNoSource}
use Rattle.volume_model.specs.OneWorker.{refused_at}
use Rattle.volume_model.specs.Purge.{next_of}
use Rattle.range_turns.specs.declared.turns.MayStart.{MayStart}
use Rattle.range_turns.specs.declared.turns.MayStart.TheVariants as may
use Rattle.step_answers.specs.declared.parts.Part.TheVariants.{Owed, Taken, Acked}
use Rattle.step_answers.specs.declared.whole_op.WholeOp.{WholeOp}
use Rattle.step_answers.specs.declared.whole_op.WholeOp.TheVariants as whole
use Rattle.step_answers.specs.Asked.{command_of}
use Rattle.step_answers.specs.Parts.{part_at, is_pending_at, IsTaken}
use Rattle.step_answers.specs.declared.answers.NotThis.{NotThis}
use Rattle.step_answers.specs.declared.answers.NotThis.TheVariants as against
use Rattle.step_answers.specs.declared.answers.AdmitWhole.{AdmitWhole}
use Rattle.step_answers.specs.declared.answers.AdmitWhole.TheVariants as admit
use Rattle.step_answers.specs.declared.answers.NextPart.{NextPart}
use Rattle.step_answers.specs.declared.answers.NextPart.TheVariants as next
use Rattle.stream_steps.specs.Mine.{Mine, OwnCall, Log, with_entries, with_more, with_running, answer_placed}
use Rattle.stream_steps.specs.Steps.{EnrolsAt}

-- ---- the maintenance turn

-- a command that wants the turn
abbrev pub IsMaint : Command → Type 0
IsMaint (command.Remove name) = Unit {0}
IsMaint (command.Revert name) = Unit {0}
IsMaint command.Purge = Unit {0}
IsMaint (command.Add r) = Unit {0}
IsMaint (command.Backup backup snapshot) = Unit {0}
IsMaint c = ⊥

-- one that rebuilds no replica
abbrev pub IsNoAdd : Command → Type 0
IsNoAdd (command.Add r) = ⊥
IsNoAdd c = Unit {0}

-- that command is the stream's open call: it has the turn, and nothing is enrolled for the whole volume
pub record HasTurn (t : ℕ) (c : Command) (o : OwnCall) (m : Mine) : Type 0 where
  pub is : m.running ≡ o ∷ []
  pub number : o.number ≡ t
  pub call : o.call ≡ call.Command c
  pub wants : IsMaint c
  pub started : o.started ≡ true

-- of the command that has it
abbrev pub ForTurn : ℕ → Command → Mine → (OwnCall → Type 0) → Type 0
ForTurn t c m fact = (o : OwnCall) → HasTurn t c o m → fact o

-- it waits for the turn
pub record AwaitsTurn (t : ℕ) (c : Command) (o : OwnCall) (m : Mine) : Type 0 where
  pub is : m.running ≡ o ∷ []
  pub number : o.number ≡ t
  pub call : o.call ≡ call.Command c
  pub wants : IsMaint c
  pub waits : o.started ≡ false

-- asked for, the turn is given where no earlier command has it or waits for it
abbrev pub TurnsTo : OwnCall → MayStart → Mine → Mine → Type 0
TurnsTo o may.Yes m m2 = m2 ≡ with_running m (record o { started = true } ∷ [])
TurnsTo o (may.After t) m m2 = m2 ≡ m

-- no earlier command is in the way
abbrev pub IsYes : MayStart → Type 0
IsYes may.Yes = Unit {0}
IsYes (may.After t) = ⊥

-- ---- the whole volume

-- The operation is open for the whole volume, behind the call of the command that has the turn, or behind none.
pub record HasWhole (t : ℕ) (op : WholeOp) (turn : List OwnCall) (o : OwnCall) (m : Mine) : Type 0 where
  pub is : m.running ≡ turn ++ o ∷ []
  pub number : o.number ≡ t
  pub call : o.call ≡ call.Command (command_of op)
  pub does : o.op ≡ Some op

-- of the operation that is open under that ticket
abbrev pub ForWhole : ℕ → Mine → (WholeOp → List OwnCall → OwnCall → Type 0) → Type 0
ForWhole t m fact = (op : WholeOp) (turn : List OwnCall) (o : OwnCall) → HasWhole t op turn o m → fact op turn o

-- of the barrier
abbrev pub ForBarrier : ℕ → Mine → (ℕ → List OwnCall → OwnCall → Type 0) → Type 0
ForBarrier t m fact = (r : ℕ) (turn : List OwnCall) (o : OwnCall) → HasWhole t (whole.Barrier r) turn o m → fact r turn o

-- it is enrolled now, behind these, and has seen that
pub record EnrolsWhole (t : ℕ) (op : WholeOp) (turn : List OwnCall) (m m2 : Mine) : Type 0 where
  pub own : OwnCall
  pub is : m2 ≡ with_running m (turn ++ own ∷ [])
  pub number : own.number ≡ t
  pub call : own.call ≡ call.Command (command_of op)
  pub does : own.op ≡ Some op
  pub waits : own.started ≡ false

-- a snapshot is, and its caller saw what there is
pub record EnrolsSnapshot (t : ℕ) (op : WholeOp) (m m2 : Mine) : Type 0 where
  pub whole : EnrolsWhole t op [] m m2
  pub saw : EnrolsAt t (call.Command (command_of op)) m m2

-- the same under the turn of that call: it saw what that saw
pub record EnrolsUnder (t : ℕ) (op : WholeOp) (turn : OwnCall) (m m2 : Mine) : Type 0 where
  pub whole : EnrolsWhole t op (turn ∷ []) m m2
  pub saw : whole.own.saw ≡ turn.saw

-- so it is enrolled behind the call that has the turn under t; or it is not, for that reason, and nothing changes
pub record EnrolsOr (t : ℕ) (op : WholeOp) (number : Option ℕ) (against : Type 0) (m m2 : Mine) : Type 0 where
  pub some : IfSome number (λ n. ForTurn t (command_of op) m (λ o. EnrolsUnder n op o m m2))
  pub cannot : number ≡ None → against
  pub none : number ≡ None → m2 ≡ m

-- its open call is answered, and none is open
pub record AnswersWhole (o : OwnCall) (r : Reply) (m m2 : Mine) : Type 0 where
  pub spot : Spot
  pub answer : Answer
  pub is : m2 ≡ with_more m (answer_placed spot answer ∷ []) []
  pub here : IfSome m.log (λ log. log.spot ≡ spot)
  pub call : answer.call ≡ o.call
  pub by : answer.stream ≡ m.stream
  pub saw : answer.saw ≡ o.saw
  pub reply : answer.reply ≡ r

-- it starts, and no replica has acknowledged it; where the journal is known, nothing stands against its call
pub record StartsWhole (turn : List OwnCall) (o : OwnCall) (m m2 : Mine) : Type 0 where
  pub own : OwnCall
  pub is : m2 ≡ with_running m (turn ++ own ∷ [])
  pub same : own ≡ record o { started = true; parts = own.parts }
  pub none : (r : ℕ) → part_at own.parts r ≢ Acked
  pub free : IfSome m.log (λ log. refused_at log.spot o.call ≡ None)

-- A barrier starts, and with it the rebuild of the replica, whose mark comes. Where the journal is known, the mark is the
-- one that one worker makes of it there.
pub record StartsBarrier (r : ℕ) (turn : List OwnCall) (o : OwnCall) (m m2 : Mine) : Type 0 where
  pub own : OwnCall
  pub source : ℕ
  pub name : List ℕ
  pub is : m2 ≡ with_entries m [] (entry.Mark (mark.Added r source name) ∷ []) (turn ++ own ∷ [])
  pub same : own ≡ record o { started = true; parts = own.parts }
  pub none : (q : ℕ) → part_at own.parts q ≢ Acked
  pub free : IfSome m.log (λ log. refused_at log.spot o.call ≡ None)
  pub from : IfSome m.log (λ log. source_of log.spot.modes ≡ Some source)
  pub under : IfSome m.log (λ log. name ≡ sys_name log.spot.state.volume.snapshots.number)

abbrev pub StartsAs : WholeOp → List OwnCall → OwnCall → Mine → Mine → Type 0
StartsAs (whole.Barrier r) turn o m m2 = StartsBarrier r turn o m m2
StartsAs op turn o m m2 = StartsWhole turn o m m2

-- it begins no rebuild
abbrev pub IsNoBarrier : WholeOp → Type 0
IsNoBarrier (whole.Barrier r) = ⊥
IsNoBarrier op = Unit {0}

abbrev pub AdmitsWhole : WholeOp → List OwnCall → OwnCall → AdmitWhole → Mine → Mine → Type 0
AdmitsWhole op turn o admit.Go m m2 = StartsAs op turn o m m2
AdmitsWhole op turn o (admit.After other) m m2 = m2 ≡ m
AdmitsWhole op turn o admit.Never m m2 = m2 ≡ m
AdmitsWhole op turn o (admit.Refused why place) m m2 =
    AnswersWhole o (reply.Refused why) m m2 × IfSome m.log (λ log. refused_at log.spot o.call ≡ Some why)

-- no earlier call is in the way
abbrev pub IsNotLater : AdmitWhole → Type 0
IsNotLater (admit.After other) = ⊥
IsNotLater a = Unit {0}

-- the replica takes its part, and acknowledges it
abbrev pub PartsTo : List OwnCall → OwnCall → ℕ → Mine → Mine → Type 0
PartsTo turn o r m m2 = m2 ≡ with_running m (turn ++ record o { parts = slice_set o.parts r Taken } ∷ [])

abbrev pub AcksWhole : List OwnCall → OwnCall → ℕ → Mine → Mine → Type 0
AcksWhole turn o r m m2 = m2 ≡ with_running m (turn ++ record o { parts = slice_set o.parts r Acked } ∷ [])

-- the replica does not: it has failed, or owes no part
abbrev pub AgainstPart : List Mode → OwnCall → ℕ → NotThis → Type 0
AgainstPart modes o r (against.Mode m) = (m ≡ mode_of modes r) × (m ≡ Err)
AgainstPart modes o r against.Ticket = part_at o.parts r ≢ Owed
AgainstPart modes o r why = ⊥

-- the replica does not acknowledge it: it has not taken its part
abbrev pub AgainstAckWhole : OwnCall → ℕ → NotThis → Type 0
AgainstAckWhole o r (against.Pending q) = (q ≡ r) × (¬ IsTaken (part_at o.parts r))
AgainstAckWhole o r why = ⊥

-- it does not end: that replica has still to acknowledge its part
abbrev pub AgainstEndWhole : List Mode → OwnCall → NotThis → Type 0
AgainstEndWhole modes o (against.Pending r) = is_pending_at (mode_of modes r) (part_at o.parts r) ≡ true
AgainstEndWhole modes o why = ⊥

-- ---- its end

-- a call is done where a replica is read and written, and else there is none
abbrev pub IsWholeReply : List Mode → Reply → Type 0
IsWholeReply modes reply.Done = HasSource modes
IsWholeReply modes (reply.Refused why) = (why ≡ NoReplica) × HasNoSource modes
IsWholeReply modes r = ⊥

-- a snapshot, a removal or a revert ends with its answer
pub record EndsWhole (o : OwnCall) (m m2 : Mine) : Type 0 where
  pub reply : Reply
  pub answers : AnswersWhole o reply m m2
  pub right : IfSome m.log (λ log. IsWholeReply log.spot.modes reply)

-- a part of a purge ends with its mark where a replica is read and written, and with none where there is none; the
-- command has the turn still
pub record EndsPart (f : FoldOrDrop) (turn : List OwnCall) (m m2 : Mine) : Type 0 where
  pub marks : List Entry
  pub is : m2 ≡ with_entries m [] marks turn
  pub are : (marks ≡ entry.Mark (mark.Purged f) ∷ []) ⊎ (marks ≡ [])
  pub done : IfSome m.log (λ log. HasSource log.spot.modes → marks ≡ entry.Mark (mark.Purged f) ∷ [])
  pub none : IfSome m.log (λ log. HasNoSource log.spot.modes → marks ≡ [])

-- a barrier ends with neither entry nor mark, and its command has the turn still
abbrev pub WholeEnds : WholeOp → List OwnCall → OwnCall → Mine → Mine → Type 0
WholeEnds (whole.Purge f) turn o m m2 = EndsPart f turn m m2
WholeEnds (whole.Barrier r) turn o m m2 = m2 ≡ with_running m turn
WholeEnds op turn o m m2 = EndsWhole o m m2

-- ---- a purge

-- what a purge does next is what goes next in the volume, where the journal is known
abbrev pub IsNext : NextPart → Log → Type 0
IsNext (next.Part f) log = next_of log.spot.state.volume.snapshots ≡ Some f
IsNext next.Nothing log = (next_of log.spot.state.volume.snapshots ≡ None) × HasSource log.spot.modes
IsNext next.NoReplica log = HasNoSource log.spot.modes
IsNext (next.After t) log = ⊥
