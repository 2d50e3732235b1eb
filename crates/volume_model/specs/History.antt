-- When a journal is one legal history, and in which order its calls stand.
use Rattle.std.specs.Prelude.{◌≡◌, ℕ, suc, ◌≤◌, ◌==◌, true, false, Option, None, Some, IfSome}
use Rattle.std.specs.Prelude.{List, [], ◌∷◌, length, map, Any, if◌then◌else◌}
use Rattle.volume_model.specs.declared.command.Command.{Command}
use Rattle.volume_model.specs.declared.command.Command.TheVariants as command
use Rattle.volume_model.specs.declared.call.Call.{Call}
use Rattle.volume_model.specs.declared.call.Call.TheVariants as call
use Rattle.volume_model.specs.declared.entry.Answer.{Answer}
use Rattle.volume_model.specs.declared.entry.Entry.{Entry}
use Rattle.volume_model.specs.declared.entry.Entry.TheVariants as entry
use Rattle.volume_model.specs.declared.mark.Mark.{Mark}
use Rattle.volume_model.specs.declared.mark.Mark.TheVariants as mark
use Rattle.volume_model.specs.declared.mode.Mode.{Mode}
use Rattle.volume_model.specs.PlainState.{PlainState}
use Rattle.volume_model.specs.Purge.{CanBeDone, IsPurged}
use Rattle.volume_model.specs.declared.call.Refusal.TheVariants.{NoReplica, BackupExists, BlockDiffers, TargetFault}
use Rattle.volume_model.specs.declared.call.Reply.{Reply}
use Rattle.volume_model.specs.declared.call.Reply.TheVariants as reply
use Rattle.volume_model.specs.declared.mode.Mode.TheVariants.{Err}
use Rattle.volume_model.specs.PlainStep.{plain_step, refusal_of}
use Rattle.volume_model.specs.Replay.{is_refusal, replay}
use Rattle.volume_model.specs.Standing.{StandFrom, EachStands}
use Rattle.volume_model.specs.Modes.{modes_after, mode_of, HasSource, HasNoSource, is_change, asks_replica, asks_store}
use Rattle.volume_model.specs.Faults.{FaultsShown}
use Rattle.volume_model.specs.declared.mark.Rebuild.{Rebuild}
use Rattle.volume_model.specs.declared.mark.Rebuild.TheVariants as rebuild
use Rattle.volume_model.specs.Rebuilds.{added_by, rebuild_of, EndsWith, MayFall, MayBegin, MayPromote, MayAbort, AreBehindFalls}

-- where a run stands: the plain state, and the mode of each replica
pub record Spot : Type 0 where
  pub state : PlainState
  pub modes : List Mode

-- what a reply is about: the volume, its replicas, of which there is none, or the store of backups
pub data Subject : Type 0 where
  OfVolume : Subject
  OfReplicas : Subject
  OfStore : Subject

abbrev pub subject_of : Reply → Subject
subject_of (reply.Refused NoReplica) = OfReplicas
subject_of (reply.Refused BackupExists) = OfStore
subject_of (reply.Refused BlockDiffers) = OfStore
subject_of (reply.Refused TargetFault) = OfStore
subject_of r = OfVolume

-- the call may be answered that there is no replica: nothing else stands against it, and there is none
pub record HasNoReplica (state : PlainState) (modes : List Mode) (c : Call) : Type 0 where
  pub asks : asks_replica c ≡ true
  pub refused : refusal_of modes state c ≡ None
  pub none : HasNoSource modes

-- the call may be answered what the store has against it: nothing else stands before that
pub record MayTellOfStore (state : PlainState) (modes : List Mode) (c : Call) : Type 0 where
  pub asks : asks_store c ≡ true
  pub refused : refusal_of modes state c ≡ None

-- A call is answered as the plain disk answers there, that there is no replica, or what the store of backups has against
-- it. A change was done only with a replica to read and write, and a purge only where nothing is left to fold or to drop.
-- One that was told to fail has failed.
pub record IsAnswered (state : PlainState) (modes : List Mode) (a : Answer) : Type 0 where
  pub reply : subject_of a.reply ≡ OfVolume → a.reply ≡ (plain_step modes state a.call).1
  pub none : subject_of a.reply ≡ OfReplicas → HasNoReplica state modes a.call
  pub store : subject_of a.reply ≡ OfStore → MayTellOfStore state modes a.call
  pub fails : (replica : ℕ) → a.call ≡ call.Command (command.Fail replica) → mode_of modes replica ≡ Err
  pub source : is_change a.call ≡ true → is_refusal a.reply ≡ false → HasSource modes
  pub purged : a.call ≡ call.Command command.Purge → is_refusal a.reply ≡ false
      → IsPurged state.volume.snapshots.tree state.volume.snapshots.on

-- How an add of r is answered. Where no rebuild was begun it is refused as the plain disk refuses it, or for want of a
-- replica. Else it ends with that rebuild: right behind its promotion, or telling the mark that ended it.
abbrev pub EndsAdd : Rebuild → List Entry → PlainState → List Mode → Answer → ℕ → Type 0
EndsAdd rebuild.Unasked before state modes a r = IsAnswered state modes a × (is_refusal a.reply ≡ true)
EndsAdd (rebuild.Open source) before state modes a r = ⊥
EndsAdd rebuild.Promoted before state modes a r = (a.reply ≡ reply.Done) × EndsWith before (mark.Promoted r)
EndsAdd (rebuild.Aborted place) before state modes a r = a.reply ≡ reply.Aborted place

-- an add is answered by its rebuild, and any other call by the volume
abbrev pub IsEnded : Option ℕ → List Entry → PlainState → List Mode → Answer → Type 0
IsEnded None before state modes a = IsAnswered state modes a
IsEnded (Some r) before state modes a = EndsAdd (rebuild_of r before) before state modes a r

-- the mark ends a rebuild
abbrev pub IsEndOfRebuild : Mark → Type 0
IsEndOfRebuild (mark.Aborted replica) = Unit {0}
IsEndOfRebuild m = ⊥

-- the next entry answers the call by which the replica failed
abbrev pub FailsNow : ℕ → List Entry → Type 0
FailsNow replica [] = ⊥
FailsNow replica (entry.Answer a ∷ es) = a.call ≡ call.Command (command.Fail replica)
FailsNow replica (entry.Mark m ∷ es) = ⊥

-- the next answer is of the call by which the replica failed, behind at most the end of a rebuild
abbrev pub FailsNext : ℕ → List Entry → Type 0
FailsNext replica [] = ⊥
FailsNext replica (entry.Answer a ∷ es) = a.call ≡ call.Command (command.Fail replica)
FailsNext replica (entry.Mark m ∷ es) = IsEndOfRebuild m × FailsNow replica es

-- What a mark tells could be done there, on a replica to read and write; a replica fails that had not.
abbrev pub CouldBe : List Entry → List Entry → PlainState → List Mode → Mark → Type 0
CouldBe before after state modes (mark.Purged part) =
    CanBeDone state.volume.snapshots.tree state.volume.snapshots.on part × HasSource modes
CouldBe before after state modes (mark.Fault stream replica count) = MayFall modes before after replica
CouldBe before after state modes (mark.Failed replica) = MayFall modes before after replica × FailsNext replica after
CouldBe before after state modes (mark.Added replica source name) = MayBegin modes state before replica source name
CouldBe before after state modes (mark.Promoted replica) = MayPromote before after replica
CouldBe before after state modes (mark.Aborted replica) = MayAbort before replica

-- an entry may stand between the entries before it and those after
abbrev pub MayStand : Spot → List Entry → Entry → List Entry → Type 0
MayStand opening before (entry.Answer a) after =
    IsEnded (added_by a.call) before (replay opening.state before) (modes_after opening.modes before) a
MayStand opening before (entry.Mark m) after =
    CouldBe before after (replay opening.state before) (modes_after opening.modes before) m

-- each of the entries may stand where it does, behind those before
abbrev pub LegalAfter : Spot → List Entry → List Entry → Type 0
LegalAfter opening = StandFrom (MayStand opening)

-- each entry of the journal may stand where it does
abbrev pub IsLegal : Spot → List Entry → Type 0
IsLegal opening = EachStands (MayStand opening)

-- the answers of a stream, each with its place in the journal, the first entry being at `place`
abbrev pub answers_from : ℕ → ℕ → List Entry → List (ℕ × Answer)
answers_from stream place [] = []
answers_from stream place (entry.Mark m ∷ es) = answers_from stream (suc place) es
answers_from stream place (entry.Answer a ∷ es) =
    if a.stream == stream then (place, a) ∷ answers_from stream (suc place) es else answers_from stream (suc place) es

-- the answers of a stream, each with its place
abbrev pub answers_of : ℕ → List Entry → List (ℕ × Answer)
answers_of stream journal = answers_from stream 0 journal

-- the calls of a stream, in the journal's order
abbrev pub calls_of : ℕ → List Entry → List Call
calls_of stream journal = map (λ p. p.1.call) (answers_of stream journal)

-- The indices go up by one. A call was taken up after the answer before it, and before its own.
abbrev pub InOrderFrom : ℕ → ℕ → List (ℕ × Answer) → Type 0
InOrderFrom index least [] = Unit {0}
InOrderFrom index least (p ∷ more) =
    (p.1.index ≡ index) × (least ≤ p.1.saw) × (p.1.saw ≤ p.0) × InOrderFrom (suc index) (suc p.0) more

-- each stream's calls have the indices 0, 1, 2, .., and none was answered before what its caller had seen
abbrev pub SeenInOrder : List Entry → Type 0
SeenInOrder journal = (stream : ℕ) → InOrderFrom 0 0 (answers_of stream journal)

-- the command behind a mark: of a part of a purge, and of the begin of a rebuild
abbrev pub command_behind : Mark → Option Command
command_behind (mark.Purged part) = Some command.Purge
command_behind (mark.Added replica source name) = Some (command.Add replica)
command_behind m = None

-- the entry answers that command, which was taken up at the place or before
abbrev pub EndsCommand : Command → ℕ → Entry → Type 0
EndsCommand c place (entry.Answer a) = (a.call ≡ call.Command c) × (a.saw ≤ place)
EndsCommand c place (entry.Mark m) = ⊥

-- a mark that has a command behind it stands between what that saw and its answer
abbrev pub StandsInCommand : List Entry → Entry → List Entry → Type 0
StandsInCommand before (entry.Answer a) after = Unit {0}
StandsInCommand before (entry.Mark m) after = IfSome (command_behind m) (λ c. Any (EndsCommand c (length before)) after)

-- so does each mark of the journal
abbrev pub StandInCommands : List Entry → Type 0
StandInCommands = EachStands StandsInCommand

-- The journal is one legal history of these streams' calls, each once and in order, over lines that counted these faults.
-- What aborted a rebuild was a fall, and what a command does is done while it is open.
pub record IsHistory (opening : Spot) (counted : ℕ → ℕ → ℕ) (calls : ℕ → List Call) (journal : List Entry) : Type 0 where
  pub legal : IsLegal opening journal
  pub fell : AreBehindFalls journal
  pub within : StandInCommands journal
  pub order : SeenInOrder journal
  pub each_once : (stream : ℕ) → calls_of stream journal ≡ calls stream
  pub faults : FaultsShown counted journal
