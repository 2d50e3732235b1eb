-- A purge, part after part.
use Rattle.std.specs.Prelude.{◌≡◌, ◌≢◌, ◌⊎◌, ℕ, Bool, true, false, List, [], ◌∷◌, ◌++◌, All, None, Some, IfSome}
use Rattle.volume_model.specs.declared.call.Refusal.TheVariants.{NoReplica}
use Rattle.volume_model.specs.declared.call.Reply.{Reply}
use Rattle.volume_model.specs.declared.call.Reply.TheVariants as reply
use Rattle.volume_model.specs.declared.entry.Answer.{Answer}
use Rattle.volume_model.specs.declared.entry.Entry.{Entry}
use Rattle.volume_model.specs.declared.entry.Entry.TheVariants as entry
use Rattle.volume_model.specs.declared.mark.FoldOrDrop.{FoldOrDrop}
use Rattle.volume_model.specs.declared.mode.Mode.{Mode}
use Rattle.volume_model.specs.declared.mode.Mode.TheVariants.{Rw}
use Rattle.volume_model.specs.History.{Spot}
use Rattle.volume_model.specs.Marks.{marks_of}
use Rattle.volume_model.specs.Modes.{HasSource, HasNoSource}
use Rattle.volume_model.specs.OneWorker.{behind_entries}
use Rattle.volume_model.specs.Purge.{next_of, parts_of}
use Rattle.stream_steps.specs.Mine.{Mine, OwnCall, Placed, with_entries}
use Rattle.stream_steps.specs.Seen.{Seen, HasNoFold}
use Rattle.stream_steps.specs.Steps.{IsNoFault, AreMarks}
use Rattle.client_worker.specs.Serving.{IsFaultMark}
use Rattle.control_worker.specs.OwnAnswers.{HasAnswers}

-- a fault of the stream's own lines, or a mark that is no fault
abbrev pub MayComeBefore : ℕ → Entry → Type 0
MayComeBefore stream (entry.Answer a) = ⊥
MayComeBefore stream (entry.Mark m) = IsFaultMark stream m ⊎ IsNoFault m

-- Faults of the stream's own lines, and behind each the mark of a rebuild that was aborted thereby, if one was: where no
-- line failed there are none.
pub record AreFalls (stream : ℕ) (marks : List Entry) : Type 0 where
  pub come : All (MayComeBefore stream) marks
  pub none : AreMarks marks → marks ≡ []

-- The entries are the marks of the first parts that go, and those that go from then on are the others. Where no replica
-- is read and written they are none.
pub record PurgesFar (spot : Spot) (es : List Entry) : Type 0 where
  pub parts : List FoldOrDrop
  pub are : es ≡ marks_of parts
  pub left : parts_of spot.state.volume.snapshots ≡ parts ++ parts_of (behind_entries spot es).state.volume.snapshots
  pub none : HasNoSource spot.modes → parts ≡ []

-- how a purge is answered there: nothing is left to go, or there is no replica
abbrev pub IsPurgeReply : Spot → Reply → Type 0
IsPurgeReply spot reply.Done = (next_of spot.state.volume.snapshots ≡ None) × HasSource spot.modes
IsPurgeReply spot (reply.Refused why) = (why ≡ NoReplica) × HasNoSource spot.modes
IsPurgeReply spot r = ⊥

-- marks came, and these calls are open; where no line failed, they are those of the first parts that go
pub record PurgesOn (os : List OwnCall) (m m2 : Mine) : Type 0 where
  pub own : List Placed
  pub marks : List Entry
  pub is : m2 ≡ with_entries m own marks os
  pub same : HasAnswers own marks
  pub are : All (MayComeBefore m.stream) marks
  pub far : IfSome m.log (λ l. AreMarks marks → PurgesFar l.spot marks)

-- Marks came, and then the purge was answered; where no line failed, the answer came at once.
pub record PurgeEnds (o : OwnCall) (m m2 : Mine) : Type 0 where
  pub own : List Placed
  pub marks : List Entry
  pub answer : Answer
  pub is : m2 ≡ with_entries m own (marks ++ entry.Answer answer ∷ []) []
  pub same : HasAnswers own (marks ++ entry.Answer answer ∷ [])
  pub are : All (MayComeBefore m.stream) marks
  pub call : answer.call ≡ o.call
  pub by : answer.stream ≡ m.stream
  pub saw : answer.saw ≡ o.saw
  pub right : IfSome m.log (λ l. AreMarks marks → (marks ≡ []) × IsPurgeReply l.spot answer.reply)

-- As it was seen in a step, a replica has nothing to fold of a page of the layer: it wants none, it is not read, or there
-- is nothing to fold in the volume.
abbrev pub IsFolded : Type 0 → Mode → List ℕ → ℕ → Seen → Type 0
IsFolded wants mode parent page seen = (¬ wants) ⊎ ((mode ≢ Rw) ⊎ HasNoFold parent page seen.log.spot.state.volume)

-- where the journal is known, the part goes next
abbrev pub GoesNext : FoldOrDrop → Mine → Type 0
GoesNext f m = IfSome m.log (λ l. next_of l.spot.state.volume.snapshots ≡ Some f)

-- a round of a purge answers it, or it goes on
abbrev pub RoundTo : OwnCall → Bool → Mine → Mine → Type 0
RoundTo o true m m2 = PurgeEnds o m m2
RoundTo o false m m2 = PurgesOn (o ∷ []) m m2

-- round after round, until it is answered
pub record PurgesWhole (o : OwnCall) (m m2 : Mine) : Type 0 where
  pub mid : Mine
  pub on : PurgesOn (o ∷ []) m mid
  pub ends : PurgeEnds o mid m2
