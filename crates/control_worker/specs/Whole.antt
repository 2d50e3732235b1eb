-- What is done to the whole volume, while a replica after another takes its part.
use Rattle.std.specs.Prelude.{◌≡◌, ◌≢◌, ℕ, true, false, List, [], ◌∷◌, ◌++◌, Bool, Option, Some, IfSome}
use Rattle.volume_model.specs.declared.call.Call.{Call}
use Rattle.volume_model.specs.declared.call.Refusal.{Refusal}
use Rattle.volume_model.specs.declared.call.Reply.{Reply}
use Rattle.volume_model.specs.declared.call.Reply.TheVariants as reply
use Rattle.volume_model.specs.OneWorker.{refused_at, reply_for}
use Rattle.step_answers.specs.declared.parts.Part.{Part}
use Rattle.step_answers.specs.declared.parts.Part.TheVariants.{Owed, Taken, Acked}
use Rattle.step_answers.specs.declared.whole_op.WholeOp.{WholeOp}
use Rattle.step_answers.specs.declared.whole_op.WholeOp.TheVariants as whole
use Rattle.step_answers.specs.Parts.{part_at}
use Rattle.volume_model.specs.History.{Spot}
use Rattle.volume_model.specs.declared.entry.Answer.{Answer}
use Rattle.volume_model.specs.declared.entry.Entry.{Entry}
use Rattle.volume_model.specs.declared.entry.Entry.TheVariants as entry
use Rattle.stream_steps.specs.Mine.{Mine, OwnCall, Placed, with_entries, with_running, answer_placed}
use Rattle.stream_steps.specs.Steps.{AreMarks}
use Rattle.stream_steps.specs.Maint.{HasWhole, StartsAs, AnswersWhole, WholeEnds}
use Rattle.client_worker.specs.Exchanges.{told_in}
use Rattle.control_worker.specs.Frames.{part_request, IsPartText, HasPartAsked}
use Rattle.control_worker.specs.OwnAnswers.{HasAnswers}
use Rattle.control_worker.specs.Purges.{AreFalls}

-- ---- while it is open

-- lines of the stream failed, and these calls are open now
pub record Goes (os : List OwnCall) (m m2 : Mine) : Type 0 where
  pub own : List Placed
  pub marks : List Entry
  pub falls : AreFalls m.stream marks
  pub same : HasAnswers own marks
  pub is : m2 ≡ with_entries m own marks os

-- the same calls are open still
abbrev pub GoesOn : Mine → Mine → Type 0
GoesOn m m2 = Goes m.running m m2

-- a replica that owes its part now owed it before
abbrev pub OwesNoMore : List Part → List Part → Type 0
OwesNoMore before now = (r : ℕ) → part_at now r ≡ Owed → part_at before r ≡ Owed

-- the operation is open still; its replicas may be further
abbrev pub StaysWhole : List OwnCall → OwnCall → Mine → Mine → Type 0
StaysWhole turn o m m2 =
    (parts : List Part) × OwesNoMore o.parts parts × Goes (turn ++ record o { parts = parts } ∷ []) m m2

-- the same of the operation that there is under that ticket
abbrev pub KeepsWhole : ℕ → Mine → Mine → Type 0
KeepsWhole t m m2 =
    (op : WholeOp) (turn : List OwnCall) (o : OwnCall) → HasWhole t op turn o m → StaysWhole turn o m m2

-- it waits for its start, or has started
abbrev pub IsWhole : Bool → ℕ → WholeOp → Mine → Type 0
IsWhole started t op m = (turn : List OwnCall) × (o : OwnCall) × HasWhole t op turn o m × (o.started ≡ started)

-- the replica does not owe its part of it
abbrev pub OwesNone : ℕ → WholeOp → ℕ → Mine → Type 0
OwesNone t op r m = (turn : List OwnCall) (o : OwnCall) → HasWhole t op turn o m → part_at o.parts r ≢ Owed

-- nor has it taken it without acknowledging it
abbrev pub AwaitsNone : ℕ → WholeOp → ℕ → Mine → Type 0
AwaitsNone t op r m = (turn : List OwnCall) (o : OwnCall) → HasWhole t op turn o m → part_at o.parts r ≢ Taken

-- ---- what lines show of it

-- each replica that has acknowledged its part was asked for it on its line, and has replied there
abbrev pub AreAsked : (ℕ → Option (List (List ℕ))) → WholeOp → OwnCall → Type 0
AreAsked told op o = (r : ℕ) → part_at o.parts r ≡ Acked → IfSome (told r) (HasPartAsked op)

-- the line has carried the request for the part last, by that number
abbrev pub IsAskedLast : ℕ → WholeOp → Option (List (List ℕ)) → Type 0
IsAskedLast seq op told =
    IfSome told (λ frames. (before : List (List ℕ)) × (text : List ℕ) × IsPartText op text
    × (frames ≡ before ++ part_request seq text ∷ []))

-- The operation has started, and where the lines tell what they carried, each replica that has acknowledged its part was
-- asked for it.
pub record PartsShown (t : ℕ) (op : WholeOp) (m : Mine) (carried : List (Option (List (List ℕ)))) : Type 0 where
  pub started : IsWhole true t op m
  pub acked : (turn : List OwnCall) (o : OwnCall) → HasWhole t op turn o m → AreAsked (told_in carried) op o

-- a rebuild of the replica that was begun is past its barrier
abbrev pub PassesBarrier : {C : Type 0} → (C → Bool → ℕ → ℕ → Type 0) → ℕ → C → C → Type 0
PassesBarrier begun r c c2 = (source : ℕ) → begun c false source r → begun c2 true source r

-- ---- its start and its end

-- it is refused: its call is answered so
pub record RefusedWhole (o : OwnCall) (m m2 : Mine) : Type 0 where
  pub why : Refusal
  pub answers : AnswersWhole o (reply.Refused why) m m2
  pub right : IfSome m.log (λ log. refused_at log.spot o.call ≡ Some why)

-- it starts, or is refused
abbrev pub StartsOr : Bool → WholeOp → List OwnCall → OwnCall → Mine → Mine → Type 0
StartsOr true op turn o m m2 = StartsAs op turn o m m2
StartsOr false op turn o m m2 = RefusedWhole o m m2

-- lines of the stream failed, and then it ended
pub record EndsBehind (op : WholeOp) (turn : List OwnCall) (o : OwnCall) (m m2 : Mine) : Type 0 where
  pub parts : List Part
  pub mid : Mine
  pub goes : Goes (turn ++ record o { parts = parts } ∷ []) m mid
  pub ends : WholeEnds op turn (record o { parts = parts }) mid m2

-- ---- the answer

-- what one worker answers the call there
abbrev pub reply_at : Spot → Call → Reply
reply_at spot c = reply_for (refused_at spot c) spot c

-- lines of the stream failed, and then its open call was answered
pub record EndsCall (o : OwnCall) (m m2 : Mine) : Type 0 where
  pub own : List Placed
  pub marks : List Entry
  pub falls : AreFalls m.stream marks
  pub same : HasAnswers own marks
  pub spot : Spot
  pub answer : Answer
  pub is : m2 ≡ with_entries m (own ++ answer_placed spot answer ∷ []) (marks ++ entry.Answer answer ∷ []) []
  pub call : answer.call ≡ o.call
  pub by : answer.stream ≡ m.stream
  pub saw : answer.saw ≡ o.saw

-- the same; where no line failed, it is answered as one worker answers it there
pub record AnswersCall (o : OwnCall) (m m2 : Mine) : Type 0 where
  pub ends : EndsCall o m m2
  pub right : IfSome m.log (λ l. AreMarks ends.marks → ends.answer.reply ≡ reply_at l.spot o.call)

-- ---- under the maintenance turn

-- no part of a purge or of an add: it ends with the answer of its call
abbrev pub IsNoPart : WholeOp → Type 0
IsNoPart (whole.Purge f) = ⊥
IsNoPart (whole.Barrier r) = ⊥
IsNoPart op = Unit {0}

-- the command has the turn now
abbrev pub TurnBegins : OwnCall → Mine → Mine → Type 0
TurnBegins o m m2 = m2 ≡ with_running m (record o { started = true } ∷ [])
