-- How an open call starts and ends.
use Rattle.std.specs.Prelude.{◌≡◌, ◌≢◌, ℕ, List, [], ◌∷◌, ◌++◌, All, Option, None, Some, IfSome}
use Rattle.volume_model.specs.declared.call.Reply.TheVariants as reply
use Rattle.volume_model.specs.declared.entry.Answer.{Answer}
use Rattle.volume_model.specs.History.{Spot}
use Rattle.volume_model.specs.Modes.{HasSource}
use Rattle.step_answers.specs.declared.parts.Part.TheVariants.{Acked}
use Rattle.step_answers.specs.Parts.{part_at}
use Rattle.step_answers.specs.declared.answers.Job.{Job}
use Rattle.stream_steps.specs.declared.with_source.WithSource.{WithSource}
use Rattle.stream_steps.specs.Mine.{Mine, OwnCall, Placed, entries_in, with_more, with_running, answer_placed}
use Rattle.stream_steps.specs.Steps.{StartsCall, Refuses}
use Rattle.client_worker.specs.Serving.{IsOwnFault, IsShown}

-- what lines show of the first is shown of the second
abbrev pub KeepsShown : Mine → Mine → Type 0
KeepsShown m m2 = (counts : List ℕ) (carried : List (Option (List (List ℕ)))) → IsShown m counts carried
    → IsShown m2 counts carried

-- no replica has acknowledged the open call
abbrev pub NoneAcked : Mine → Type 0
NoneAcked m = (o : OwnCall) → m.running ≡ o ∷ [] → (r : ℕ) → part_at o.parts r ≢ Acked

-- ---- the start

-- the call has started, as that one, while a replica is read and written
pub record BeginsAs (o own : OwnCall) (m m2 : Mine) : Type 0 where
  pub is : m2 ≡ with_running m (own ∷ [])
  pub number : own.number ≡ o.number
  pub call : own.call ≡ o.call
  pub saw : own.saw ≡ o.saw
  pub source : IfSome m.log (λ log. HasSource log.spot.modes)

-- it starts, or there is no replica
abbrev pub StartsOr : OwnCall → Option (WithSource Job) → Mine → Mine → Type 0
StartsOr o None m m2 = Refuses o m m2
StartsOr o (Some start) m m2 = StartsCall o start.answer m m2

-- ---- the end

-- the stream's open call is answered, behind faults of its lines, and none is open
pub record EndsTo (o : OwnCall) (m m2 : Mine) : Type 0 where
  pub marks : List Placed
  pub spot : Spot
  pub answer : Answer
  pub is : m2 ≡ with_more m (marks ++ answer_placed spot answer ∷ []) []
  pub faults : All (IsOwnFault m.stream) (entries_in marks)
  pub call : answer.call ≡ o.call
  pub by : answer.stream ≡ m.stream
  pub saw : answer.saw ≡ o.saw

-- so it is with the open call that there is
abbrev pub EndsOpen : Mine → Mine → Type 0
EndsOpen m m2 = (o : OwnCall) → m.running ≡ o ∷ [] → EndsTo o m m2

-- the same of one that waits: it is answered with bytes only where a replica was read
pub record TakesUp (o : OwnCall) (m m2 : Mine) : Type 0 where
  pub ends : EndsTo o m m2
  pub source : (bytes : List ℕ) → ends.answer.reply ≡ reply.Read bytes → IfSome m.log (λ log. HasSource log.spot.modes)
