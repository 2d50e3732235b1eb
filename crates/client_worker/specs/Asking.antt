-- What a carry makes of the lines, and what the line to a replica tells while it is asked for its part of the open call.
use Rattle.std.specs.Prelude.{◌≡◌, ◌≢◌, ℕ, ◌<◌, ◌≤◌, ◌⊎◌, Bool, true, false, List, [], ◌∷◌, ◌++◌, length, All, Option, IfSome}
use Rattle.std.specs.Prelude.{slice_index_or}
use Rattle.volume_model.specs.declared.mode.Mode.{Mode}
use Rattle.volume_model.specs.declared.mode.Mode.TheVariants.{Rw, Err}
use Rattle.volume_model.specs.Modes.{mode_of}
use Rattle.step_answers.specs.declared.parts.Part.{Part}
use Rattle.step_answers.specs.declared.parts.Part.TheVariants.{Owed, Acked}
use Rattle.step_answers.specs.Parts.{part_at, IsTaken}
use Rattle.frame_wire.specs.Spelling.{IsFrame}
use Rattle.outer_traits.specs.Lines.{TellsMore}
use Rattle.stream_steps.specs.Mine.{Mine, OwnCall}
use Rattle.stream_steps.specs.Seen.{IsNextUp}
use Rattle.client_worker.specs.Exchanges.{told_in, HasPart}
use Rattle.client_worker.specs.declared.opened.AfterPart.{AfterPart}
use Rattle.client_worker.specs.declared.opened.AfterPart.TheVariants as after
use Rattle.client_worker.specs.Serving.{KeepsOpen}
use Rattle.client_worker.specs.Ends.{EndsOpen}

-- ---- a carry

-- a whole frame, which has a place to arrive
pub record Arrives (frame : List ℕ) (place : ℕ) : Type 0 where
  pub whole : IsFrame frame
  pub room : length frame ≤ place

-- no line's count is lower, and where the frame did not come through, that of the line to the replica is higher
pub record CountsOn (r : ℕ) (came : Bool) (before now : List ℕ) : Type 0 where
  pub later : (k : ℕ) → slice_index_or before k 0 ≤ slice_index_or now k 0
  pub failed : came ≡ false → slice_index_or before r 0 < slice_index_or now r 0

-- a line tells what it told before, and maybe whole frames behind it
abbrev pub TellsOn : Option (List (List ℕ)) → Option (List (List ℕ)) → Type 0
TellsOn before now = (more : List (List ℕ)) × TellsMore before now more × All IsFrame more

-- so does each line
abbrev pub TellOn : List (Option (List (List ℕ))) → List (Option (List (List ℕ))) → Type 0
TellOn before now = (r : ℕ) → TellsOn (told_in before r) (told_in now r)

-- the line to a replica tells one frame more
abbrev pub TellsFrame : List (Option (List (List ℕ))) → List (Option (List (List ℕ))) → ℕ → List ℕ → Type 0
TellsFrame before now r frame = TellsMore (told_in before r) (told_in now r) (frame ∷ [])

-- no line but that to the replica tells more, which tells the frame, where it came through
pub record TellsOf (r : ℕ) (frame : List ℕ) (came : Bool) (before now : List (Option (List (List ℕ)))) : Type 0 where
  pub on : TellOn before now
  pub carried : came ≡ true → TellsFrame before now r frame
  pub others : (q : ℕ) → q ≢ r → told_in now q ≡ told_in before q

-- ---- the open call

-- with this reply more, the line has carried the replica's part of the open call
abbrev pub LacksReply : OwnCall → Option (List (List ℕ)) → List ℕ → Type 0
LacksReply o told reply = IfSome told (λ frames. HasPart o.call o.buffer (frames ++ reply ∷ []))

-- the replica is the first that owes its part
pub record IsFirstOwed (parts : List Part) (r : ℕ) : Type 0 where
  pub owes : part_at parts r ≡ Owed
  pub first : (q : ℕ) → q < r → part_at parts q ≢ Owed

-- the replica had its step of the open call, if it has a part in it
abbrev pub HasTaken : OwnCall → ℕ → Type 0
HasTaken o r = r < length o.parts → IsTaken (part_at o.parts r)

-- and has acknowledged it
abbrev pub HasAcked : OwnCall → ℕ → Type 0
HasAcked o r = r < length o.parts → part_at o.parts r ≡ Acked

-- the replica has acknowledged the open call, or was seen last as one that has failed
abbrev pub AckedOrFailed : List Mode → ℕ → Mine → Type 0
AckedOrFailed modes r m = (o : OwnCall) → m.running ≡ o ∷ [] → HasAcked o r ⊎ (mode_of modes r ≡ Err)

-- the same, or as one that is not read
abbrev pub AckedOrUnread : List Mode → ℕ → Mine → Type 0
AckedOrUnread modes r m = (o : OwnCall) → m.running ≡ o ∷ [] → HasAcked o r ⊎ (mode_of modes r ≢ Rw)

-- the replica has failed, and the open call goes on; which is next
pub record Falls (modes : List Mode) (r : ℕ) (m m2 : Mine) (next : Option ℕ) : Type 0 where
  pub goes : KeepsOpen m m2
  pub failed : mode_of modes r ≡ Err
  pub up : IsNextUp modes r next
  pub inside : IfSome next (λ q. q < m.replicas)

-- the replica has acknowledged or has failed, and the open call goes on; which is next
pub record GoesToNext (modes : List Mode) (r : ℕ) (m m2 : Mine) (next : Option ℕ) : Type 0 where
  pub goes : KeepsOpen m m2
  pub asked : AckedOrFailed modes r m2
  pub up : IsNextUp modes r next
  pub inside : IfSome next (λ q. q < m.replicas)

-- the replica was asked: the open call is answered, or it goes on
abbrev pub WasAsked : List Mode → ℕ → Mine → Mine → AfterPart → Type 0
WasAsked modes r m m2 after.Answered = EndsOpen m m2
WasAsked modes r m m2 (after.GoesOn next) = GoesToNext modes r m m2 next
