-- What the last step of a stream saw of the volume, in its own turn: whose answer has its cause there.
use Rattle.std.specs.Prelude.{◌≡◌, ◌≢◌, ◌⊎◌, ℕ, ◌*◌, ◌≤◌, length, ◌<◌, List, Option, Some, None, IfSome, MatchOption}
use Rattle.volume_model.specs.declared.call.Call.{Call}
use Rattle.volume_model.specs.declared.call.Refusal.TheVariants.{NoReplica}
use Rattle.volume_model.specs.declared.call.Reply.{Reply}
use Rattle.volume_model.specs.declared.call.Reply.TheVariants as reply
use Rattle.volume_model.specs.declared.mark.FoldOrDrop.{FoldOrDrop}
use Rattle.volume_model.specs.declared.mode.Mode.{Mode}
use Rattle.volume_model.specs.declared.mode.Mode.TheVariants.{Rw, Err}
use Rattle.volume_model.specs.Modes.{mode_of, HasSource, HasNoSource, IsSource}
use Rattle.volume_model.specs.PlainState.{Volume}
use Rattle.volume_model.specs.Purge.{CanFold}
use Rattle.vol_units.specs.declared.size.TheConstants.{PAGE_BYTES}
use Rattle.range_turns.specs.declared.ticket.Ticket.{Ticket}
use Rattle.range_turns.specs.declared.turns.MayStart.{MayStart}
use Rattle.range_turns.specs.declared.turns.MayStart.TheVariants as may
use Rattle.range_turns.specs.Order.{ticket_at, StandsAt, IsFirstInWay}
use Rattle.step_answers.specs.declared.answers.Admit.{Admit}
use Rattle.step_answers.specs.declared.answers.Admit.TheVariants as admit
use Rattle.step_answers.specs.declared.answers.AdmitWhole.{AdmitWhole}
use Rattle.step_answers.specs.declared.answers.AdmitWhole.TheVariants as whole_admit
use Rattle.step_answers.specs.declared.answers.NextPart.{NextPart}
use Rattle.step_answers.specs.declared.answers.NextPart.TheVariants as next
use Rattle.step_answers.specs.declared.answers.NotThis.{NotThis}
use Rattle.step_answers.specs.declared.answers.NotThis.TheVariants as against
use Rattle.step_answers.specs.declared.whole_op.WholeOp.{WholeOp}
use Rattle.step_answers.specs.declared.whole_op.WholeOp.TheVariants as whole
use Rattle.step_answers.specs.Parts.{part_at, part_for}
use Rattle.stream_steps.specs.Mine.{Mine, Log, ForOwn}
use Rattle.stream_steps.specs.Steps.{IsMerged}
use Rattle.stream_steps.specs.Maint.{IsNext}

-- The journal, and where the run stands behind it; the tickets of the open calls, and of the commands that have the
-- maintenance turn or wait for it, in the order of enrolment; and the ticket of the operation on the whole volume that has
-- started, if one has.
pub record Seen : Type 0 where
  pub log : Log
  pub tickets : List Ticket
  pub commands : List Ticket
  pub whole : Option ℕ

-- ---- waits

-- the ticket waits for that one, the first in its way of those before it
abbrev pub WaitsFor : List Ticket → ℕ → ℕ → Type 0
WaitsFor tickets t other = (i j : ℕ) × StandsAt tickets t i × IsFirstInWay tickets i j
    × ((ticket_at tickets j).number ≡ other)

-- a call that is told to wait waits for that one
abbrev pub WaitsAs : ℕ → Admit → Seen → Type 0
WaitsAs t (admit.After other) s = WaitsFor s.tickets t other
WaitsAs t a s = Unit {0}

-- so does an operation on the whole volume
abbrev pub WaitsWhole : ℕ → AdmitWhole → Seen → Type 0
WaitsWhole t (whole_admit.After other) s = WaitsFor s.tickets t other
WaitsWhole t a s = Unit {0}

-- a command that is told to wait waits for the first, behind which it stands
abbrev pub WaitsTurn : ℕ → MayStart → Seen → Type 0
WaitsTurn t may.Yes s = Unit {0}
WaitsTurn t (may.After other) s =
    (k : ℕ) × StandsAt s.commands t k × (0 < k) × ((ticket_at s.commands 0).number ≡ other)

-- ---- replicas, one after another

-- the first replica behind r that has not failed, if there is one
abbrev pub IsNextUp : List Mode → ℕ → Option ℕ → Type 0
IsNextUp modes r None = (k : ℕ) → r < k → mode_of modes k ≡ Err
IsNextUp modes r (Some q) = (r < q) × (mode_of modes q ≢ Err) × ((k : ℕ) → r < k → k < q → mode_of modes k ≡ Err)

-- that replica is next, and it is one of so many
pub record TellsNext (modes : List Mode) (r replicas : ℕ) (q : Option ℕ) : Type 0 where
  pub next : IsNextUp modes r q
  pub inside : IfSome q (λ k. k < replicas)

-- the lowest that is read and written is that one, if there is one, and it is one of so many
pub record TellsSource (modes : List Mode) (replicas : ℕ) (q : Option ℕ) : Type 0 where
  pub is : MatchOption q (HasNoSource modes) (IsSource modes)
  pub inside : IfSome q (λ k. k < replicas)

-- ---- what a started call carries

-- it asks each replica that has not failed
abbrev pub AsksAll : Admit → List Mode → Type 0
AsksAll (admit.Go job) modes = (r : ℕ) → part_at job.parts r ≡ part_for (mode_of modes r)
AsksAll a modes = Unit {0}

-- of a write it carries the volume's bytes, as they were seen, with the write's own put in
abbrev pub CarriesVolume : Call → Admit → Seen → Type 0
CarriesVolume c (admit.Go job) s = IsMerged s.log.spot.state.volume.disk c job
CarriesVolume c a s = Unit {0}

-- so the job of the call that is open under that ticket is, if it starts
pub record IsJobOf (t : ℕ) (a : Admit) (m : Mine) (modes : List Mode) (s : Seen) : Type 0 where
  pub asks : AsksAll a modes
  pub bytes : ForOwn t m (λ o. CarriesVolume o.call a s)

-- ---- a purge

-- What a purge does next. While an operation on the whole volume has started, no part of it can go, and it waits for that.
abbrev pub FindsNext : NextPart → Seen → Type 0
FindsNext (next.Part f) s = (s.whole ≡ None) × IsNext (next.Part f) s.log
FindsNext next.Nothing s = (s.whole ≡ None) × IsNext next.Nothing s.log
FindsNext next.NoReplica s = IsNext next.NoReplica s.log
FindsNext (next.After t) s = s.whole ≡ Some t

-- a purge may be answered so: nothing is left to go, or there is no replica
abbrev pub MayEndPurge : Reply → Log → Type 0
MayEndPurge reply.Done log = IsNext next.Nothing log
MayEndPurge (reply.Refused why) log = (why ≡ NoReplica) × IsNext next.NoReplica log
MayEndPurge r log = ⊥

-- it is not answered so: it may not be, or it would be done and an operation on the whole volume has started
abbrev pub RefusesEndPurge : Reply → Seen → Type 0
RefusesEndPurge r s = MayEndPurge r s.log → (r ≡ reply.Done) × (s.whole ≢ None)

-- a part of a purge cannot go, though a replica is read: it is none that can be done once each of those has folded it
abbrev pub CannotGo : WholeOp → (FoldOrDrop → Type 0) → List Mode → Type 0
CannotGo (whole.Purge f) may_go modes = HasSource modes → may_go f → ⊥
CannotGo op may_go modes = ⊥

-- the volume has no such page, or the layer can be folded into none
abbrev pub HasNoFold : List ℕ → ℕ → Volume → Type 0
HasNoFold p page v = (length v.disk ≤ page * PAGE_BYTES) ⊎ ((c : List ℕ) → ¬ CanFold v.snapshots.tree v.snapshots.on p c)

-- a replica does not fold the page: it is not read, or there is nothing to fold in the volume
abbrev pub RefusesFold : ℕ → List ℕ → ℕ → List Mode → Log → NotThis → Type 0
RefusesFold r p page modes log (against.Mode m) = (m ≡ mode_of modes r) × (m ≢ Rw)
RefusesFold r p page modes log against.Page = HasNoFold p page log.spot.state.volume
RefusesFold r p page modes log why = ⊥
