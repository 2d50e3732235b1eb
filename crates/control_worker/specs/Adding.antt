-- How an add goes, from its barrier to its answer.
use Rattle.std.specs.Prelude.{◌≡◌, ◌≢◌, ◌⊎◌, ℕ, ◌<◌, List, [], ◌∷◌, All, Option, None, Some, IfSome}
use Rattle.vol_units.specs.Name.{sys_name}
use Rattle.volume_model.specs.declared.entry.Entry.{Entry}
use Rattle.volume_model.specs.declared.entry.Entry.TheVariants as entry
use Rattle.volume_model.specs.declared.mark.Mark.TheVariants as mark
use Rattle.volume_model.specs.Modes.{source_of}
use Rattle.volume_model.specs.OneWorker.{refused_at}
use Rattle.stream_steps.specs.Mine.{Mine, OwnCall, Placed, with_entries}
use Rattle.stream_steps.specs.declared.add.Added.{Added}
use Rattle.stream_steps.specs.Add.{BeginsBy, Promotes, EndsAborted}
use Rattle.rebuild_worker.specs.declared.copy.Copied.{Copied}
use Rattle.rebuild_worker.specs.declared.copy.Copied.TheVariants as copied
use Rattle.control_worker.specs.OwnAnswers.{HasAnswers}
use Rattle.control_worker.specs.Purges.{AreFalls, MayComeBefore}
use Rattle.control_worker.specs.Whole.{RefusedWhole}

-- ---- while its rebuild goes on

-- The rebuild of the replica has begun: its mark came, then lines of the stream failed, and the add has the turn still.
-- Where the journal is known, nothing stood against it, and the mark is the one that one worker makes of it there.
pub record BeganRebuild (r : ℕ) (o : OwnCall) (m m2 : Mine) : Type 0 where
  pub source : ℕ
  pub name : List ℕ
  pub own : List Placed
  pub marks : List Entry
  pub falls : AreFalls m.stream marks
  pub is : m2 ≡ with_entries m own (entry.Mark (mark.Added r source name) ∷ marks) (o ∷ [])
  pub same : HasAnswers own marks
  pub free : IfSome m.log (λ log. refused_at log.spot o.call ≡ None)
  pub from : IfSome m.log (λ log. source_of log.spot.modes ≡ Some source)
  pub under : IfSome m.log (λ log. name ≡ sys_name log.spot.state.volume.snapshots.number)

-- the barrier starts, and with it the rebuild that began so; or the add is refused
abbrev pub StartsBy : Option Added → ℕ → List OwnCall → OwnCall → Mine → Mine → Type 0
StartsBy (Some added) r turn o m m2 = BeginsBy added r turn o m m2
StartsBy None r turn o m m2 = RefusedWhole o m m2

-- it is past its barrier, or refused
abbrev pub PassesTo : Option ℕ → ℕ → OwnCall → Mine → Mine → Type 0
PassesTo (Some source) r o m m2 = BeganRebuild r o m m2
PassesTo None r o m m2 = RefusedWhole o m m2

-- the source and the replica that is rebuilt are two of so many
abbrev pub IsSourceOf : ℕ → ℕ → Option ℕ → Type 0
IsSourceOf count r s = IfSome s (λ source. (source < count) × (r < count) × (source ≢ r))

-- ---- its end

-- how a copying ended: no page is left, or the mark that it was aborted stands there
abbrev pub EndsAs : Copied → ℕ → (ℕ → Type 0) → Type 0
EndsAs copied.All left aborted = left ≡ 0
EndsAs (copied.Ended place) left aborted = aborted place

-- it is promoted, or was aborted
abbrev pub EndsRebuild : ℕ → OwnCall → Mine → Mine → Type 0
EndsRebuild r o m m2 = Promotes r o m m2 ⊎ ((place : ℕ) × EndsAborted r place o m m2)

-- its rebuild began, and ended
pub record Rebuilds (r : ℕ) (o : OwnCall) (m m2 : Mine) : Type 0 where
  pub mid : Mine
  pub goes : BeganRebuild r o m mid
  pub ends : EndsRebuild r o mid m2

-- the add is answered: it is refused, or its rebuild began and ended
abbrev pub AddsTo : ℕ → OwnCall → Mine → Mine → Type 0
AddsTo r o m m2 = RefusedWhole o m m2 ⊎ Rebuilds r o m m2

-- memory ran out: marks came at most, and it has the turn still
pub record GoesAdding (o : OwnCall) (m m2 : Mine) : Type 0 where
  pub own : List Placed
  pub marks : List Entry
  pub come : All (MayComeBefore m.stream) marks
  pub is : m2 ≡ with_entries m own marks (o ∷ [])
  pub same : HasAnswers own marks
