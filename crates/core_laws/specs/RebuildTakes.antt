-- What each step of a rebuild past its barrier makes of a World.
use Rattle.std.specs.Prelude.{◌≡◌, ◌⊎◌, Bool}
use Rattle.vol_units.specs.declared.page_ref.PageRef.{PageRef}
use Rattle.sparse_image.specs.Image.{Table}
use Rattle.volume_core.specs.State.{State}
use Rattle.step_answers.specs.declared.answers.NotThis.{NotThis}
use Rattle.volume_rebuild.specs.Answers.{CopiesOut, IsNoPage, IsOutOfSource, CopiesIn, IsNotLeft, Promotes, AgainstPromote}
use Rattle.core_laws.specs.declared.rebuild_step.RebuildStep.{RebuildStep}
use Rattle.core_laws.specs.declared.rebuild_step.RebuildStep.TheVariants as step

-- the page went out of the source, and the World is as it was
pub record TakesOut (s : State) (page : PageRef) (s2 : State) : Type 0 where
  pub found : Bool
  pub old : Table
  pub new : Table
  pub out : CopiesOut s page found old new
  pub same : s2 ≡ s

-- what the source itself has of the page came into the target
pub record TakesIn (s : State) (page : PageRef) (s2 : State) : Type 0 where
  pub old : Table
  pub new : Table
  pub out : IsOutOfSource s page old
  pub into : CopiesIn s page old new s2

-- the step could be taken, and makes that of the World
abbrev pub TakesRebuild : RebuildStep → State → State → Type 0
TakesRebuild (step.CopyOut page) s s2 = TakesOut s page s2
TakesRebuild (step.CopyIn page) s s2 = TakesIn s page s2
TakesRebuild (step.Promote t) s s2 = Promotes s t s2

-- something stands against the step: its condition or its guard fails
abbrev pub IsAgainstRebuild : RebuildStep → State → Type 0
IsAgainstRebuild (step.CopyOut page) s = IsNoPage s page
IsAgainstRebuild (step.CopyIn page) s = IsNotLeft s page
IsAgainstRebuild (step.Promote t) s = (why : NotThis) × AgainstPromote s t why

-- the step is taken, or something stands against it, and it is skipped
abbrev pub MakesRebuild : RebuildStep → State → State → Type 0
MakesRebuild x s s2 = TakesRebuild x s s2 ⊎ (IsAgainstRebuild x s × (s2 ≡ s))
