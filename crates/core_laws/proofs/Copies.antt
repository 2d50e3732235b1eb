-- A page comes into the target, or something stands against it and nothing has changed.
use Rattle.std.proofs.Common.{◌≡◌, refl, Result, Ok, Err as Failed, OnOk, OnErr, IfErr, inl, inr}
use Rattle.vol_units.specs.declared.page_ref.PageRef.{PageRef}
use Rattle.sparse_image.specs.Image.{Table}
use Rattle.volume_core.specs.State.{State}
use Rattle.step_answers.specs.declared.answers.NotThis.{NotThis}
use Rattle.step_answers.specs.declared.answers.NotThis.TheVariants as against
use Rattle.volume_rebuild.specs.Answers.{IsNoPage, IsOutOfSource, CopiesIn, IsNotLeft}
use Rattle.core_laws.specs.declared.rebuild_step.RebuildStep.TheVariants as step
use Rattle.core_laws.specs.RebuildTakes.{MakesRebuild}

module _ (s : State) (page : PageRef) where
  -- a page that is not copied is not left to copy
  pub none_made : IsNoPage s page → MakesRebuild (step.CopyIn page) s s
  none_made none = inr (left, refl)
    where
      left : IsNotLeft s page
      left b to = none b (record { begun = to.begun; frozen = to.left.frozen })

  pub in_made : {A : Type 0} (res : Result A NotThis) (s2 : State) (old new : Table) → IsOutOfSource s page old
      → OnOk res (CopiesIn s page old new s2) → OnErr res (s2 ≡ s) → IfErr res (λ why. (why ≡ against.Page) × IsNotLeft s page)
      → MakesRebuild (step.CopyIn page) s s2
  in_made (Ok a) s2 old new out into stays why = inl (record { old = old; new = new; out = out; into = into })
  in_made (Failed e) s2 old new out into stays why = inr (why.1, stays)
