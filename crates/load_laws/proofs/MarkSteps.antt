-- How far the control stream is behind a mark, and what a mark asks where it is so far.
use Rattle.std.proofs.Common.{◌≡◌, ℕ, List, [], ◌∷◌, ◌++◌, length}
use Rattle.std.proofs.Common.{sym, ap, subst, ◌∙◌, inr}
use Rattle.std.proofs.lemmas.List.{same_from_push}
use Rattle.volume_model.specs.declared.entry.Entry.{Entry}
use Rattle.volume_model.specs.declared.entry.Entry.TheVariants as entry
use Rattle.volume_model.specs.declared.mark.Mark.{Mark}
use Rattle.volume_model.specs.PlainState.{Copy}
use Rattle.volume_model.specs.Marks.{after_mark}
use Rattle.volume_model.specs.Modes.{modes_after, modes_after_mark}
use Rattle.volume_model.specs.Replay.{replay}
use Rattle.volume_model.specs.Rebuilds.{rebuild_after_mark, Fells}
use Rattle.volume_model.specs.History.{CouldBe}
use Rattle.volume_model.proofs.PushLemmas.{modes_after-push}
use Rattle.volume_model.proofs.RebuildLemmas.{rebuild_of-push}
use Rattle.volume_model.proofs.StepLemmas.{replay-push}
use Rattle.load_laws.specs.Load.{fresh}
use Rattle.load_laws.proofs.Phases.{Phase}
use Rattle.load_laws.proofs.Phases.{calls_left, state_in, modes_in}
use Rattle.load_laws.proofs.Phases.{rebuild_at, IsFalling, IsCalm, Is, AreOwed, Stands, GoesOn}
use Rattle.load_laws.proofs.Calls.{left_mark}

same_mark : (m n : Mark) → entry.Mark m ≡ entry.Mark n → m ≡ n
same_mark m n e = cc

-- a mark that is no fall leaves nothing fallen
calm_mark : (p : Phase) (before : List Entry) (m : Mark) → ((r : ℕ) → Fells m r → IsFalling p) → IsCalm p (before ++ entry.Mark m ∷ [])
calm_mark p before m no_fall = λ n r ends falls.
    let same = same_mark m n (same_from_push before ends.0 (entry.Mark m) (entry.Mark n) ends.1).1 in
    no_fall r (subst (λ k. Fells k r) (sym same) falls)

-- the control stream is as far as the mark brings it
pub goes_by : (slices : ℕ) (blank : List ℕ) (p q : Phase) (disk : List ℕ) (before es : List Entry) (m : Mark) (copies : List Copy)
    (at : Stands slices blank p disk before (entry.Mark m ∷ es)) → after_mark (state_in p disk at.is.copies) m ≡ state_in q disk copies
    → modes_after_mark (modes_in p) m ≡ modes_in q
    → ((r : ℕ) → rebuild_after_mark r (length before) (rebuild_at p r) m ≡ rebuild_at q r)
    → ((r : ℕ) → Fells m r → IsFalling q) → calls_left p ≡ calls_left q → AreOwed q es
    → GoesOn slices blank p disk before (entry.Mark m) es
goes_by slices blank p q disk before es m copies at leaves modes rebuilds falls same owed =
    let left = left_mark slices p m es at.left in
    inr (
      tt,
      q,
      record {
        is = record {
          copies = copies;
          state = replay-push (fresh blank).state before (entry.Mark m) ∙ ap (λ s. after_mark s m) at.is.state ∙ leaves;
          modes = modes_after-push (fresh blank).modes before (entry.Mark m) ∙ ap (λ ms. modes_after_mark ms m) at.is.modes ∙ modes;
          rebuilds = λ r. rebuild_of-push r before (entry.Mark m)
              ∙ ap (λ b. rebuild_after_mark r (length before) b m) (at.is.rebuilds r) ∙ rebuilds r;
          calm = calm_mark q before m falls;
        };
        size = at.size;
        left = record { frames = left.frames; control = left.control ∙ same; others = left.others };
        owed = owed;
      },
    )

-- what a mark asks, where the control stream is so far
pub could_in : (blank : List ℕ) (p : Phase) (disk : List ℕ) (before es : List Entry) (m : Mark) (at : Is blank p disk before)
    → CouldBe before es (replay (fresh blank).state before) (modes_after (fresh blank).modes before) m
    → CouldBe before es (state_in p disk at.copies) (modes_in p) m
could_in blank p disk before es m at could =
    subst (λ ms. CouldBe before es (state_in p disk at.copies) ms m) at.modes
    (subst (λ s. CouldBe before es s (modes_after (fresh blank).modes before) m) at.state could)
