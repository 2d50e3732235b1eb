-- Legal journals, one behind the other.
use Rattle.std.proofs.Common.{◌≡◌, ℕ, suc, ◌+◌, eqb, Bool, true, false, cond, List, [], ◌∷◌, ◌++◌, length, refl, ap, ◌∙◌, arith}
use Rattle.volume_model.specs.declared.entry.Answer.{Answer}
use Rattle.volume_model.specs.declared.entry.Entry.{Entry}
use Rattle.volume_model.specs.declared.entry.Entry.TheVariants as entry
use Rattle.volume_model.specs.declared.mark.Mark.{Mark}
use Rattle.volume_model.specs.declared.mark.Mark.TheVariants as mark
use Rattle.volume_model.specs.declared.mode.Mode.{Mode}
use Rattle.volume_model.specs.PlainState.{PlainState}
use Rattle.volume_model.specs.Replay.{replay}
use Rattle.volume_model.specs.Modes.{modes_after}
use Rattle.volume_model.specs.Rebuilds.{NextIsMark, AddComes, MayFall}
use Rattle.volume_model.specs.History.{Spot, FailsNow, FailsNext, CouldBe, MayStand, LegalAfter, answers_from}
use Rattle.volume_model.proofs.StandingLemmas.{StandFrom-append}

-- what is asked of the entries behind is asked of the first of them, so it stays where more come
begins_longer : (xs ys : List Entry) (m : Mark) → NextIsMark xs m → NextIsMark (xs ++ ys) m
begins_longer [] ys m b = absurd b
begins_longer (x ∷ xs) ys m b = b

add_longer : (xs ys : List Entry) (r : ℕ) → AddComes xs r → AddComes (xs ++ ys) r
add_longer [] ys r a = absurd a
add_longer (entry.Mark m ∷ xs) ys r a = absurd a
add_longer (entry.Answer b ∷ xs) ys r a = a

now_longer : (r : ℕ) (xs ys : List Entry) → FailsNow r xs → FailsNow r (xs ++ ys)
now_longer r [] ys h = absurd h
now_longer r (entry.Answer a ∷ xs) ys h = h
now_longer r (entry.Mark m ∷ xs) ys h = absurd h

next_longer : (r : ℕ) (xs ys : List Entry) → FailsNext r xs → FailsNext r (xs ++ ys)
next_longer r [] ys h = absurd h
next_longer r (entry.Answer a ∷ xs) ys h = h
next_longer r (entry.Mark m ∷ xs) ys h = (h.0, now_longer r xs ys h.1)

fall_longer : (modes : List Mode) (before xs ys : List Entry) (r : ℕ) → MayFall modes before xs r → MayFall modes before (xs ++ ys) r
fall_longer modes before xs ys r f = record { up = f.up; ends = λ q s is who. begins_longer xs ys (mark.Aborted q) (f.ends q s is who) }

could_longer : (before xs ys : List Entry) (state : PlainState) (modes : List Mode) (m : Mark)
    → CouldBe before xs state modes m → CouldBe before (xs ++ ys) state modes m
could_longer before xs ys state modes (mark.Purged part) could = could
could_longer before xs ys state modes (mark.Fault stream r count) could = fall_longer modes before xs ys r could
could_longer before xs ys state modes (mark.Failed r) could = (fall_longer modes before xs ys r could.0, next_longer r xs ys could.1)
could_longer before xs ys state modes (mark.Added r source name) could = could
could_longer before xs ys state modes (mark.Promoted r) could =
    record { source = could.source; begun = could.begun; ends = add_longer xs ys r could.ends }
could_longer before xs ys state modes (mark.Aborted r) could = could

may_longer : (opening : Spot) (before : List Entry) (e : Entry) (xs ys : List Entry)
    → MayStand opening before e xs → MayStand opening before e (xs ++ ys)
may_longer opening before (entry.Answer a) xs ys h = h
may_longer opening before (entry.Mark m) xs ys h =
    could_longer before xs ys (replay opening.state before) (modes_after opening.modes before) m h

-- entries that are legal behind entries that are
pub LegalAfter-append :
    (opening : Spot) (before xs ys : List Entry)
    → LegalAfter opening before xs → LegalAfter opening (before ++ xs) ys → LegalAfter opening before (xs ++ ys)
LegalAfter-append opening = StandFrom-append (MayStand opening) (may_longer opening)

-- ---- the answers of each stream

further : (p n : ℕ) → suc p + n ≡ p + suc n
further p n = omega arith

-- those of a journal behind a journal
pub answers_from-append :
    (stream place : ℕ) (xs ys : List Entry)
    → answers_from stream place (xs ++ ys) ≡ answers_from stream place xs ++ answers_from stream (place + length xs) ys
answers_from-append stream place [] ys = ap (λ n. answers_from stream n ys) (omega arith)
answers_from-append stream place (entry.Answer a ∷ xs) ys =
    ap (λ l. cond (eqb a.stream stream) ((place, a) ∷ l) l) (
    answers_from-append stream (suc place) xs ys
    ∙ ap (λ n. answers_from stream (suc place) xs ++ answers_from stream n ys) (further place (length xs)))
    ∙ choice (eqb a.stream stream) (place, a) (answers_from stream (suc place) xs)
    (answers_from stream (place + length (entry.Answer a ∷ xs)) ys)
  where
    choice : (b : Bool) (p : ℕ × Answer) (l m : List (ℕ × Answer)) → cond b (p ∷ (l ++ m)) (l ++ m) ≡ cond b (p ∷ l) l ++ m
    choice true p l m = refl
    choice false p l m = refl
answers_from-append stream place (entry.Mark k ∷ xs) ys =
    answers_from-append stream (suc place) xs ys
    ∙ ap (λ n. answers_from stream (suc place) xs ++ answers_from stream n ys) (further place (length xs))
