-- Modes, rebuilds and replies that are not the same, and marks that are no fall.
use Rattle.std.proofs.Common.{◌≡◌, ◌≢◌, ℕ, Bool, true, false, cond, List, [], ◌∷◌, ◌++◌, sym, subst, ◌∙◌, ⊎_elim}
use Rattle.volume_model.specs.declared.entry.Entry.{Entry}
use Rattle.volume_model.specs.declared.entry.Entry.TheVariants as entry
use Rattle.volume_model.specs.declared.mark.Mark.{Mark}
use Rattle.volume_model.specs.Rebuilds.{rebuild_of, Fells, IsBehindFall}
use Rattle.volume_model.specs.declared.mode.Mode.TheVariants.{Rw, Err}
use Rattle.volume_model.specs.declared.mark.Rebuild.TheVariants as rebuild
use Rattle.volume_model.specs.declared.call.Reply.TheVariants as reply

pub rw≢err : Rw ≢ Err
rw≢err e = cc

pub err≢rw : Err ≢ Rw
err≢rw e = cc

pub unasked≢open : (s : ℕ) → rebuild.Unasked ≢ rebuild.Open s
unasked≢open s e = cc

-- once its add was answered, a rebuild is open no more
pub answered≢open : (b : Bool) (s : ℕ) → cond b rebuild.Unasked
    (cond b rebuild.Promoted (cond b (rebuild.Open 0) rebuild.Unasked)) ≢ rebuild.Open s
answered≢open true s e = cc
answered≢open false s e = cc

pub three≢four : reply.Aborted 3 ≢ reply.Aborted 4
three≢four e = cc

-- the last of a list is one
same_last : (xs ys : List Entry) (x y : Entry) → xs ++ x ∷ [] ≡ ys ++ y ∷ [] → x ≡ y
same_last [] [] x y e = cc
same_last [] (b ∷ []) x y e = absurd cc
same_last [] (b ∷ c ∷ ys) x y e = absurd cc
same_last (a ∷ []) [] x y e = absurd cc
same_last (a ∷ c ∷ xs) [] x y e = absurd cc
same_last (a ∷ xs) (b ∷ ys) x y e = same_last xs ys x y cc

same_mark : (m n : Mark) → entry.Mark m ≡ entry.Mark n → m ≡ n
same_mark m n e = cc

same_source : (s t : ℕ) → rebuild.Open s ≡ rebuild.Open t → s ≡ t
same_source s t e = cc

-- right behind a mark in which neither the source nor the target falls, nothing is behind its fall
pub not_behind : (front : List Entry) (m : Mark) (r s : ℕ) → rebuild_of r (front ++ entry.Mark m ∷ []) ≡ rebuild.Open s
    → (Fells m r → ⊥) → (Fells m s → ⊥)
    → IsBehindFall (front ++ entry.Mark m ∷ []) r → ⊥
not_behind front m r s begun target source behind =
    let same = same_mark m behind.fell (same_last front behind.last.0 (entry.Mark m) (entry.Mark behind.fell) behind.last.1) in
    let from = same_source s behind.source (sym begun ∙ behind.begun) in
    ⊎_elim
    (λ f. target (subst (λ n. Fells n r) (sym same) f))
    (λ f. source (subst (λ q. Fells m q) (sym from) (subst (λ n. Fells n behind.source) (sym same) f)))
    behind.which
