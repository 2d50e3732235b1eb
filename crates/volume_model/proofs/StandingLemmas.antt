-- What is so of each entry where it stands, one journal behind the other.
use Rattle.std.proofs.Common.{List, [], ◌∷◌, ◌++◌, sym, subst}
use Rattle.std.proofs.lemmas.List.{append-nil, append_assoc}
use Rattle.volume_model.specs.declared.entry.Entry.{Entry}
use Rattle.volume_model.specs.Standing.{Place, StandFrom}

-- entries of which it is so, behind entries of which it is, where that stays when more come behind
pub StandFrom-append : (Stands : Place)
    → ((before : List Entry) (e : Entry) (xs ys : List Entry) → Stands before e xs → Stands before e (xs ++ ys))
    → (before xs ys : List Entry)
    → StandFrom Stands before xs → StandFrom Stands (before ++ xs) ys → StandFrom Stands before (xs ++ ys)
StandFrom-append Stands longer before [] ys h k = subst (λ l. StandFrom Stands l ys) (append-nil before) k
StandFrom-append Stands longer before (x ∷ xs) ys h k = (
  longer before x xs ys h.0,
  StandFrom-append Stands longer (before ++ x ∷ []) xs ys h.1
      (subst (λ l. StandFrom Stands l ys) (sym (append_assoc before (x ∷ []) xs)) k),
)

-- and so it is of those behind the others
pub StandFrom-behind : (Stands : Place) (before xs ys : List Entry) → StandFrom Stands before (xs ++ ys)
    → StandFrom Stands (before ++ xs) ys
StandFrom-behind Stands before [] ys h = subst (λ l. StandFrom Stands l ys) (sym (append-nil before)) h
StandFrom-behind Stands before (x ∷ xs) ys h =
    subst (λ l. StandFrom Stands l ys) (append_assoc before (x ∷ []) xs) (StandFrom-behind Stands (before ++ x ∷ []) xs ys h.1)
