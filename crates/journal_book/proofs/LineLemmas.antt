-- A line whose last count changes, and the others.
use Rattle.std.proofs.Common.{◌≡◌, ℕ, ◌<◌, Bool, true, false, cond, eqb, ◌&&◌, List, [], ◌∷◌, ◌++◌, length, get_or, set, refl, sym, ap, ◌∙◌}
use Rattle.std.specs.Prelude.{Option, Some, None, position, nat_lt}
use Rattle.std.specs.List.{find, slice_get, position_or_len}
use Rattle.std.specs.Option.{option_map_or, option_or}
use Rattle.std.proofs.lemmas.Bool.{and_parts, eqb-true, eq-eqb, ltb-false}
use Rattle.std.proofs.lemmas.List.Folds.{find_at, find-set, find_past, find-append}
use Rattle.std.proofs.lemmas.List.Quantifiers.{position-Some}
use Rattle.std.proofs.lemmas.Option.{slice_get-get_or, slice_get_past}
use Rattle.journal_book.specs.declared.faults.LastCount.{LastCount}
use Rattle.journal_book.specs.Lines.{is_line, count_in}

-- ---- which line

itself : (a : LastCount) → is_line a.stream a.replica a ≡ true
itself a = ap (λ b. b && eqb a.replica a.replica) (eq-eqb a.stream a.stream refl) ∙ eq-eqb a.replica a.replica refl

-- what asks for a line asks for it by its own numbers
asked : (s r : ℕ) (a : LastCount) → is_line s r a ≡ true → is_line s r ≡ is_line a.stream a.replica
asked s r a is =
    let parts = and_parts (eqb a.stream s) (eqb a.replica r) is in
    ap (λ n. is_line n r) (sym (eqb-true a.stream s parts.0)) ∙ ap (λ n. is_line a.stream n) (sym (eqb-true a.replica r parts.1))

same_line : (s r : ℕ) (a b : LastCount) → is_line s r a ≡ true → is_line s r b ≡ is_line a.stream a.replica b
same_line s r a b is = ap (λ (p : LastCount → Bool). p b) (asked s r a is)

turned : (a b : LastCount) → is_line a.stream a.replica b ≡ true → is_line b.stream b.replica a ≡ true
turned a b is = sym (same_line a.stream a.replica b a is) ∙ itself a

-- a line that is not asked for is not so by another's numbers either
other_line : (s r : ℕ) (a b : LastCount) → is_line s r a ≡ false → is_line a.stream a.replica b ≡ true → is_line s r b ≡ false
other_line s r a b other is = one (is_line s r b) refl
  where
    one : (t : Bool) → is_line s r b ≡ t → is_line s r b ≡ false
    one false e = e
    one true e =
        let there : is_line s r a ≡ true = same_line s r b a e ∙ turned a b is in
        absurd cc

-- ---- a line that has shown a fault

first_place : (p : LastCount → Bool) (ls : List LastCount) (i : ℕ) → position p ls ≡ Some i → i ≡ position_or_len p ls
first_place p ls i at = one (nat_lt (position_or_len p ls) (length ls)) at
  where
    one : (b : Bool) → cond b (Some (position_or_len p ls)) None ≡ Some i → i ≡ position_or_len p ls
    one true e = cc
    one false e = absurd cc

pub count_found : (s r : ℕ) (ls : List LastCount) (i : ℕ) (d : LastCount) → position (is_line s r) ls ≡ Some i
    → (get_or ls i d).count ≡ count_in s r ls
count_found s r ls i d at =
    let there = position-Some (is_line s r) ls i d at in
    sym (ap (λ o. option_map_or (λ (l : LastCount). l.count) o 0)
    (find_at (is_line s r) ls ∙ ap (slice_get ls) (sym (first_place (is_line s r) ls i at)) ∙ slice_get-get_or ls i d there.0))

pub count_changed : (line old y : LastCount) (ls : List LastCount) (i : ℕ)
    → position (is_line line.stream line.replica) ls ≡ Some i → old ≡ get_or ls i old
    → y ≡ record { stream = old.stream; replica = old.replica; count = line.count }
    → (s r : ℕ) → count_in s r (set ls i y) ≡ cond (is_line s r line) line.count (count_in s r ls)
count_changed line old y ls i at is made s r = one (is_line s r line) refl
  where
    there : (i < length ls) × (is_line line.stream line.replica (get_or ls i old) ≡ true)
        × ((k : ℕ) → k < i → is_line line.stream line.replica (get_or ls k old) ≡ false)
    there = position-Some (is_line line.stream line.replica) ls i old at

    is_old : is_line line.stream line.replica old ≡ true
    is_old = ap (is_line line.stream line.replica) is ∙ there.1

    one : (b : Bool) → is_line s r line ≡ b → count_in s r (set ls i y) ≡ cond b line.count (count_in s r ls)
    one true e =
        let first : i ≡ position_or_len (is_line s r) ls =
        first_place (is_line line.stream line.replica) ls i at
        ∙ ap (λ (p : LastCount → Bool). position_or_len p ls) (sym (asked s r line e)) in
        ap (λ o. option_map_or (λ (l : LastCount). l.count) o 0)
        (find-set (is_line s r) ls i y first there.0 (ap (is_line s r) made ∙ same_line s r line old e ∙ is_old))
        ∙ ap (λ (l : LastCount). l.count) made
    one false e =
        let old_other : is_line s r old ≡ false = other_line s r line old e is_old in
        ap (λ o. option_map_or (λ (l : LastCount). l.count) o 0)
        (find_past (is_line s r) ls i y old (ap (is_line s r) (sym is) ∙ old_other) (ap (is_line s r) made ∙ old_other))

-- ---- a line that has not

absent : (p : LastCount → Bool) (ls : List LastCount) → position p ls ≡ None → find p ls ≡ None
absent p ls none = find_at p ls ∙ past (nat_lt (position_or_len p ls) (length ls)) refl none
  where
    past : (b : Bool) → nat_lt (position_or_len p ls) (length ls) ≡ b → cond b (Some (position_or_len p ls)) None ≡ None
        → slice_get ls (position_or_len p ls) ≡ None
    past true e is = absurd cc
    past false e is = slice_get_past ls (position_or_len p ls) (ltb-false (position_or_len p ls) (length ls) e)

pub count_none : (s r : ℕ) (ls : List LastCount) → position (is_line s r) ls ≡ None → 0 ≡ count_in s r ls
count_none s r ls none = sym (ap (λ o. option_map_or (λ (l : LastCount). l.count) o 0) (absent (is_line s r) ls none))

or_none : (o : Option LastCount) → option_or o None ≡ o
or_none None = refl
or_none (Some l) = refl

pub count_new : (line : LastCount) (ls : List LastCount) → position (is_line line.stream line.replica) ls ≡ None
    → (s r : ℕ) → count_in s r (ls ++ line ∷ []) ≡ cond (is_line s r line) line.count (count_in s r ls)
count_new line ls none s r = ap (λ o. option_map_or (λ (l : LastCount). l.count) o 0)
    (find-append (is_line s r) ls (line ∷ [])) ∙ one (is_line s r line) refl
  where
    one : (b : Bool) → is_line s r line ≡ b
        → option_map_or (λ (l : LastCount). l.count) (option_or (find (is_line s r) ls) (cond b (Some line) None)) 0 ≡ cond
        b line.count (count_in s r ls)
    one true e =
        ap (λ (o : Option LastCount). option_map_or (λ (l : LastCount). l.count) (option_or o (Some line)) 0)
        (ap (λ (p : LastCount → Bool). find p ls) (asked s r line e) ∙ absent (is_line line.stream line.replica) ls none)
    one false e = ap (λ (o : Option LastCount). option_map_or (λ (l : LastCount). l.count) o 0) (or_none (find (is_line s r) ls))
