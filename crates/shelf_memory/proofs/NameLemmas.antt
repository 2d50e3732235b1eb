-- The names of files.
use Rattle.std.proofs.Common.{◌≡◌, ◌≢◌, ℕ, zero, suc, ◌+◌, ◌<◌, ◌≤◌, Bool, true, false, true≢false, cond}
use Rattle.std.proofs.Common.{List, [], ◌∷◌, ◌++◌, length, get_or, map, Some, ⊎_elim, below_more, refl, sym, ap, subst, ◌∙◌, arith}
use Rattle.std.specs.Prelude.{Contains, IsTrue, is_some}
use Rattle.std.proofs.lemmas.Bool.{and_parts, and_from, eq-eqb}
use Rattle.std.proofs.lemmas.List.Elements.{All-nil, All-push, Contains-push, Contains-push_cases, Contains-append_left}
use Rattle.std.proofs.lemmas.Slice.Eq.{bytes_eq-Decides}
use Rattle.shelf_traits.specs.Files.{AreDistinct, Lists}
use Rattle.shelf_memory.specs.Kept.{Kept, is_file, files_of, kept_at, AddsName, Stays, Grows, ListsFirst}

found_in : (ks : List Kept) (i shelf : ℕ) (name : List ℕ) → i < length ks → is_file shelf name (kept_at ks i) ≡ true
    → IsTrue (is_some (files_of ks shelf name))
unfolding files_of
found_in [] i shelf name less is = absurd (omega arith)
found_in (k ∷ ks) zero shelf name less is = ap (λ t. is_some (cond t (Some k.held) (files_of ks shelf name))) is
found_in (k ∷ ks) (suc i) shelf name less is = by_test (is_file shelf name k) (found_in ks i shelf name (omega arith) is)
  where
    by_test : (t : Bool) → IsTrue (is_some (files_of ks shelf name))
        → IsTrue (is_some (cond t (Some k.held) (files_of ks shelf name)))
    by_test true rest = refl
    by_test false rest = rest

place_in : (ks : List Kept) (shelf : ℕ) (name : List ℕ) → IsTrue (is_some (files_of ks shelf name))
    → (i : ℕ) × (i < length ks) × (is_file shelf name (kept_at ks i) ≡ true)
unfolding files_of
place_in [] shelf name some = absurd (true≢false (sym some))
place_in (k ∷ ks) shelf name some = by_test (is_file shelf name k) refl some (place_in ks shelf name)
  where
    by_test : (t : Bool) → is_file shelf name k ≡ t → IsTrue (is_some (cond t (Some k.held) (files_of ks shelf name)))
        → (IsTrue (is_some (files_of ks shelf name)) → (i : ℕ) × (i < length ks) × (is_file shelf name (kept_at ks i) ≡ true))
        → (i : ℕ) × (i < length (k ∷ ks)) × (is_file shelf name (kept_at (k ∷ ks) i) ≡ true)
    by_test true is some rest = (0, omega arith, is)
    by_test false is some rest = let r = rest some in (suc r.0, omega (arith, r.1), r.2)

set_push : (names : List (List ℕ)) (name : List ℕ) → AreDistinct names → (Contains names name → ⊥)
    → AreDistinct (names ++ name ∷ [])
set_push [] name set new = (All-nil (λ y. y ≢ name), tt)
set_push (x ∷ xs) name set new =
    let apart = All-push (λ y. y ≢ x) xs name set.0 (λ e. new (0, omega arith, sym e)) in
    (apart, set_push xs name set.1 (λ c. new (suc c.0, omega (arith, c.1), c.2)))

pub lists_more : (shelf : ℕ) (ks : List Kept) (place : ℕ) (k : Kept) (old new : List (List ℕ)) → place < length ks
    → k ≡ kept_at ks place
    → AddsName shelf k old new → ListsFirst shelf old ks place → ListsFirst shelf new ks (place + 1)
lists_more shelf ks place k old new within is (Stays among) had = record {
  there = had.there;
  all = below_more _ _ had.all (subst (λ (x : Kept). x.shelf ≡ shelf → Contains old x.name) is among);
  once = had.once;
}
lists_more shelf ks place k old new within is (Grows here fresh) had = record {
  there = λ file c. ⊎_elim (had.there file)
      (λ (same : k.name ≡ file). subst (λ n. IsTrue (is_some (files_of ks shelf n))) same
      (found_in ks place shelf k.name within (subst (λ (x : Kept). is_file shelf k.name x ≡ true) is (its_own shelf k here))))
      (Contains-push_cases old k.name file c);
  all = below_more _ _ (λ i less on. Contains-append_left old (k.name ∷ []) (kept_at ks i).name (had.all i less on))
      (subst (λ (x : Kept). x.shelf ≡ shelf → Contains (old ++ k.name ∷ []) x.name) is (λ on. Contains-push old k.name));
  once = set_push old k.name had.once fresh;
}
  where
    its_own : (shelf : ℕ) (k : Kept) → k.shelf ≡ shelf → is_file shelf k.name k ≡ true
    its_own shelf k here = grind (arith, and_from, eq-eqb k.shelf shelf here, bytes_eq-Decides k.name k.name)

pub lists_all : (shelf : ℕ) (ks : List Kept) (count : ℕ) (names : List (List ℕ)) → length ks ≤ count
    → ListsFirst shelf names ks count → Lists shelf names (files_of ks)
lists_all shelf ks count names all had = record {
  there = had.there;
  all = λ file some. by_place file (place_in ks shelf file some);
  once = had.once;
}
  where
    by_place : (file : List ℕ) → (i : ℕ) × (i < length ks) × (is_file shelf file (kept_at ks i) ≡ true)
        → Contains names file
    by_place file p =
        let named : (kept_at ks p.0).name ≡ file = grind (arith, and_parts, p.2, bytes_eq-Decides (kept_at ks p.0).name file) in
        let on : (kept_at ks p.0).shelf ≡ shelf = grind (arith, and_parts, p.2) in
        subst (Contains names) named (had.all p.0 (omega (arith, p.1)) on)

pub any_default : (xs : List (List ℕ)) (i : ℕ) → i < length xs → (d e : List ℕ) → get_or xs i d ≡ get_or xs i e
any_default [] i less d e = absurd (omega arith)
any_default (x ∷ xs) zero less d e = refl
any_default (x ∷ xs) (suc i) less d e = any_default xs i (omega arith) d e

pub here_is : (xs : List (List ℕ)) (i : ℕ) (name : List ℕ) → i < length xs → get_or xs i [] ≡ name → Contains xs name
here_is xs i name less is = (i, less, any_default xs i less name [] ∙ is)

map-push : {X : Type 0} (f : X → List ℕ) (xs : List X) (x : X) → map f (xs ++ x ∷ []) ≡ map f xs ++ f x ∷ []
map-push f [] x = refl
map-push f (y ∷ ys) x = ap (λ l. f y ∷ l) (map-push f ys x)

pub grows : {X : Type 0} (f : X → List ℕ) (shelf : ℕ) (k : Kept) (items new : List X) (x : X) → new ≡ items ++ x ∷ []
    → f x ≡ k.name → k.shelf ≡ shelf
    → (Contains (map f items) k.name → ⊥) → AddsName shelf k (map f items) (map f new)
grows f shelf k items new x is name here fresh =
    subst (AddsName shelf k (map f items))
    (sym (ap (map f) is ∙ map-push f items x ∙ ap (λ n. map f items ++ n ∷ []) name)) (Grows here fresh)
