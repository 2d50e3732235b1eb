-- Texts that were sorted, and of which each is kept once.
use Rattle.std.proofs.Common.{◌≡◌, ℕ, zero, suc, ◌+◌, ◌<◌, Bool, true, false, List, [], ◌∷◌, length, get_or, map}
use Rattle.std.proofs.Common.{String, Global, string_bytes, string_eq, refl, sym, ap, subst, ◌∙◌, arith, cond}
use Rattle.std.specs.Prelude.{IsPermutation, IsSorted, nat_eq}
use Rattle.std.specs.Cmp.Lexicographic.{pointwise, slice_cmp, texts_ties}
use Rattle.std.specs.Ordering.{nat_cmp, is_lt}
use Rattle.std.specs.String.{string_cmp}
use Rattle.std.specs.List.{dedup, dedup_from}
use Rattle.std.specs.List.Sorted.{IsStrictlySortedBy}
use Rattle.std.specs.List.Retain.{DiffersFromLast, IsFiltered}
use Rattle.std.proofs.lemmas.Cmp.{nat_list_cmp_total}
use Rattle.std.proofs.lemmas.List.{get_or-map, length-map}
use Rattle.std.proofs.lemmas.List.Filters.{dedup_is}
use Rattle.std.proofs.lemmas.List.Kept.{IsStrictlySortedBy-dedup}
use Rattle.std.proofs.lemmas.Map.Keys.{sorted_tail}
use Rattle.std.proofs.lemmas.Map.Views.{All-after_first}
use Rattle.std.proofs.lemmas.List.Sorted.{IsPermutation-map}
use Rattle.volume_model.specs.Purge.{is_before}
use Rattle.folder_checks.specs.Snapshots.{name_at, AreRising}
use Rattle.folder_checks.proofs.ListingLemmas.{Leaves}

map_cond : {X Y : Type 0} (f : X → Y) (b : Bool) (xs ys : List X) → map f (cond b xs ys) ≡ cond b (map f xs) (map f ys)
map_cond f true xs ys = refl
map_cond f false xs ys = refl

-- what a list of texts keeps, its bytes keep
dedup_map_from : (x : String Global) (xs : List (String Global))
    → map string_bytes (dedup_from string_eq x xs) ≡ dedup_from (pointwise nat_eq) (string_bytes x) (map string_bytes xs)
dedup_map_from x [] = refl
dedup_map_from x (y ∷ ys) =
    map_cond string_bytes (string_eq y x) (dedup_from string_eq x ys) (x ∷ dedup_from string_eq y ys)
    ∙ ap (λ l. cond (string_eq y x) l (string_bytes x ∷ map string_bytes (dedup_from string_eq y ys))) (dedup_map_from x ys)
    ∙ ap (λ l. cond (string_eq y x) (dedup_from (pointwise nat_eq) (string_bytes x) (map string_bytes ys)) (string_bytes x ∷ l))
    (dedup_map_from y ys)

dedup_map : (xs : List (String Global)) → map string_bytes (dedup string_eq xs) ≡ dedup (pointwise nat_eq) (map string_bytes xs)
dedup_map [] = refl
dedup_map (x ∷ xs) = dedup_map_from x xs

sorted_map : (xs : List (String Global)) → IsSorted string_cmp xs → IsSorted (slice_cmp nat_cmp) (map string_bytes xs)
sorted_map [] sorted k d low less = absurd (omega arith)
sorted_map (x ∷ xs) sorted k d low less =
    let size : k + 1 < length (x ∷ xs) = omega (arith, length-map (x ∷ xs) string_bytes) in
    ap (λ a. is_lt (slice_cmp nat_cmp a (get_or (map string_bytes (x ∷ xs)) k d))) (get_or-map string_bytes (x ∷ xs) (k + 1) x d size)
    ∙ ap (λ b. is_lt (slice_cmp nat_cmp (string_bytes (get_or (x ∷ xs) (k + 1) x)) b))
    (get_or-map string_bytes (x ∷ xs) k x d (omega arith))
    ∙ sorted k x low size

rises_at : (xs : List (List ℕ)) → IsStrictlySortedBy (slice_cmp nat_cmp) xs → (place next : ℕ) → next ≡ place + 1 → next < length xs
    → is_before (name_at xs place) (name_at xs next) ≡ true
rises_at [] strict place next is less = absurd (omega arith)
rises_at (x ∷ xs) strict place zero is less = absurd (omega arith)
rises_at (x ∷ xs) strict zero (suc next) is less = ap is_lt (All-after_first (slice_cmp nat_cmp) x xs strict next [] (omega arith))
rises_at (x ∷ xs) strict (suc place) (suc next) is less =
    rises_at xs (sorted_tail (slice_cmp nat_cmp) x xs strict) place next (omega arith) (omega arith)

rising : (xs : List (List ℕ)) → IsStrictlySortedBy (slice_cmp nat_cmp) xs → AreRising xs
rising xs strict place less = rises_at xs strict place (place + 1) refl less

-- ---- names that were sorted, and then each kept once

pub names_left : (unsorted sorted names : List (String Global)) → IsPermutation unsorted sorted
    → IsFiltered (DiffersFromLast string_eq) [] sorted names → Leaves (map string_bytes unsorted) (map string_bytes names)
names_left unsorted sorted names moved kept = record {
  sorted = map string_bytes sorted;
  moved = IsPermutation-map string_bytes unsorted sorted moved;
  is = ap (map string_bytes) (dedup_is string_eq sorted names kept) ∙ dedup_map sorted;
}

pub names_rise : (sorted names : List (String Global)) → IsSorted string_cmp sorted
    → IsFiltered (DiffersFromLast string_eq) [] sorted names → AreRising (map string_bytes names)
names_rise sorted names in_order kept =
    subst AreRising (sym (ap (map string_bytes) (dedup_is string_eq sorted names kept) ∙ dedup_map sorted))
    (rising (dedup (pointwise nat_eq) (map string_bytes sorted))
    (IsStrictlySortedBy-dedup nat_list_cmp_total texts_ties (map string_bytes sorted) (sorted_map sorted in_order)))
