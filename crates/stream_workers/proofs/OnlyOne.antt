-- Where one at most of a list is such, none beside it is.
use Rattle.std.proofs.Common.{◌≡◌, ◌≢◌, ℕ, zero, suc, ◌+◌, ◌<◌, ◌≤◌, Bool, true, false, cond, List, [], ◌∷◌, length, get_or}
use Rattle.std.proofs.Common.{refl, arith}
use Rattle.std.specs.Prelude.{count_by}
use Rattle.std.proofs.lemmas.List.Sums.{sum_by-cons}

counts_none : (b : Bool) (n : ℕ) → cond b 1 0 + n ≤ 0 → (b ≡ false) × (n ≤ 0)
counts_none true n few = absurd (omega (arith, few))
counts_none false n few = (refl, omega (arith, few))

counts_one : (b : Bool) (n : ℕ) → b ≡ true → cond b 1 0 + n ≡ suc n
counts_one true n is = omega arith
counts_one false n is = absurd cc

counts_other : (b : Bool) (n : ℕ) → 1 ≤ n → cond b 1 0 + n ≤ 1 → b ≡ false
counts_other true n some few = absurd (omega (arith, some, few))
counts_other false n some few = refl

module _ {A : Type 0} (f : A → Bool) where
  counted : (x : A) (xs : List A) → count_by f (x ∷ xs) ≡ cond (f x) 1 0 + count_by f xs
  counted x xs = sum_by-cons (λ y. cond (f y) 1 0) x xs

  none_of : (xs : List A) → count_by f xs ≤ 0 → (k : ℕ) (d : A) → k < length xs → f (get_or xs k d) ≡ false
  none_of [] few k d low = absurd (omega (arith, low))
  none_of (x ∷ xs) few zero d low = (counts_none (f x) (count_by f xs) (omega (arith, few, counted x xs))).0
  none_of (x ∷ xs) few (suc k) d low =
      none_of xs (counts_none (f x) (count_by f xs) (omega (arith, few, counted x xs))).1 k d (omega (arith, low))

  some_of : (xs : List A) (k : ℕ) (d : A) → k < length xs → f (get_or xs k d) ≡ true → 1 ≤ count_by f xs
  some_of [] k d low has = absurd (omega (arith, low))
  some_of (x ∷ xs) zero d low has = omega (arith, counted x xs, counts_one (f x) (count_by f xs) has)
  some_of (x ∷ xs) (suc k) d low has = omega (arith, counted x xs, some_of xs k d (omega (arith, low)) has)

  pub only_one : (xs : List A) → count_by f xs ≤ 1 → (p : ℕ) (e : A) → p < length xs → f (get_or xs p e) ≡ true
      → (k : ℕ) (d : A) → k < length xs → k ≢ p → f (get_or xs k d) ≡ false
  only_one [] few p e there has k d low apart = absurd (omega (arith, low))
  only_one (x ∷ xs) few zero e there has zero d low apart = absurd (apart refl)
  only_one (x ∷ xs) few zero e there has (suc k) d low apart =
      none_of xs (omega (arith, few, counted x xs, counts_one (f x) (count_by f xs) has)) k d (omega (arith, low))
  only_one (x ∷ xs) few (suc p) e there has zero d low apart =
      counts_other (f x) (count_by f xs) (some_of xs p e (omega (arith, there)) has) (omega (arith, few, counted x xs))
  only_one (x ∷ xs) few (suc p) e there has (suc k) d low apart =
      only_one xs (omega (arith, few, counted x xs)) p e (omega (arith, there)) has k d (omega (arith, low))
      (λ same. apart (λ i. suc (same i)))
