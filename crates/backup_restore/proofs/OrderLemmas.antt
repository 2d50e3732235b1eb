-- Lists in rising order, and first places.
use Rattle.std.proofs.Common.{◌≡◌, ◌⊎◌, ℕ, ◌<◌, List, [], ◌∷◌, inl, inr, refl, sym, ap, ◌∙◌, arith}
use Rattle.std.proofs.Common.{Ordering, Less, Equal}
use Rattle.std.specs.Prelude.{Contains}
use Rattle.std.specs.Cmp.{IsTotalOrder}
use Rattle.std.specs.List.Sorted.{IsStrictlySortedBy}
use Rattle.std.specs.Ordering.{ordering_reverse}
use Rattle.std.proofs.lemmas.Cmp.{tied_itself}
use Rattle.std.proofs.lemmas.List.Elements.{All-contains, Contains-push, Contains-push_cases, Contains-append_left, Contains-append_right}
use Rattle.std.proofs.lemmas.List.Elements.{Contains-append_cases}
use Rattle.std.proofs.lemmas.Map.Keys.{sorted_tail}
use Rattle.std.proofs.lemmas.Map.Views.{All-after_first}

-- ---- what has the same elements

none_contained : {K : Type 0} (k : K) → Contains [] k → ⊥
none_contained k (i, within, is) = omega (arith, within)

first_or_more : {K : Type 0} (x : K) (xs : List K) (k : K) → Contains (x ∷ xs) k → (x ≡ k) ⊎ Contains xs k
first_or_more {K} x xs k c = by (Contains-append_cases (x ∷ []) xs k c)
  where
    alone : Contains [] k ⊎ (x ≡ k) → (x ≡ k) ⊎ Contains xs k
    alone (inl none) = absurd (none_contained k none)
    alone (inr same) = inl same

    by : Contains (x ∷ []) k ⊎ Contains xs k → (x ≡ k) ⊎ Contains xs k
    by (inl one) = alone (Contains-push_cases [] x k one)
    by (inr more) = inr more

first_in : {K : Type 0} (x : K) (xs : List K) → Contains (x ∷ xs) x
first_in x xs = Contains-append_left (x ∷ []) xs x (Contains-push [] x)

more_in : {K : Type 0} (x : K) (xs : List K) (k : K) → Contains xs k → Contains (x ∷ xs) k
more_in x xs k c = Contains-append_right (x ∷ []) xs k c

module _ {K : Type 0} {R : K → K → Ordering} (o : IsTotalOrder R) where
  below : (x : K) (xs : List K) (k : K) → IsStrictlySortedBy R (x ∷ xs) → Contains xs k → R x k ≡ Less
  below x xs k sorted c = All-contains (λ q. R x q ≡ Less) xs k (All-after_first R x xs sorted) c

  not_itself : (x k : K) → x ≡ k → R x k ≡ Less → ⊥
  not_itself x k same less = two (sym (tied_itself o x) ∙ ap (R x) same ∙ less)
    where
      two : Equal ≡ Less → ⊥
      two e = cc

  not_both_ways : (x y : K) → R x y ≡ Less → R y x ≡ Less → ⊥
  not_both_ways x y up down = two (sym up ∙ o.antisymm x y ∙ ap ordering_reverse down)
    where
      two : Less ≡ ordering_reverse Less → ⊥
      two e = cc

  one_first : (x y : K) (xs ys : List K) → IsStrictlySortedBy R (x ∷ xs) → IsStrictlySortedBy R (y ∷ ys)
      → (x ≡ y) ⊎ Contains xs y → (y ≡ x) ⊎ Contains ys x → x ≡ y
  one_first x y xs ys s t (inl same) there = same
  one_first x y xs ys s t (inr here) (inl same) = sym same
  one_first x y xs ys s t (inr here) (inr there) = absurd (not_both_ways x y (below x xs y s here) (below y ys x t there))

  -- what is in the one list behind its first element is in the other one behind its own
  behind : (x y : K) (xs ys : List K) (k : K) → x ≡ y → IsStrictlySortedBy R (x ∷ xs) → Contains xs k
      → (y ≡ k) ⊎ Contains ys k → Contains ys k
  behind x y xs ys k first s c (inl same) = absurd (not_itself x k (first ∙ same) (below x xs k s c))
  behind x y xs ys k first s c (inr there) = there

  -- lists in strictly rising order with the same elements are one
  pub one_order : (xs ys : List K) → IsStrictlySortedBy R xs → IsStrictlySortedBy R ys
      → ((k : K) → Contains xs k → Contains ys k) → ((k : K) → Contains ys k → Contains xs k) → xs ≡ ys
  one_order [] [] s t there back = refl
  one_order [] (y ∷ ys) s t there back = absurd (none_contained y (back y (first_in y ys)))
  one_order (x ∷ xs) [] s t there back = absurd (none_contained x (there x (first_in x xs)))
  one_order (x ∷ xs) (y ∷ ys) s t there back =
      let first : x ≡ y = one_first x y xs ys s t
      (first_or_more x xs y (back y (first_in y ys))) (first_or_more y ys x (there x (first_in x xs))) in
      let rest : xs ≡ ys = one_order xs ys (sorted_tail R x xs s) (sorted_tail R y ys t)
      (λ k c. behind x y xs ys k first s c (first_or_more y ys k (there k (more_in x xs k c))))
      (λ k c. behind y x ys xs k (sym first) t c (first_or_more x xs k (back k (more_in y ys k c)))) in
      ap (λ z. z ∷ xs) first ∙ ap (λ zs. y ∷ zs) rest

-- ---- first places

not_apart : (i j : ℕ) → (i < j → ⊥) → (j < i → ⊥) → i ≡ j
not_apart i j no_less no_more = omega arith

-- the first places where something does not hold are one
pub one_place : (Good : ℕ → Type 0) (i j : ℕ) → (Good i → ⊥) → (Good j → ⊥) → ((k : ℕ) → k < i → Good k)
    → ((k : ℕ) → k < j → Good k) → i ≡ j
one_place Good i j bad too before so_far = not_apart i j (λ low. bad (so_far i low)) (λ low. too (before j low))
