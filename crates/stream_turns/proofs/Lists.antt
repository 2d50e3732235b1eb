-- Lists that are gone through one after another, and what an option holds.
use Rattle.std.proofs.Common.{◌≡◌, ℕ, zero, suc, ◌+◌, ◌<◌, List, [], ◌∷◌, ◌++◌, length, map, get_or, Option, Some, refl, sym, ap, ◌∙◌}
use Rattle.std.proofs.Common.{subst, arith, append-nil, append_assoc}
use Rattle.std.proofs.lemmas.List.{length-append, map-append}

module _ {A : Type 0} where
  -- what holds of each element by its place, and of one more
  pub each_snoc : (P : ℕ → A → Type 0) (xs : List A) (x : A) → ((k : ℕ) (d : A) → k < length xs → P k (get_or xs k d)) → P (length xs) x
      → (k : ℕ) (d : A) → k < length (xs ++ x ∷ []) → P k (get_or (xs ++ x ∷ []) k d)
  each_snoc P [] x all last zero d low = last
  each_snoc P [] x all last (suc k) d low = absurd (omega arith)
  each_snoc P (y ∷ ys) x all last zero d low = all 0 d (omega arith)
  each_snoc P (y ∷ ys) x all last (suc k) d low =
      each_snoc (λ (i : ℕ). P (suc i)) ys x (λ i e l. all (suc i) e (omega arith)) last k d (omega arith)

  at_middle : (xs : List A) (x : A) (ys : List A) (d : A) → get_or (xs ++ x ∷ ys) (length xs) d ≡ x
  at_middle [] x ys d = refl
  at_middle (y ∷ xs) x ys d = at_middle xs x ys d

  pub middle_below : (xs : List A) (x : A) (ys : List A) → length xs < length (xs ++ x ∷ ys)
  middle_below [] x ys = omega arith
  middle_below (y ∷ xs) x ys = let r = middle_below xs x ys in omega arith

  -- what holds of each by its place, of the one that comes after xs
  pub at_next : (P : ℕ → A → Type 0) (all xs ys rest : List A) (x : A) → xs ++ rest ≡ all → rest ≡ x ∷ ys
      → ((k : ℕ) (d : A) → k < length all → P k (get_or all k d)) → P (length xs) x
  at_next P all xs ys rest x whole is each =
      let e : xs ++ x ∷ ys ≡ all = ap (λ r. xs ++ r) (sym is) ∙ whole in
      subst (P (length xs)) (ap (λ l. get_or l (length xs) x) (sym e) ∙ at_middle xs x ys x)
      (each (length xs) x (subst (λ l. length xs < length l) e (middle_below xs x ys)))

  pub whole_next : (all xs ys rest : List A) (x : A) → xs ++ rest ≡ all → rest ≡ x ∷ ys → (xs ++ x ∷ []) ++ ys ≡ all
  whole_next all xs ys rest x whole is = append_assoc xs (x ∷ []) ys ∙ (ap (λ r. xs ++ r) (sym is) ∙ whole)

  pub whole_end : (all xs rest : List A) → xs ++ rest ≡ all → length rest ≡ 0 → xs ≡ all
  whole_end all xs [] whole none = sym (append-nil xs) ∙ whole
  whole_end all xs (x ∷ rest) whole none = absurd (omega arith)

  pub many_more : (xs more : List A) (x : A) (k : ℕ) → more ≡ xs ++ x ∷ [] → length xs ≡ k → length more ≡ k + 1
  many_more xs more x k is many = omega (arith, ap length is, length-append xs (x ∷ []), many)

  pub map_snoc : {B : Type 0} (f : A → B) (xs : List A) (x : A) (ys more : List B) → more ≡ ys ++ f x ∷ [] → ys ≡ map f xs
      → more ≡ map f (xs ++ x ∷ [])
  map_snoc f xs x ys more pushed so_far = pushed ∙ ap (λ l. l ++ f x ∷ []) so_far ∙ sym (map-append f xs (x ∷ []))

  pub element : (xs : List A) (k : ℕ) → k < length xs → A
  element [] k low = absurd (omega arith)
  element (x ∷ xs) zero low = x
  element (x ∷ xs) (suc k) low = element xs k (omega arith)

  pub map_at : {B : Type 0} (f : A → B) (xs : List A) (n : ℕ) (x : A) (d : B) → n < length xs → get_or (map f xs) n d ≡ f (get_or xs n x)
  map_at f [] n x d low = absurd (omega arith)
  map_at f (y ∷ ys) zero x d low = refl
  map_at f (y ∷ ys) (suc n) x d low = map_at f ys n x d (omega arith)

  -- an option that is some value is no other
  pub some_same : (x y : A) (o : Option A) → o ≡ Some x → o ≡ Some y → x ≡ y
  some_same x y o e f = let g : Some x ≡ Some y = sym e ∙ f in cc
