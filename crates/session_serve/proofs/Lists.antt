-- Lists of which the ends are compared.
use Rattle.std.proofs.Common.{◌≡◌, ◌⊎◌, List, [], ◌∷◌, ◌++◌, map, inl, inr, refl, sym, ap}

pub head_same : {A : Type 0} (x y : A) (xs ys : List A) → x ∷ xs ≡ y ∷ ys → x ≡ y
head_same x y xs ys e = cc

pub tail_same : {A : Type 0} (x y : A) (xs ys : List A) → x ∷ xs ≡ y ∷ ys → xs ≡ ys
tail_same x y xs ys e = cc

pub not_none : {A : Type 0} (x : A) (xs : List A) → x ∷ xs ≡ [] → ⊥
not_none x xs e = cc

-- the last of a list is not none of it
snoc_some : {A : Type 0} (zs : List A) (p : A) → zs ++ p ∷ [] ≡ [] → ⊥
snoc_some [] p e = not_none p [] e
snoc_some (z ∷ zs) p e = not_none z (zs ++ p ∷ []) e

-- two lists with one more at the end
pub snoc_same : {A : Type 0} (xs zs : List A) (p q : A) → xs ++ p ∷ [] ≡ zs ++ q ∷ [] → (xs ≡ zs) × (p ≡ q)
snoc_same [] [] p q e = (refl, head_same p q [] [] e)
snoc_same [] (z ∷ zs) p q e = absurd (snoc_some zs q (sym (tail_same p z [] (zs ++ q ∷ []) e)))
snoc_same (x ∷ xs) [] p q e = absurd (snoc_some xs p (tail_same x q (xs ++ p ∷ []) [] e))
snoc_same (x ∷ xs) (z ∷ zs) p q e =
    let more = snoc_same xs zs p q (tail_same x z (xs ++ p ∷ []) (zs ++ q ∷ []) e) in
    ((λ i. head_same x z (xs ++ p ∷ []) (zs ++ q ∷ []) e i ∷ more.0 i), more.1)

-- what begins a list ends before an element of it, or behind it
pub before_or_behind : {A : Type 0} (xs ys us vs : List A) (e : A) → xs ++ ys ≡ us ++ e ∷ vs
    → ((m : List A) × (us ≡ xs ++ m)) ⊎ ((m : List A) × (xs ≡ us ++ e ∷ m))
before_or_behind [] ys us vs e is = inl (us, refl)
before_or_behind (x ∷ xs) ys [] vs e is = inr (xs, (λ i. head_same x e (xs ++ ys) vs is i ∷ xs))
before_or_behind {A = A} (x ∷ xs) ys (u ∷ us) vs e is =
    by (before_or_behind xs ys us vs e (tail_same x u (xs ++ ys) (us ++ e ∷ vs) is))
  where
    first : x ≡ u
    first = head_same x u (xs ++ ys) (us ++ e ∷ vs) is

    by : (((m : List A) × (us ≡ xs ++ m)) ⊎ ((m : List A) × (xs ≡ us ++ e ∷ m)))
        → ((m : List A) × (u ∷ us ≡ x ∷ (xs ++ m))) ⊎ ((m : List A) × (x ∷ xs ≡ u ∷ (us ++ e ∷ m)))
    by (inl m) = inl (m.0, (λ i. sym first i ∷ m.1 i))
    by (inr m) = inr (m.0, (λ i. first i ∷ m.1 i))

-- what is the last of the images is the image of the last
pub last_image : {A B : Type 0} (f : A → B) (ps : List A) (xs : List B) (x : B) → map f ps ≡ xs ++ x ∷ []
    → (qs : List A) × (q : A) × (ps ≡ qs ++ q ∷ []) × (f q ≡ x)
last_image f [] xs x e = absurd (snoc_some xs x (sym e))
last_image f (p ∷ []) [] x e = ([], p, refl, head_same (f p) x [] [] e)
last_image f (p ∷ q ∷ ps) [] x e = absurd (not_none (f q) (map f ps) (tail_same (f p) x (f q ∷ map f ps) [] e))
last_image f (p ∷ ps) (y ∷ xs) x e =
    let more = last_image f ps xs x (tail_same (f p) y (map f ps) (xs ++ x ∷ []) e) in
    (p ∷ more.0, more.1, ap (λ l. p ∷ l) more.2, more.3)
