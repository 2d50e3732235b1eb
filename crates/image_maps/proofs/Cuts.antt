-- Lists that are cut in two.
use Rattle.std.proofs.Common.{◌≡◌, ◌≢◌, ◌⊎◌, ℕ, List, [], ◌∷◌, ◌++◌, inl, inr, refl, sym}
use Rattle.std.specs.List.{All}
use Rattle.std.proofs.lemmas.List.Elements.{All-head, All-tail}

abbrev pub Lacks : ℕ → List ℕ → Type 0
Lacks byte xs = All (λ c. c ≢ byte) xs

cons_parts : {x y : ℕ} {xs ys : List ℕ} → x ∷ xs ≡ y ∷ ys → (x ≡ y) × (xs ≡ ys)
cons_parts is = (cc, cc)

cons_same : {x y : ℕ} {xs ys : List ℕ} → x ≡ y → xs ≡ ys → x ∷ xs ≡ y ∷ ys
cons_same head tail = cc

-- where the byte stands, it is not lacking
pub has_byte : (byte : ℕ) (a b : List ℕ) → Lacks byte (a ++ byte ∷ b) → ⊥
has_byte byte [] b lacks = All-head (λ c. c ≢ byte) byte b lacks refl
has_byte byte (x ∷ a) b lacks = has_byte byte a b (All-tail (λ c. c ≢ byte) x (a ++ byte ∷ b) lacks)

-- what is true of each element is true of one in the midst
pub All-midst : (P : ℕ → Type 0) (a : List ℕ) (x : ℕ) (b : List ℕ) → All P (a ++ x ∷ b) → P x
All-midst P [] x b all = All-head P x b all
All-midst P (y ∷ a) x b all = All-midst P a x b (All-tail P y (a ++ x ∷ b) all)

-- a text has one cut at the first of a byte
pub one_cut : (byte : ℕ) (a b c d : List ℕ) → Lacks byte a → Lacks byte c → a ++ byte ∷ b ≡ c ++ byte ∷ d
    → (a ≡ c) × (b ≡ d)
one_cut byte [] b [] d lacks also is = (refl, (cons_parts is).1)
one_cut byte [] b (y ∷ c) d lacks also is = absurd (All-head (λ x. x ≢ byte) y c also (sym (cons_parts is).0))
one_cut byte (x ∷ a) b [] d lacks also is = absurd (All-head (λ y. y ≢ byte) x a lacks (cons_parts is).0)
one_cut byte (x ∷ a) b (y ∷ c) d lacks also is =
    let rest =
    one_cut byte a b c d (All-tail (λ z. z ≢ byte) x a lacks) (All-tail (λ z. z ≢ byte) y c also) (cons_parts is).1 in
    (cons_same (cons_parts is).0 rest.0, rest.1)

-- what ends at the first of a byte goes on where another byte stands behind its front
pub goes_on : (stop byte : ℕ) (a more c rest : List ℕ) → Lacks stop a → byte ≢ stop
    → a ++ byte ∷ more ≡ c ++ stop ∷ rest → (back : List ℕ) × (c ≡ a ++ byte ∷ back)
goes_on stop byte [] more [] rest lacks other is = absurd (other (cons_parts is).0)
goes_on stop byte [] more (y ∷ c) rest lacks other is = (c, cons_same (sym (cons_parts is).0) refl)
goes_on stop byte (x ∷ a) more [] rest lacks other is =
    absurd (All-head (λ z. z ≢ stop) x a lacks (cons_parts is).0)
goes_on stop byte (x ∷ a) more (y ∷ c) rest lacks other is =
    let found = goes_on stop byte a more c rest (All-tail (λ z. z ≢ stop) x a lacks) other (cons_parts is).1 in
    (found.0, cons_same (sym (cons_parts is).0) found.1)

nothing_behind : (ys ws : List ℕ) → ys ++ ws ≡ [] → ws ≡ []
nothing_behind [] ws is = is
nothing_behind (y ∷ ys) ws is = cc

-- a list with an element behind it is cut at its end, or in what stands before
pub last_cut : (xs : List ℕ) (x : ℕ) (ys ws : List ℕ) → xs ++ x ∷ [] ≡ ys ++ ws
    → (ws ≡ []) ⊎ ((front : List ℕ) × (xs ≡ ys ++ front))
last_cut xs x [] ws is = inr (xs, refl)
last_cut [] x (y ∷ ys) ws is = inl (nothing_behind ys ws (sym (cons_parts is).1))
last_cut (z ∷ xs) x (y ∷ ys) ws is = by_rest (last_cut xs x ys ws (cons_parts is).1)
  where
    by_rest : (ws ≡ []) ⊎ ((front : List ℕ) × (xs ≡ ys ++ front))
        → (ws ≡ []) ⊎ ((front : List ℕ) × (z ∷ xs ≡ (y ∷ ys) ++ front))
    by_rest (inl none) = inl none
    by_rest (inr (front, same)) = inr (front, cons_same (cons_parts is).0 same)
