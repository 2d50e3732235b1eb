-- How a text begins.
use Rattle.std.proofs.Common.{ℕ, ◌≤◌, ◌≢◌, List, [], ◌∷◌, ◌++◌}

-- with a byte of this kind, or with nothing
abbrev pub Begins : (ℕ → Type 0) → List ℕ → Type 0
Begins Is [] = Unit {0}
Begins Is (b ∷ bs) = Is b

pub Begins-append : (Is : ℕ → Type 0) (xs ys : List ℕ) → Begins Is xs → Begins Is ys → Begins Is (xs ++ ys)
Begins-append Is [] ys p q = q
Begins-append Is (x ∷ xs) ys p q = p

-- as no entry does: with a letter
abbrev pub BeginsLater : List ℕ → Type 0
BeginsLater text = Begins (λ b. 97 ≤ b) text

-- as no line of a session does: 115 is the first byte of each
abbrev pub BeginsUnserved : List ℕ → Type 0
BeginsUnserved text = Begins (λ b. b ≢ 115) text

-- as no line of an opening does: 111 is the first byte of each
abbrev pub BeginsUnopened : List ℕ → Type 0
BeginsUnopened text = Begins (λ b. b ≢ 111) text
