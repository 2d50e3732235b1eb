-- The answers for the numbers below so many, as a list.
use Rattle.std.proofs.Common.{◌≡◌, ⊎_elim, ℕ, zero, suc, ◌+◌, ◌<◌, ◌≤◌, Bool, false, List, [], ◌∷◌, ◌++◌, length}
use Rattle.std.proofs.Common.{get_or, replicate, drop, refl, sym, ap, ◌∙◌, arith, add-one, length-append}
use Rattle.std.proofs.lemmas.Bool.{cases_eq}
use Rattle.std.proofs.lemmas.List.{get_or_append_left, get_or_past}
use Rattle.std.proofs.Math.Seq.{drop-cons, get_or-append_seam}
use Rattle.std.specs.List.{All}
use Rattle.std.proofs.lemmas.List.Elements.{All-nil, All-cons, All-append}
use Rattle.sparse_image.specs.Listed.{listed}

pub length-listed : {X : Type 0} (f : ℕ → X) (count : ℕ) → length (listed f count) ≡ count
unfolding listed
length-listed f zero = refl
length-listed f (suc count) = omega (arith, length-append (listed f count) (f count ∷ []), length-listed f count)

-- each answer is the one for its number
pub listed-at : (f : ℕ → Bool) (count k : ℕ) → k < count → get_or (listed f count) k false ≡ f k
unfolding listed
listed-at f zero k inside = absurd (omega arith)
listed-at f (suc count) k inside = ⊎_elim
    (λ last. ap (λ i. get_or (listed f count ++ f count ∷ []) i false) (last ∙ sym (length-listed f count))
    ∙ get_or-append_seam (listed f count) (f count) [] false ∙ ap f (sym last))
    (λ earlier.
    let before : k < count = omega arith in
    get_or_append_left (listed f count) (f count ∷ []) false k (omega (arith, length-listed f count)) ∙ listed-at f count k before)
    (cases_eq k count)

-- past the last number the answer is false
pub listed-past : (f : ℕ → Bool) (count k : ℕ) → count ≤ k → get_or (listed f count) k false ≡ false
listed-past f count k past = get_or_past (listed f count) k false (omega (arith, length-listed f count))

one_more : {X : Type 0} (a b : List X) (x y : X) → a ≡ b → x ≡ y → a ++ x ∷ [] ≡ b ++ y ∷ []
one_more a b x y p q = cc

-- the same answers, the same list
pub listed-same : {X : Type 0} (f g : ℕ → X) (count : ℕ) → ((k : ℕ) → k < count → f k ≡ g k) → listed f count ≡ listed g count
unfolding listed
listed-same f g zero same = refl
listed-same f g (suc count) same =
    one_more (listed f count) (listed g count) (f count) (g count) (listed-same f g count (λ k h. same k (omega arith)))
    (same count (omega arith))

replicate-push : (n : ℕ) (x : Bool) → replicate n x ++ x ∷ [] ≡ replicate (suc n) x
replicate-push zero x = refl
replicate-push (suc n) x = ap (λ l. x ∷ l) (replicate-push n x)

-- one answer for all
pub listed-all : (f : ℕ → Bool) (count : ℕ) (x : Bool) → ((k : ℕ) → f k ≡ x) → listed f count ≡ replicate count x
unfolding listed
listed-all f zero x same = refl
listed-all f (suc count) x same =
    one_more (listed f count) (replicate count x) (f count) x (listed-all f count x same) (same count) ∙ replicate-push count x

-- one more answer
pub listed-more : {X : Type 0} (f : ℕ → X) (count : ℕ) → listed f (count + 1) ≡ listed f count ++ f count ∷ []
unfolding listed
listed-more f count = ap (listed f) (add-one count)

pub listed-none : {X : Type 0} (f : ℕ → X) → listed f 0 ≡ []
unfolding listed
listed-none f = refl

-- what holds of each answer holds of all
pub listed-All : {X : Type 0} (P : X → Type 0) (f : ℕ → X) (count : ℕ) → ((k : ℕ) → k < count → P (f k)) → All P (listed f count)
unfolding listed
listed-All P f zero each = All-nil P
listed-All P f (suc count) each =
    All-append P (listed f count) (f count ∷ []) (listed-All P f count (λ k h. each k (omega arith)))
    (All-cons P (f count) [] (each count (omega arith)) (All-nil P))

-- ---- ends of lists

abbrev head_or : {X : Type 0} → X → List X → X
head_or d [] = d
head_or d (x ∷ xs) = x

abbrev tail_of : {X : Type 0} → List X → List X
tail_of [] = []
tail_of (x ∷ xs) = xs

-- lists that end alike from a place on have the same there, and end alike from the next
pub same_at : {X : Type 0} (a b : List X) (i : ℕ) (d : X) → i < length a → length a ≡ length b → drop i a ≡ drop i b
    → (get_or a i d ≡ get_or b i d) × (drop (suc i) a ≡ drop (suc i) b)
same_at {X = X} a b i d inside long rest =
    heads (sym (drop-cons a i d inside) ∙ rest ∙ drop-cons b i d (omega (arith, long)))
  where
    heads : {x y : X} {l m : List X} → x ∷ l ≡ y ∷ m → (x ≡ y) × (l ≡ m)
    heads {x = x} {l = l} e = (ap (λ zs. head_or x zs) e, ap tail_of e)
