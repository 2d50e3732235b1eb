-- The names of a list that begin with a prefix.
use Rattle.std.proofs.Common.{◌≡◌, ◌≢◌, ◌⊎◌, inl, inr, ℕ, zero, suc, Bool, true, false, List, [], ◌∷◌, ◌++◌, map}
use Rattle.std.proofs.Common.{refl, sym, ap, subst, ◌∙◌, arith}
use Rattle.std.proofs.Common.{Global, String, string_bytes, append_assoc}
use Rattle.std.proofs.lemmas.Bool.Decides.{Decides-eqb}
use Rattle.std.proofs.lemmas.List.Elements.{All-nil, All-cons}
use Rattle.std.proofs.lemmas.Slice.Eq.{starts_is}
use Rattle.std.specs.Prelude.{if◌then◌else◌, nat_eq, All, Contains}
use Rattle.std.specs.List.{starts_with}
use Rattle.shelf_traits.specs.Files.{AreDistinct}
use Rattle.target_memory.specs.Kept.{kept_if}

abbrev pub named : List ℕ → List (List ℕ) → List (List ℕ)
named prefix [] = []
named prefix (name ∷ more) = kept_if prefix name ++ named prefix more

-- one turn of the loop over the names: what was pushed stood in front of those that are left
pub names_step : (prefix : List ℕ) (old new : List (List ℕ)) (left rest : List (String Global)) (x : String Global)
    → left ≡ x ∷ rest → new ≡ old ++ kept_if prefix (string_bytes x)
    → new ++ named prefix (map string_bytes rest) ≡ old ++ named prefix (map string_bytes left)
names_step prefix old new left rest x is made =
    let behind = named prefix (map string_bytes rest) in
    ap (λ (zs : List (List ℕ)). zs ++ behind) made ∙ append_assoc old (kept_if prefix (string_bytes x)) behind
    ∙ ap (λ (ks : List (String Global)). old ++ named prefix (map string_bytes ks)) (sym is)

-- it is one of the list
abbrev pub In : List (List ℕ) → List ℕ → Type 0
In [] x = ⊥
In (y ∷ ys) x = (y ≡ x) ⊎ In ys x

pub in_from : (xs : List (List ℕ)) (x : List ℕ) → Contains xs x → In xs x
in_from [] x (k, low, is) = absurd (omega (arith, low))
in_from (y ∷ ys) x (zero, low, is) = inl is
in_from (y ∷ ys) x (suc k, low, is) = inr (in_from ys x (k, omega (arith, low), is))

pub in_to : (xs : List (List ℕ)) (x : List ℕ) → In xs x → Contains xs x
in_to [] x h = absurd h
in_to (y ∷ ys) x (inl e) = (0, omega arith, e)
in_to (y ∷ ys) x (inr h) = let c = in_to ys x h in (suc c.0, omega (arith, c.1), c.2)

-- the name begins so
abbrev pub begins : List ℕ → List ℕ → Bool
begins prefix name = starts_with nat_eq name prefix

pub begins_so : (prefix rest : List ℕ) → begins prefix (prefix ++ rest) ≡ true
begins_so prefix rest = (starts_is Decides-eqb (prefix ++ rest) prefix (begins prefix (prefix ++ rest)) refl).1 rest refl

pub named_in : (prefix : List ℕ) (xs : List (List ℕ)) (x : List ℕ) → In (named prefix xs) x
    → In xs x × (begins prefix x ≡ true)
named_in prefix [] x h = absurd h
named_in prefix (y ∷ ys) x h = by_test (named_in prefix ys x) (begins prefix y) refl h
  where
    by_test : (In (named prefix ys) x → In ys x × (begins prefix x ≡ true)) → (b : Bool) → begins prefix y ≡ b
        → In ((if b then y ∷ [] else []) ++ named prefix ys) x → In (y ∷ ys) x × (begins prefix x ≡ true)
    by_test more true is (inl e) = (inl e, ap (begins prefix) (sym e) ∙ is)
    by_test more true is (inr h) = let r = more h in (inr r.0, r.1)
    by_test more false is h = let r = more h in (inr r.0, r.1)

pub in_named : (prefix : List ℕ) (xs : List (List ℕ)) (x : List ℕ) → begins prefix x ≡ true → In xs x
    → In (named prefix xs) x
in_named prefix [] x so h = absurd h
in_named prefix (y ∷ ys) x so (inl e) =
    let is = ap (begins prefix) e ∙ so in
    subst (λ b. In ((if b then y ∷ [] else []) ++ named prefix ys) x) (sym is) (inl e)
in_named prefix (y ∷ ys) x so (inr h) = by_test (in_named prefix ys x so h) (begins prefix y)
  where
    by_test : In (named prefix ys) x → (b : Bool) → In ((if b then y ∷ [] else []) ++ named prefix ys) x
    by_test more true = inr more
    by_test more false = more

-- none comes twice
abbrev pub Apart : List (List ℕ) → Type 0
Apart [] = Unit {0}
Apart (x ∷ xs) = (In xs x → ⊥) × Apart xs

pub apart_named : (prefix : List ℕ) (xs : List (List ℕ)) → Apart xs → Apart (named prefix xs)
apart_named prefix [] h = tt
apart_named prefix (y ∷ ys) (none, more) = by_test (apart_named prefix ys more) (begins prefix y)
  where
    by_test : Apart (named prefix ys) → (b : Bool) → Apart ((if b then y ∷ [] else []) ++ named prefix ys)
    by_test apart true = (λ h. none (named_in prefix ys y h).0, apart)
    by_test apart false = apart

pub distinct : (xs : List (List ℕ)) → Apart xs → AreDistinct xs
distinct [] h = tt
distinct (x ∷ xs) (none, more) = (others xs none, distinct xs more)
  where
    others : (ys : List (List ℕ)) → (In ys x → ⊥) → All (λ y. y ≢ x) ys
    others [] none = All-nil (λ y. y ≢ x)
    others (y ∷ ys) none = All-cons (λ y. y ≢ x) y ys (λ e. none (inl e)) (others ys (λ h. none (inr h)))
