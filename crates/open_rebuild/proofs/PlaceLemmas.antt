-- The place of a layer among those that are frozen, and of a page among the bits.
use Rattle.std.proofs.Common.{◌≡◌, ◌≢◌, ⊎_elim, ℕ, zero, suc, ◌+◌, ◌*◌, ◌<◌, Bool, true, false, cond, List, [], ◌∷◌}
use Rattle.std.proofs.Common.{length, get_or, refl, sym, ap, arith}
use Rattle.std.specs.Prelude.{Contains}
use Rattle.std.specs.Str.{bytes_eq}
use Rattle.std.proofs.lemmas.Bool.{cases_lt}
use Rattle.std.proofs.lemmas.Slice.Eq.{bytes_eq-Decides}
use Rattle.open_rebuild.specs.Listed.{place_of}
use Rattle.open_rebuild.proofs.ListedLemmas.{placed}

-- the first that has the name
pub place_at : (names : List (List ℕ)) (name : List ℕ) (i : ℕ) → i < length names
    → ((k : ℕ) → k < i → get_or names k [] ≢ name) → get_or names i [] ≡ name → place_of names name ≡ i
unfolding place_of
place_at [] name i h before e = absurd (omega (arith, h))
place_at (x ∷ xs) name zero h before e = ap (λ b. cond b 0 (suc (place_of xs name))) ((bytes_eq-Decides name x).1 (sym e))
place_at (x ∷ xs) name (suc i) h before e =
    go (bytes_eq name x) refl (place_at xs name i (omega (arith, h)) (λ k l. before (suc k) (omega (arith, l))) e)
  where
    go : (b : Bool) → bytes_eq name x ≡ b → place_of xs name ≡ i → cond b 0 (suc (place_of xs name)) ≡ suc i
    go true is rest = absurd (before 0 (omega arith) (sym ((bytes_eq-Decides name x).0 is)))
    go false is rest = ap suc rest

-- none has it
pub place_past : (names : List (List ℕ)) (name : List ℕ) → ((k : ℕ) → k < length names → get_or names k [] ≢ name)
    → place_of names name ≡ length names
unfolding place_of
place_past [] name none = refl
place_past (x ∷ xs) name none = go (bytes_eq name x) refl (place_past xs name (λ k l. none (suc k) (omega (arith, l))))
  where
    go : (b : Bool) → bytes_eq name x ≡ b → place_of xs name ≡ length xs → cond b 0 (suc (place_of xs name)) ≡ suc (length xs)
    go true is rest = absurd (none 0 (omega arith) (sym ((bytes_eq-Decides name x).0 is)))
    go false is rest = ap suc rest

one_more : (b n : ℕ) → suc b * n ≡ n + b * n
one_more b n = omega arith

within : (a b n p : ℕ) → a < b → p < n → a * n + p < b * n
within a zero n p h k = absurd (omega (arith, h))
within a (suc b) n p h k = ⊎_elim
    (λ l. omega (arith, within a b n p l k, one_more b n))
    (λ g. let same : a ≡ b = omega (arith, h, g) in omega (arith, k, one_more b n, ap (λ m. m * n) same))
    (cases_lt a b)

-- a page of a layer that is there has a bit
pub page_within : (names : List (List ℕ)) (name : List ℕ) (pages page : ℕ) → Contains names name → page < pages
    → place_of names name * pages + page < length names * pages
page_within names name pages page there h = within (place_of names name) (length names) pages page (placed names name there) h
