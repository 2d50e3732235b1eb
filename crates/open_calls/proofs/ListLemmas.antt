-- Reading a list after one place was set, one element pushed, or one taken out.
use Rattle.std.proofs.Common.{◌≡◌, ◌≢◌, ℕ, ◌+◌, ◌-◌, ◌<◌, ◌≤◌, ⊎_elim, cond, ltb, List, [], ◌∷◌, ◌++◌, length, get_or}
use Rattle.std.proofs.Common.{set, get_or-set_same, get_or-set_other, subst, sym, ap, ◌∙◌, arith}
use Rattle.std.specs.List.{remove}
use Rattle.std.proofs.lemmas.Bool.{cases_eq, cases_lt}
use Rattle.std.proofs.lemmas.Bool.Decides.{nat_tests}
use Rattle.std.proofs.lemmas.List.{get_or_append_left, get_or_push, length_push}
use Rattle.std.proofs.lemmas.List.Edits.{get_or-remove_below, get_or-remove_above}

-- ---- one place was set

-- what holds of the element at j
pub at_set : {X : Type 0} (P : X → Type 0) (xs : List X) (i j : ℕ) (x d : X) → i < length xs → (j ≡ i → P x) → (j ≢ i → P (get_or xs j d))
    → P (get_or (set xs i x) j d)
at_set P xs i j x d h same other =
    ⊎_elim
    (λ e. subst P (sym (ap (λ n. get_or (set xs i x) n d) e ∙ get_or-set_same xs i x d h)) (same e))
    (λ n. subst P (sym (get_or-set_other xs i j x d n)) (other n))
    (cases_eq j i)

-- and of it and its place
pub each_set : {X : Type 0} (Q : ℕ → X → Type 0) (xs : List X) (i j : ℕ) (x d : X) → i < length xs → Q i x → (j ≢ i → Q j (get_or xs j d))
    → Q j (get_or (set xs i x) j d)
each_set Q xs i j x d h here other = at_set (Q j) xs i j x d h (λ e. subst (λ (n : ℕ). Q n x) (sym e) here) other

-- ---- one element was pushed

pub at_push : {X : Type 0} (P : X → Type 0) (xs : List X) (x : X) (j : ℕ) (d : X) → j < length (xs ++ x ∷ [])
    → (j < length xs → P (get_or xs j d)) → (j ≡ length xs → P x)
    → P (get_or (xs ++ x ∷ []) j d)
at_push P xs x j d h old new =
    ⊎_elim
    (λ l. subst P (sym (get_or_append_left xs (x ∷ []) d j l)) (old l))
    (λ l. let e : j ≡ length xs = omega (arith, length_push xs x) in subst P (sym (get_or_push xs x d j (sym e))) (new e))
    (cases_lt j (length xs))

-- ---- one element was taken out

-- where the j-th of the elements but the one at i stood
unfoldable pub skip : ℕ → ℕ → ℕ
skip i j = cond (ltb j i) j (j + 1)

skip_below : (i j : ℕ) → j < i → skip i j ≡ j
unfolding skip
skip_below i j h = grind (arith, nat_tests)

skip_above : (i j : ℕ) → i ≤ j → skip i j ≡ j + 1
unfolding skip
skip_above i j h = grind (arith, nat_tests)

pub get_or-remove : {X : Type 0} (xs : List X) (i j : ℕ) (d : X) → i < length xs → get_or (remove xs i) j d ≡ get_or xs (skip i j) d
get_or-remove xs i j d h =
    ⊎_elim
    (λ l. get_or-remove_below xs i d j l h ∙ ap (λ n. get_or xs n d) (sym (skip_below i j l)))
    (λ l. get_or-remove_above xs i d j l h ∙ ap (λ n. get_or xs n d) (sym (skip_above i j l)))
    (cases_lt j i)

pub skip-other : (i j : ℕ) → skip i j ≢ i
skip-other i j = ⊎_elim (λ l e. omega (arith, skip_below i j l)) (λ l e. omega (arith, skip_above i j l)) (cases_lt j i)

pub skip-in : (i j n : ℕ) → j + 1 < n → skip i j < n
skip-in i j n h = ⊎_elim (λ l. omega (arith, skip_below i j l)) (λ l. omega (arith, skip_above i j l)) (cases_lt j i)

pub skip-more : (i a b : ℕ) → a < b → skip i a < skip i b
skip-more i a b h =
    ⊎_elim
    (λ l. ⊎_elim (λ m. omega (arith, skip_below i a l, skip_below i b m))
    (λ m. omega (arith, skip_below i a l, skip_above i b m)) (cases_lt b i))
    (λ l. omega (arith, skip_above i a l, skip_above i b (omega arith)))
    (cases_lt a i)

-- each place but i is one where another stood
pub skip-hit : (i j n : ℕ) → j ≢ i → j < n → i < n → (m : ℕ) × (m + 1 < n) × (skip i m ≡ j)
skip-hit i j n h l k =
    ⊎_elim
    (λ b. (j, omega arith, skip_below i j b))
    (λ b. (j - 1, omega arith, skip_above i (j - 1) (omega arith) ∙ omega arith))
    (cases_lt j i)
