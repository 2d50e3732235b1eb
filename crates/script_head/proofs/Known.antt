-- Facts of which it is known whether they hold.
use Rattle.std.proofs.Common.{◌≡◌, ◌⊎◌, ℕ, zero, suc, ◌<◌, ◌≤◌, Bool, true, false, List, [], ◌∷◌, ◌++◌, All, Option}
use Rattle.std.proofs.Common.{Some, None, Decides, bytes_eq, option_and_then, inl, inr, refl, sym, subst, arith}
use Rattle.std.proofs.lemmas.Bool.{cases_lt, cases_eq, true≢false}
use Rattle.std.proofs.lemmas.List.Elements.{All-nil, All-cons, All-head, All-tail}
use Rattle.std.proofs.lemmas.Slice.Eq.{bytes_eq-Decides}
use Rattle.serde_json.specs.Data.{Data, Items, no_items, item}
use Rattle.serde_json.specs.Find.{as_array}
use Rattle.script_head.specs.Values.{AreItems, HasItems}
use Rattle.script_head.proofs.OneValue.{same_value}

-- the fact holds, or it does not
abbrev pub Known : Type 0 → Type 0
Known P = P ⊎ (P → ⊥)

-- ---- of facts by others

pub known_along : {P Q : Type 0} → (P → Q) → (Q → P) → Known P → Known Q
known_along to back (inl p) = inl (to p)
known_along to back (inr none) = inr (λ q. none (back q))

pub known_both : {P Q : Type 0} → Known P → Known Q → Known (P × Q)
known_both (inl p) (inl q) = inl (p, q)
known_both (inl p) (inr none) = inr (λ both. none both.1)
known_both (inr none) known = inr (λ both. none both.0)

neither : {P Q : Type 0} → (P → ⊥) → (Q → ⊥) → P ⊎ Q → ⊥
neither none nor (inl p) = none p
neither none nor (inr q) = nor q

pub known_either : {P Q : Type 0} → Known P → Known Q → Known (P ⊎ Q)
known_either (inl p) known = inl (inl p)
known_either (inr none) (inl q) = inl (inr q)
known_either (inr none) (inr nor) = inr (neither none nor)

pub known_not : {P : Type 0} → Known P → Known (P → ⊥)
known_not (inl p) = inr (λ none. none p)
known_not (inr none) = inl none

-- ---- of numbers, tests and texts

pub known_less : (m n : ℕ) → Known (m < n)
known_less m n = by_order (cases_lt m n)
  where
    by_order : (m < n) ⊎ (n ≤ m) → Known (m < n)
    by_order (inl less) = inl less
    by_order (inr more) = inr (λ less. omega (arith, less, more))

pub known_most : (m n : ℕ) → Known (m ≤ n)
known_most m n = known_along (λ (less : m < suc n). omega (arith, less)) (λ most. omega (arith, most)) (known_less m (suc n))

pub known_test : {P : Type 0} → (b : Bool) → Decides b P → Known P
known_test true decides = inl (decides.0 refl)
known_test false decides = inr (λ p. true≢false (sym (decides.1 p)))

pub known_true : (b : Bool) → Known (b ≡ true)
known_true b = known_test b ((λ is. is), (λ is. is))

pub known_false : (b : Bool) → Known (b ≡ false)
known_false true = inr (λ is. true≢false is)
known_false false = inl refl

pub known_text : (xs ys : List ℕ) → Known (xs ≡ ys)
known_text xs ys = known_test (bytes_eq xs ys) (bytes_eq-Decides xs ys)

pub known_none : {A : Type 0} → (found : Option A) → Known (found ≡ None)
known_none None = inl refl
known_none (Some a) = inr none
  where
    none : {A : Type 0} {a : A} → Some a ≡ None → ⊥
    none e = cc

-- ---- that something is there

-- what the option holds
pub known_held : {A : Type 0} {P : A → Type 0} → (found : Option A) → ((a : A) → Known (P a)) → Known ((a : A) × (found ≡ Some a) × P a)
known_held None known = inr (λ held. none held.1)
  where
    none : {A : Type 0} {a : A} → None ≡ Some a → ⊥
    none e = cc
known_held {P = P} (Some a) known = known_along (λ p. (a, refl, p)) (λ held. subst P (same_value (Some a) held.1 refl) held.2) (known a)

-- two or three facts of it as one
pub known_two : {A : Type 0} {P Q : A → Type 0} → Known ((a : A) × P a × Q a) → Known ((a : A) × (P a × Q a))
known_two = known_along (λ found. (found.0, (found.1, found.2))) (λ found. (found.0, found.1.0, found.1.1))

pub known_three : {A : Type 0} {P Q R : A → Type 0} → Known ((a : A) × P a × (Q a × R a)) → Known ((a : A) × (P a × Q a × R a))
known_three =
    known_along (λ found. (found.0, (found.1, found.2.0, found.2.1))) (λ found. (found.0, found.1.0, (found.1.1, found.1.2)))

pub known_four : {A : Type 0} {P Q R S : A → Type 0} → Known ((a : A) × P a × (Q a × (R a × S a)))
    → Known ((a : A) × (P a × Q a × R a × S a))
known_four =
    known_along (λ found. (found.0, (found.1, found.2.0, found.2.1.0, found.2.1.1)))
    (λ found. (found.0, found.1.0, (found.1.1, (found.1.2, found.1.3))))

-- one thing at most is so, and more is asked of it
pub known_of_one : {A : Type 0} {P Q : A → Type 0} → ((a b : A) → P a → P b → a ≡ b) → Known ((a : A) × P a) → ((a : A) → Known (Q a))
    → Known ((a : A) × P a × Q a)
known_of_one {Q = Q} one (inl (a, is)) known =
    known_along (λ q. (a, is, q)) (λ other. subst Q (one other.0 a other.1 is) other.2) (known a)
known_of_one one (inr none) known = inr (λ other. none (other.0, other.1))

-- a number below another
pub known_below : {P : ℕ → Type 0} → (most : ℕ) → ((n : ℕ) → Known (P n)) → Known ((n : ℕ) × (n < most) × P n)
known_below zero known = inr (λ found. omega (arith, found.1))
known_below {P = P} (suc most) known = by_cases (known most) (known_below most known)
  where
    by_cases : Known (P most) → Known ((n : ℕ) × (n < most) × P n) → Known ((n : ℕ) × (n < suc most) × P n)
    by_cases (inl last) lower = inl (most, omega arith, last)
    by_cases (inr none) (inl (n, less, is)) = inl (n, omega (arith, less), is)
    by_cases (inr none) (inr lower) = inr (λ found. by_place found (cases_eq found.0 most))
      where
        by_place : (found : (n : ℕ) × (n < suc most) × P n) → (found.0 ≡ most) ⊎ (found.0 ≡ most → ⊥) → ⊥
        by_place found (inl last) = none (subst P last found.2)
        by_place found (inr other) = lower (found.0, omega (arith, found.1, other), found.2)

-- what stands in a text behind a word
pub known_behind : (word text : List ℕ) → Known ((rest : List ℕ) × (text ≡ word ++ rest))
known_behind [] text = inl (text, refl)
known_behind (c ∷ cs) [] = inr (λ found. nothing found.1)
  where
    nothing : {c : ℕ} {cs : List ℕ} → [] ≡ c ∷ cs → ⊥
    nothing e = cc
known_behind (c ∷ cs) (b ∷ bs) =
    known_along (λ both. (both.1.0, ap₂ both.0 both.1.1)) (λ found. (first found.1, (found.0, rest found.1)))
    (known_both (cases_eq b c) (known_behind cs bs))
  where
    ap₂ : {b c : ℕ} {bs cs : List ℕ} → b ≡ c → bs ≡ cs → b ∷ bs ≡ c ∷ cs
    ap₂ p q = cc

    first : {b c : ℕ} {bs cs : List ℕ} → b ∷ bs ≡ c ∷ cs → b ≡ c
    first e = cc

    rest : {b c : ℕ} {bs cs : List ℕ} → b ∷ bs ≡ c ∷ cs → bs ≡ cs
    rest e = cc

-- ---- of lists

pub known_all : {A : Type 0} {P : A → Type 0} → ((a : A) → Known (P a)) → (xs : List A) → Known (All P xs)
known_all {P = P} known [] = inl (All-nil P)
known_all {P = P} known (x ∷ xs) =
    known_along (λ both. All-cons P x xs both.0 both.1) (λ all. (All-head P x xs all, All-tail P x xs all))
    (known_both (known x) (known_all known xs))

-- what the items are
pub known_items : {A : Type 0} (IsItem : Data → A → Type 0) → ((d : Data) → Known ((a : A) × IsItem d a))
    → (items : Items) → Known ((xs : List A) × AreItems IsItem items xs)
known_items IsItem known no_items = inl ([], tt)
known_items {A = A} IsItem known (item d ds) = known_along to back (known_both (known d) (known_items IsItem known ds))
  where
    to : ((a : A) × IsItem d a) × ((xs : List A) × AreItems IsItem ds xs) → (xs : List A) × AreItems IsItem (item d ds) xs
    to ((a, is), (xs, are)) = (a ∷ xs, (is, are))

    back : (xs : List A) × AreItems IsItem (item d ds) xs → ((a : A) × IsItem d a) × ((xs : List A) × AreItems IsItem ds xs)
    back ([], are) = absurd are
    back (a ∷ xs, (is, are)) = ((a, is), (xs, are))

pub known_list : {A : Type 0} (IsItem : Data → A → Type 0) → ((d : Data) → Known ((a : A) × IsItem d a))
    → (value : Option Data) → Known ((xs : List A) × HasItems IsItem value xs)
known_list IsItem known value =
    known_along (λ found. (found.2.0, (found.0, found.1, found.2.1))) (λ found. (found.1.0, found.1.1, (found.0, found.1.2)))
    (known_held (option_and_then as_array value) (known_items IsItem known))
