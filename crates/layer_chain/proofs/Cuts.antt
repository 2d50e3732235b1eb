-- A list cut at one place, and at two.
use Rattle.std.proofs.Common.{◌≡◌, ◌≢◌, ℕ, ◌<◌, zero, suc, List, [], ◌∷◌, ◌++◌, length, get_or, set, sym, refl, ap, ◌∙◌, arith}
use Rattle.std.specs.List.{AllByRecursion, remove}

-- the list at one place: what comes before and after, and what a write and a removal there leave
pub record CutAt {X : Type 0} (xs : List X) (i : ℕ) (d : X) : Type 0 where
  pub before : List X
  pub after : List X
  pub is : xs ≡ before ++ (get_or xs i d ∷ after)
  pub with_other : (a : X) → set xs i a ≡ before ++ (a ∷ after)
  pub without : remove xs i ≡ before ++ after

pub cut_at : {X : Type 0} (xs : List X) (i : ℕ) (d : X) → i < length xs → CutAt xs i d
cut_at [] i d h = absurd (omega arith)
cut_at (x ∷ xs) zero d h = record { before = []; after = xs; is = refl; with_other = λ a. refl; without = refl }
cut_at (x ∷ xs) (suc i) d h =
    let rest : CutAt xs i d = cut_at xs i d (omega arith) in
    record {
      before = x ∷ rest.before;
      after = rest.after;
      is = ap (λ ys. x ∷ ys) rest.is;
      with_other =
          λ a. ap (λ ys. x ∷ ys) (rest.with_other a);
      without = ap (λ ys. x ∷ ys) rest.without;
    }

-- the list at two places
pub record CutTwo {X : Type 0} (xs : List X) (i j : ℕ) (d : X) : Type 0 where
  pub before : List X
  pub between : List X
  pub after : List X
  pub is : xs ≡ before ++ (get_or xs i d ∷ (between ++ (get_or xs j d ∷ after)))
  pub with_others : (a b : X) → set (set xs i a) j b ≡ before ++ (a ∷ (between ++ (b ∷ after)))
  pub without_one : (a : X) → remove (set xs i a) j ≡ before ++ (a ∷ (between ++ after))
  pub set_without : (a : X) → set (remove xs j) i a ≡ before ++ (a ∷ (between ++ after))
  pub without_first : remove xs i ≡ before ++ (between ++ (get_or xs j d ∷ after))
  pub place : length before ≡ i

pub cut_two : {X : Type 0} (xs : List X) (i j : ℕ) (d : X) → i < j → j < length xs → CutTwo xs i j d
cut_two [] i j d h l = absurd (omega arith)
cut_two (x ∷ xs) i zero d h l = absurd (omega arith)
cut_two (x ∷ xs) zero (suc j) d h l =
    let rest : CutAt xs j d = cut_at xs j d (omega arith) in
    record {
      before = [];
      between = rest.before;
      after = rest.after;
      is = ap (λ ys. x ∷ ys) rest.is;
      with_others = λ a b. ap (λ ys. a ∷ ys) (rest.with_other b);
      without_one = λ a. ap (λ ys. a ∷ ys) rest.without;
      set_without = λ a. ap (λ ys. a ∷ ys) rest.without;
      without_first = rest.is;
      place = refl;
    }
cut_two (x ∷ xs) (suc i) (suc j) d h l =
    let rest : CutTwo xs i j d = cut_two xs i j d (omega arith) (omega arith) in
    record {
      before = x ∷ rest.before;
      between = rest.between;
      after = rest.after;
      is = ap (λ ys. x ∷ ys) rest.is;
      with_others = λ a b. ap (λ ys. x ∷ ys) (rest.with_others a b);
      without_one = λ a. ap (λ ys. x ∷ ys) (rest.without_one a);
      set_without = λ a. ap (λ ys. x ∷ ys) (rest.set_without a);
      without_first = ap (λ ys. x ∷ ys) rest.without_first;
      place = ap suc rest.place;
    }

pub set_then_remove : {X : Type 0} (xs : List X) (i j : ℕ) (a : X) → i < j → j < length xs → set (remove xs j) i a ≡ remove (set xs i a) j
set_then_remove xs i j a h l = (cut_two xs i j a h l).set_without a ∙ sym ((cut_two xs i j a h l).without_one a)

-- what holds at each place before a cut holds of each element there
pub each_before : {X : Type 0} (P : X → Type 0) (xs : List X) (i : ℕ) (d : X) (h : i < length xs)
    → ((k : ℕ) → k < i → P (get_or xs k d)) → AllByRecursion P (cut_at xs i d h).before
unfolding cut_at
each_before P [] i d h f = absurd (omega arith)
each_before P (x ∷ xs) zero d h f = tt
each_before P (x ∷ xs) (suc i) d h f = (f zero (omega arith), each_before P xs i d (omega arith) (λ k l. f (suc k) (omega arith)))

pub each_other : {X : Type 0} (P : X → Type 0) (xs : List X) (i j : ℕ) (d : X) (h : i < j) (l : j < length xs)
    → ((k : ℕ) → k < j → k ≢ i → P (get_or xs k d)) → AllByRecursion P (cut_two xs i j d h l).before
    × AllByRecursion P (cut_two xs i j d h l).between
unfolding cut_two
each_other P [] i j d h l f = absurd (omega arith)
each_other P (x ∷ xs) i zero d h l f = absurd (omega arith)
each_other P (x ∷ xs) zero (suc j) d h l f = (tt, each_before P xs j d (omega arith) (λ k m. f (suc k) (omega arith) (omega arith)))
each_other P (x ∷ xs) (suc i) (suc j) d h l f =
    let rest : AllByRecursion P (cut_two xs i j d (omega arith) (omega arith)).before
    × AllByRecursion P (cut_two xs i j d (omega arith) (omega arith)).between =
    each_other P xs i j d (omega arith) (omega arith) (λ k m n. f (suc k) (omega arith) (omega arith)) in
    ((f zero (omega arith) (omega arith), rest.0), rest.1)
