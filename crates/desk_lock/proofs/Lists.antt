-- Lists of entries, and of views.
use Rattle.std.proofs.Common.{◌≡◌, ◌≢◌, ℕ, zero, suc, ◌+◌, ◌<◌, ◌≤◌, Bool, false, cond, List, [], ◌∷◌, ◌++◌, length}
use Rattle.std.proofs.Common.{set, Option, Some, None, refl, sym, ap, ◌∙◌, subst, ◌⊎◌, inl, inr, ⊎_elim, arith}
use Rattle.std.proofs.Common.{append_assoc, append-nil, length-append, ne_eqb}
use Rattle.std.proofs.lemmas.List.Elements.{filter-append}
use mathlib.Core.Option.{some, some-injective, some-ne-none}
use lib.ListN.{get_elem?}
use Rattle.atomic_table.proofs.Lists.{at_set}
use Rattle.desk_lock.specs.declared.views.Known.{Known}
use Rattle.desk_lock.specs.declared.views.View.{View}
use Rattle.desk_lock.specs.declared.views.View.TheVariants.{Spent, Knows}
use Rattle.desk_lock.specs.declared.views.Stage.{Stage}
use Rattle.desk_lock.specs.declared.views.Stage.TheVariants.{Idle, Waits, Holds, Back}
use Rattle.desk_lock.specs.Account.{Account, is_stream, MayAdd, Each, BeginsWith, entries_of}
use Rattle.desk_lock.specs.Rule.{ticket, has_ticket, out_of, outs, Says, SaysAt}

module _ {Entry : Type 0} where
  pub begins_self : (xs : List Entry) → BeginsWith xs xs
  begins_self xs = ([], sym (append-nil xs))

  -- what begins with b, where b begins with a, begins with a
  pub begins_trans : (a b c : List Entry) → BeginsWith c b → BeginsWith b a → BeginsWith c a
  begins_trans a b c p q = (q.0 ++ p.0, p.1 ∙ (ap (λ z. z ++ p.0) q.1 ∙ append_assoc a q.0 p.0))

  -- what begins with a is no shorter
  pub begins_longer : (a b : List Entry) → BeginsWith b a → length a ≤ length b
  begins_longer a b p = let e = ap length p.1 ∙ length-append a p.0 in omega arith

-- what the seat with this number may add is nothing of another stream
not_of : (number : Option ℕ) (n : ℕ) → number ≢ Some n → (by : Option ℕ) → MayAdd number by → is_stream n by ≡ false
not_of number n other None may = refl
not_of number n other (Some m) may = ne_eqb n m (λ e. other (may ∙ ap Some (sym e)))

module _ {S Entry OpenCall Origin : Type 0} (account : Account S Entry OpenCall Origin) where
  pub entries_of-append : (n : ℕ) (xs ys : List Entry) → entries_of account n (xs ++ ys) ≡ entries_of account n xs
      ++ entries_of account n ys
  entries_of-append n xs ys = filter-append (λ e. is_stream n (account.stream_of e)) xs ys

  pub entries_of-others : (number : Option ℕ) (n : ℕ) → number ≢ Some n → (es : List Entry)
      → Each (λ e. MayAdd number (account.stream_of e)) es
      → entries_of account n es ≡ []
  entries_of-others number n other [] may = refl
  entries_of-others number n other (e ∷ es) may =
      ap (λ (b : Bool). cond b (e ∷ entries_of account n es) (entries_of account n es)) (not_of number n other (account.stream_of e) may.0)
      ∙ entries_of-others number n other es may.1

pub Each-map : {A : Type 0} (P Q : A → Type 0) → ((x : A) → P x → Q x) → (xs : List A) → Each P xs → Each Q xs
Each-map P Q f [] h = tt
Each-map P Q f (x ∷ xs) h = (f x h.0, Each-map P Q f xs h.1)

pub Each-all : {A : Type 0} (P : A → Type 0) → ((x : A) → P x) → (xs : List A) → Each P xs
Each-all P f [] = tt
Each-all P f (x ∷ xs) = (f x, Each-all P f xs)

pub Each-zip : {A : Type 0} (P Q T : A → Type 0) → ((x : A) → P x → Q x → T x) → (xs : List A) → Each P xs → Each Q xs → Each T xs
Each-zip P Q T f [] h g = tt
Each-zip P Q T f (x ∷ xs) h g = (f x h.0 g.0, Each-zip P Q T f xs h.1 g.1)

pub Each-set : {A : Type 0} (P : A → Type 0) (xs : List A) (i : ℕ) (a : A) → Each P xs → P a → Each P (set xs i a)
Each-set P [] i a h p = tt
Each-set P (x ∷ xs) zero a h p = (p, h.1)
Each-set P (x ∷ xs) (suc i) a h p = (h.0, Each-set P xs i a h.1 p)

pub Each-snoc : {A : Type 0} (P : A → Type 0) (xs : List A) (a : A) → Each P xs → P a → Each P (xs ++ a ∷ [])
Each-snoc P [] a h p = (p, tt)
Each-snoc P (x ∷ xs) a h p = (h.0, Each-snoc P xs a h.1 p)

pub Each-at : {A : Type 0} (P : A → Type 0) (xs : List A) (i : ℕ) (a : A) → Each P xs → get_elem? xs i ≡ some a → P a
Each-at P [] i a h e = absurd (some-ne-none a (sym e))
Each-at P (x ∷ xs) zero a h e = subst P (some-injective x a e) h.0
Each-at P (x ∷ xs) (suc i) a h e = Each-at P xs i a h.1 e

has_ticket-le : (st : Stage) → has_ticket st ≤ 1
has_ticket-le Idle = omega arith
has_ticket-le (Waits a) = omega arith
has_ticket-le (Holds a) = omega arith
has_ticket-le (Back a) = omega arith

pub at_below : {A : Type 0} (l : List A) (i : ℕ) (a : A) → get_elem? l i ≡ some a → i < length l
at_below [] i a e = absurd (some-ne-none a (sym e))
at_below (x ∷ xs) zero a e = omega arith
at_below (x ∷ xs) (suc i) a e = let r = at_below xs i a e in omega arith

-- the last of a longer list stands at the other's length
pub at_end : {A : Type 0} (l : List A) (a b : A) (j : ℕ) → get_elem? (l ++ a ∷ []) j ≡ some b → (get_elem? l j ≡ some b)
    ⊎ ((j ≡ length l) × (a ≡ b))
at_end [] a b zero e = inr (refl, some-injective a b e)
at_end [] a b (suc j) e = absurd (some-ne-none b (sym e))
at_end (x ∷ xs) a b zero e = inl e
at_end (x ∷ xs) a b (suc j) e = ⊎_elim inl (λ (t : (j ≡ length xs) × (a ≡ b)). inr (ap suc t.0, t.1)) (at_end xs a b j e)

module _ {S : Type 0} where
  pub outs-set : (l : List (View S)) (i : ℕ) (v w : View S) → get_elem? l i ≡ some v → outs (set l i w) + out_of v ≡ outs l + out_of w
  outs-set [] i v w e = absurd (some-ne-none v (sym e))
  outs-set (x ∷ xs) zero v w e = let is : out_of x ≡ out_of v = ap out_of (some-injective x v e) in omega arith
  outs-set (x ∷ xs) (suc i) v w e = let r = outs-set xs i v w e in omega arith

  pub outs-snoc : (l : List (View S)) (w : View S) → out_of w ≡ 0 → outs (l ++ w ∷ []) ≡ outs l
  outs-snoc [] w e = omega arith
  outs-snoc (x ∷ xs) w e = ap (λ (n : ℕ). out_of x + n) (outs-snoc xs w e)

  out_of-le : (v : View S) → out_of v ≤ 1
  out_of-le Spent = omega arith
  out_of-le (Knows v told) = has_ticket-le v.stage

  pub outs-le : (l : List (View S)) → outs l ≤ length l
  outs-le [] = omega arith
  outs-le (x ∷ xs) = let a = out_of-le x in let b = outs-le xs in omega arith

  -- what the view says at a place of a list in which one view was set: it is that one, or stands in the list before
  set_says : (vs : List (View S)) (me j : ℕ) (w : View S) (v : Known S) → SaysAt (set vs me w) j v
      → ((j ≡ me) × Says w v) ⊎ ((j ≢ me) × SaysAt vs j v)
  set_says vs me j w v e = ⊎_elim
      (λ (t : (j ≡ me) × (w ≡ Knows v e.0)). inl (t.0, (e.0, t.1)))
      (λ (t : (j ≢ me) × (get_elem? vs j ≡ some (Knows v e.0))). inr (t.0, (e.0, t.1)))
      (at_set vs me j w (Knows v e.0) e.1)

  -- the same of a list that is one longer
  pub end_says : (vs : List (View S)) (j : ℕ) (w : View S) (v : Known S) → SaysAt (vs ++ w ∷ []) j v
      → SaysAt vs j v ⊎ ((j ≡ length vs) × Says w v)
  end_says vs j w v e = ⊎_elim
      (λ (t : get_elem? vs j ≡ some (Knows v e.0)). inl (e.0, t))
      (λ (t : (j ≡ length vs) × (w ≡ Knows v e.0)). inr (t.0, (e.0, t.1)))
      (at_end vs w (Knows v e.0) j e.1)

  -- a fact about each seat's view stays when one view changes
  pub seats_stay : (K : ℕ → Known S → Type 0) (vs : List (View S)) (me : ℕ) (w : View S) → ((v : Known S) → Says w v → K me v)
      → ((j : ℕ) (v : Known S) → j ≢ me → SaysAt vs j v → K j v)
      → (j : ℕ) (v : Known S) → SaysAt (set vs me w) j v → K j v
  seats_stay K vs me w mine others j v e = ⊎_elim
      (λ (t : (j ≡ me) × Says w v). subst (λ (x : ℕ). K x v) (sym t.0) (mine v t.1))
      (λ (t : (j ≢ me) × SaysAt vs j v). others j v t.0 t.1)
      (set_says vs me j w v e)

  abbrev pub Apart : List (View S) → Type 0
  Apart vs = (i j : ℕ) (v w : Known S) (a : ℕ) → SaysAt vs i v → SaysAt vs j w
      → ticket v.stage ≡ Some a → ticket w.stage ≡ Some a → i ≡ j

  -- one seat's ticket becomes one that no other has
  pub apart_stays : (vs : List (View S)) (me : ℕ) (w : View S) → Apart vs
      → ((x u : Known S) (a j : ℕ) → Says w x → ticket x.stage ≡ Some a → j ≢ me → SaysAt vs j u
      → ticket u.stage ≡ Some a → ⊥)
      → Apart (set vs me w)
  apart_stays vs me w was new i j v u a at bt vt ut = ⊎_elim
      (λ (t : (i ≡ me) × Says w v). ⊎_elim
      (λ (q : (j ≡ me) × Says w u). t.0 ∙ sym q.0)
      (λ (q : (j ≢ me) × SaysAt vs j u). absurd (new v u a j t.1 vt q.0 q.1 ut))
      (set_says vs me j w u bt))
      (λ (t : (i ≢ me) × SaysAt vs i v). ⊎_elim
      (λ (q : (j ≡ me) × Says w u). absurd (new u v a i q.1 ut t.0 t.1 vt))
      (λ (q : (j ≢ me) × SaysAt vs j u). was i j v u a t.1 q.1 vt ut)
      (set_says vs me j w u bt))
      (set_says vs me i w v at)

  pub apart_snoc : (vs : List (View S)) (w : View S) → Apart vs → ((x : Known S) → Says w x → ticket x.stage ≡ None)
      → Apart (vs ++ w ∷ [])
  apart_snoc vs w was none i j v u a at bt vt ut = ⊎_elim
      (λ (p : SaysAt vs i v). ⊎_elim (λ (q : SaysAt vs j u). was i j v u a p q vt ut)
      (λ (q : (j ≡ length vs) × Says w u). let e : None ≡ Some a = sym (none u q.1) ∙ ut in absurd (cc)) (end_says vs j w u bt))
      (λ (p : (i ≡ length vs) × Says w v). let e : None ≡ Some a = sym (none v p.1) ∙ vt in absurd (cc))
      (end_says vs i w v at)
