-- The names of what stands on a layer, and the places of these layers.
use Rattle.std.proofs.Common.{◌≡◌, ◌≢◌, ◌⊎◌, inl, inr, ⊎_elim, ℕ, ◌<◌, zero, suc, Bool, true, false, cond, List, []}
use Rattle.std.proofs.Common.{◌∷◌, length, map, Option, None, Some, sym, refl, ap, ◌∙◌, subst, arith}
use Rattle.std.specs.Str.{bytes_eq}
use Rattle.std.proofs.lemmas.Bool.{false_from_ne_true, false≢true}
use Rattle.std.proofs.lemmas.Slice.Eq.{bytes_eq-Decides}
use Rattle.layer_chain.specs.Tree.{name_of, parent_of, layer_at}
use Rattle.layer_chain.specs.declared.layer.Layer.{Layer}
use Rattle.volume_model.specs.Purge.{children_of}
use Rattle.vol_units.specs.Chain.{is_named}
use Rattle.volume_model.specs.Snapshots.{Snapshot}
use Rattle.coalesce.specs.Folding.{snapshot_of}

-- the snapshots of these layers
abbrev pub told : List Layer → List Snapshot
told xs = map (λ (l : Layer). snapshot_of l.meta) xs

-- ---- the tests of a name, and of a parent's

pub same_name : (n : List ℕ) → bytes_eq n n ≡ true
same_name n = (bytes_eq-Decides n n).1 refl

pub other_name : (n m : List ℕ) → m ≢ n → bytes_eq n m ≡ false
other_name n m h = false_from_ne_true (bytes_eq n m) (λ t. h (sym ((bytes_eq-Decides n m).0 t)))

named_is : (parent : Option (List ℕ)) (p : List ℕ) → is_named parent p ≡ true → parent ≡ Some p
named_is None p e = absurd (false≢true e)
named_is (Some n) p e = ap (λ (m : List ℕ). Some m) ((bytes_eq-Decides n p).0 e)

is_named-yes : (parent : Option (List ℕ)) (p : List ℕ) → parent ≡ Some p → is_named parent p ≡ true
is_named-yes parent p e = ap (λ (n : Option (List ℕ)). is_named n p) e ∙ same_name p

is_named-no : (parent : Option (List ℕ)) (p : List ℕ) → parent ≢ Some p → is_named parent p ≡ false
is_named-no parent p n = false_from_ne_true (is_named parent p) (λ e. n (named_is parent p e))

-- ---- from the names to the places

abbrev In : List ℕ → List (List ℕ) → Type 0
In n [] = ⊥
In n (m ∷ ms) = (m ≡ n) ⊎ In n ms

in_more : (n m : List ℕ) (ms : List (List ℕ)) (b : Bool) → In n ms → In n (cond b (m ∷ ms) ms)
in_more n m ms true h = inr h
in_more n m ms false h = h

in_first : (m : List ℕ) (ms : List (List ℕ)) (b : Bool) → b ≡ true → In m (cond b (m ∷ ms) ms)
in_first m ms true e = inl refl
in_first m ms false e = absurd (false≢true e)

-- what stands on the name is one of its children
in_children : (xs : List Layer) (p : List ℕ) (i : ℕ) → i < length xs → parent_of (layer_at xs i) ≡ Some p
    → In (name_of (layer_at xs i)) (children_of (told xs) p)
in_children [] p i h e = absurd (omega arith)
in_children (x ∷ xs) p zero h e = in_first (name_of x) (children_of (told xs) p) (is_named (parent_of x) p) (is_named-yes (parent_of x) p e)
in_children (x ∷ xs) p (suc i) h e = in_more (name_of (layer_at xs i)) (name_of x) (children_of (told xs) p)
    (is_named (parent_of x) p) (in_children xs p i (omega arith) e)

-- a layer of that name, on p
pub record ChildAt (xs : List Layer) (p c : List ℕ) : Type 0 where
  pub place : ℕ
  pub within : place < length xs
  pub on : parent_of (layer_at xs place) ≡ Some p
  pub named : name_of (layer_at xs place) ≡ c

behind : (x : Layer) (xs : List Layer) (p c : List ℕ) → ChildAt xs p c → ChildAt (x ∷ xs) p c
behind x xs p c a = record { place = suc a.place; within = omega (arith, a.within); on = a.on; named = a.named }

child_among : (x : Layer) (xs : List Layer) (p c : List ℕ) (b : Bool) → is_named (parent_of x) p ≡ b
    → (In c (children_of (told xs) p) → ChildAt xs p c)
    → In c (cond b (name_of x ∷ children_of (told xs) p) (children_of (told xs) p)) → ChildAt (x ∷ xs) p c
child_among x xs p c true is more h =
    ⊎_elim
    (λ e. record { place = zero; within = omega arith; on = named_is (parent_of x) p is; named = e })
    (λ t. behind x xs p c (more t))
    h
child_among x xs p c false is more h = behind x xs p c (more h)

child_at : (xs : List Layer) (p c : List ℕ) → In c (children_of (told xs) p) → ChildAt xs p c
child_at [] p c h = absurd h
child_at (x ∷ xs) p c h = child_among x xs p c (is_named (parent_of x) p) refl (child_at xs p c) h

module _ (xs : List Layer) (p : List ℕ) where
  -- where c alone stands on p, it is a layer, and every layer on p has that name
  pub child_named : (c : List ℕ) → children_of (told xs) p ≡ c ∷ [] → ChildAt xs p c
  child_named c is = child_at xs p c (subst (λ (ms : List (List ℕ)). In c ms) (sym is) (inl refl))

  pub child_only : (c : List ℕ) → children_of (told xs) p ≡ c ∷ [] → (i : ℕ) → i < length xs
      → parent_of (layer_at xs i) ≡ Some p → name_of (layer_at xs i) ≡ c
  child_only c is i h e =
      ⊎_elim
      (λ m. sym m)
      (λ none. absurd none)
      (subst (λ (ms : List (List ℕ)). In (name_of (layer_at xs i)) ms) is (in_children xs p i h e))

  -- where none stands on p, no layer has it as its parent
  pub child_none : children_of (told xs) p ≡ [] → (i : ℕ) → i < length xs → parent_of (layer_at xs i) ≢ Some p
  child_none is i h e = subst (λ (ms : List (List ℕ)). In (name_of (layer_at xs i)) ms) is (in_children xs p i h e)

-- ---- from the places to the names

pub children_none : (xs : List Layer) (p : List ℕ) → ((i : ℕ) → i < length xs → parent_of (layer_at xs i) ≢ Some p)
    → children_of (told xs) p ≡ []
children_none [] p none = refl
children_none (x ∷ xs) p none =
    ap (λ b. cond b (name_of x ∷ children_of (told xs) p) (children_of (told xs) p)) (is_named-no (parent_of x) p (none zero (omega arith)))
    ∙ children_none xs p (λ i h. none (suc i) (omega arith))

pub children_one : (xs : List Layer) (p : List ℕ) (j : ℕ) → j < length xs → parent_of (layer_at xs j) ≡ Some p
    → ((i : ℕ) → i < length xs → parent_of (layer_at xs i) ≡ Some p → i ≡ j)
    → children_of (told xs) p ≡ name_of (layer_at xs j) ∷ []
children_one [] p j h e only = absurd (omega arith)
children_one (x ∷ xs) p zero h e only =
    ap (λ b. cond b (name_of x ∷ children_of (told xs) p) (children_of (told xs) p)) (is_named-yes (parent_of x) p e)
    ∙ ap (λ (ms : List (List ℕ)). name_of x ∷ ms)
    (children_none xs p (λ i l f. let same : suc i ≡ zero = only (suc i) (omega arith) f in absurd (omega arith)))
children_one (x ∷ xs) p (suc j) h e only =
    ap (λ b. cond b (name_of x ∷ children_of (told xs) p) (children_of (told xs) p))
    (is_named-no (parent_of x) p (λ f. let same : zero ≡ suc j = only zero (omega arith) f in absurd (omega arith)))
    ∙ children_one xs p j (omega arith) e (λ i l f. let same : suc i ≡ suc j = only (suc i) (omega arith) f in omega arith)
