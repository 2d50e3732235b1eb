-- What is kept of a tree's shape when a layer is put in another's place, or taken out.
use Rattle.std.proofs.Common.{◌≡◌, ◌≢◌, inl, inr, ⊎_elim, ℕ, List, [], ◌∷◌, ◌++◌, Option, None, Some, sym, refl, ap, ◌∙◌, subst}
use Rattle.layer_chain.specs.Layers.{HasNo, Has, IsAbove, StandsOn, HasNoChild, IsTree}

module _ {X : Type 0} (name_of : X → List ℕ) (parent_of : X → Option (List ℕ)) where
  abbrev No : List ℕ → List X → Type 0
  No = HasNo name_of parent_of

  abbrev In : List ℕ → List X → Type 0
  In = Has name_of parent_of

  abbrev Childless : List ℕ → List X → Type 0
  Childless = HasNoChild name_of parent_of

  abbrev Above : Option (List ℕ) → List X → Type 0
  Above = IsAbove name_of parent_of

  abbrev On : Option (List ℕ) → List X → Type 0
  On = StandsOn name_of parent_of

  abbrev Tree : List X → Type 0
  Tree = IsTree name_of parent_of

  pub apart : (n m : List ℕ) (xs : List X) → No n xs → In m xs → m ≢ n
  apart n m [] absent there = absurd there
  apart n m (x ∷ xs) absent there = ⊎_elim (λ e f. absent.0 (e ∙ f)) (λ t. apart n m xs absent.1 t) there

  pub no_front : (n : List ℕ) (xs ys : List X) → No n (xs ++ ys) → No n xs
  no_front n [] ys h = tt
  no_front n (x ∷ xs) ys h = (h.0, no_front n xs ys h.1)

  pub no_back : (n : List ℕ) (xs ys : List X) → No n (xs ++ ys) → No n ys
  no_back n [] ys h = h
  no_back n (x ∷ xs) ys h = no_back n xs ys h.1

  pub no_append : (n : List ℕ) (xs ys : List X) → No n xs → No n ys → No n (xs ++ ys)
  no_append n [] ys h k = k
  no_append n (x ∷ xs) ys h k = (h.0, no_append n xs ys h.1 k)

  pub childless_append : (n : List ℕ) (xs ys : List X) → Childless n xs → Childless n ys → Childless n (xs ++ ys)
  childless_append n [] ys h k = k
  childless_append n (x ∷ xs) ys h k = (h.0, childless_append n xs ys h.1 k)

  pub in_back : (n : List ℕ) (xs ys : List X) → In n ys → In n (xs ++ ys)
  in_back n [] ys h = h
  in_back n (x ∷ xs) ys h = inr (in_back n xs ys h)

  pub on_back : (n : Option (List ℕ)) (xs ys : List X) → On n ys → On n (xs ++ ys)
  on_back None xs ys h = tt
  on_back (Some n) xs ys h = in_back n xs ys h

  pub tree_back : (xs ys : List X) → Tree (xs ++ ys) → Tree ys
  tree_back [] ys t = t
  tree_back (x ∷ xs) ys t = tree_back xs ys t.2

  -- a layer's name is not that of a newer one
  pub named_once : (xs ys : List X) (p : X) → Tree (xs ++ (p ∷ ys)) → No (name_of p) xs
  named_once [] ys p t = tt
  named_once (x ∷ xs) ys p t = ((λ e. (no_back (name_of x) xs (p ∷ ys) t.0).0 (sym e)), named_once xs ys p t.2)

  above_in : (n : List ℕ) (xs ys : List X) → Tree (xs ++ ys) → In n ys → No n xs
  above_in n [] ys t there = tt
  above_in n (x ∷ xs) ys t there = ((λ e. apart (name_of x) n ys (no_back (name_of x) xs ys t.0) there (sym e)), above_in n xs ys t.2 there)

  above_on : (n : Option (List ℕ)) (xs ys : List X) → Tree (xs ++ ys) → On n ys → Above n xs
  above_on None xs ys t there = tt
  above_on (Some n) xs ys t there = above_in n xs ys t there

  -- a layer's parent is not among those newer than the layer
  pub parent_above : (xs ys : List X) (p : X) → Tree (xs ++ (p ∷ ys)) → Above (parent_of p) xs
  parent_above xs ys p t = above_on (parent_of p) xs (p ∷ ys) t (on_back (parent_of p) (p ∷ []) ys (tree_back xs (p ∷ ys) t).1)

  -- no layer stands on itself
  pub parent_other : (ys : List X) (p : X) → Tree (p ∷ ys) → parent_of p ≢ Some (name_of p)
  parent_other ys p t e = apart (name_of p) (name_of p) ys t.0 (subst (λ (n : Option (List ℕ)). On n ys) e t.1) refl

  pub in_without : (n : List ℕ) (xs ys : List X) (p : X) → name_of p ≢ n → In n (xs ++ (p ∷ ys)) → In n (xs ++ ys)
  in_without n [] ys p other there = ⊎_elim (λ e. absurd (other e)) (λ t. t) there
  in_without n (x ∷ xs) ys p other there = ⊎_elim (λ e. inl e) (λ t. inr (in_without n xs ys p other t)) there

  pub on_without : (n : Option (List ℕ)) (xs ys : List X) (p : X) → n ≢ Some (name_of p) → On n (xs ++ (p ∷ ys)) → On n (xs ++ ys)
  on_without None xs ys p other there = tt
  on_without (Some n) xs ys p other there = in_without n xs ys p (λ e. other (ap (λ (m : List ℕ). Some m) (sym e))) there

  no_without : (n : List ℕ) (xs ys : List X) (p : X) → No n (xs ++ (p ∷ ys)) → No n (xs ++ ys)
  no_without n xs ys p h = no_append n xs ys (no_front n xs (p ∷ ys) h) (no_back n xs (p ∷ ys) h).1

  -- a layer on which none stands is taken out
  pub tree_without : (xs ys : List X) (p : X) → Childless (name_of p) xs → Tree (xs ++ (p ∷ ys)) → Tree (xs ++ ys)
  tree_without [] ys p childless t = t.2
  tree_without (x ∷ xs) ys p childless t = (
    no_without (name_of x) xs ys p t.0,
    on_without (parent_of x) xs ys p childless.0 t.1,
    tree_without xs ys p childless.1 t.2,
  )

  no_other : (n : List ℕ) (xs ys : List X) (c d : X) → name_of d ≡ name_of c → No n (xs ++ (c ∷ ys)) → No n (xs ++ (d ∷ ys))
  no_other n [] ys c d e h = ((λ f. h.0 (sym e ∙ f)), h.1)
  no_other n (x ∷ xs) ys c d e h = (h.0, no_other n xs ys c d e h.1)

  pub in_other : (n : List ℕ) (xs ys : List X) (c d : X) → name_of d ≡ name_of c → In n (xs ++ (c ∷ ys)) → In n (xs ++ (d ∷ ys))
  in_other n [] ys c d e h = ⊎_elim (λ f. inl (e ∙ f)) (λ t. inr t) h
  in_other n (x ∷ xs) ys c d e h = ⊎_elim (λ f. inl f) (λ t. inr (in_other n xs ys c d e t)) h

  pub on_other : (n : Option (List ℕ)) (xs ys : List X) (c d : X) → name_of d ≡ name_of c → On n (xs ++ (c ∷ ys)) → On n (xs ++ (d ∷ ys))
  on_other None xs ys c d e h = tt
  on_other (Some n) xs ys c d e h = in_other n xs ys c d e h

  -- a layer of the same name, on a parent that is there, takes another's place
  pub tree_other : (xs ys : List X) (c d : X) → name_of d ≡ name_of c → On (parent_of d) ys → Tree (xs ++ (c ∷ ys)) → Tree (xs ++ (d ∷ ys))
  tree_other [] ys c d e on t = (subst (λ (n : List ℕ). No n ys) (sym e) t.0, on, t.2)
  tree_other (x ∷ xs) ys c d e on t =
      (no_other (name_of x) xs ys c d e t.0, on_other (parent_of x) xs ys c d e t.1, tree_other xs ys c d e on t.2)
