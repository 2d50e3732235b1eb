-- Lists of what is told of layers, in both orders.
use Rattle.std.proofs.Common.{◌≡◌, List, [], ◌∷◌, ◌++◌, map, refl, sym, ap, subst, ◌∙◌, ⊎_elim, arith}
use Rattle.std.specs.Prelude.{Contains, reverse}
use Rattle.std.proofs.lemmas.List.{map-append, reverse-append, length-map, get_or-map}
use Rattle.std.proofs.lemmas.List.Elements.{Contains-push, Contains-append_left}
use Rattle.replica_compare.proofs.OrderLemmas.{among, first_in, later_in}

module _ {X Y : Type 0} (f : X → Y) where
  pub contains_map : (xs : List X) (x : X) → Contains xs x → Contains (map f xs) (f x)
  contains_map xs x c =
      (c.0, omega (arith, c.1, length-map xs f), get_or-map f xs c.0 x (f x) c.1 ∙ ap f c.2)

  -- what stands in a list that is made of another is made of an element
  pub made_of : (xs : List X) (y : Y) → Contains (map f xs) y → (x : X) × Contains xs x × (f x ≡ y)
  made_of [] y c = absurd (omega (arith, c.1))
  made_of (x ∷ xs) y c =
      ⊎_elim (λ (here : f x ≡ y). (x, first_in x xs, here))
      (λ (later : Contains (map f xs) y). let m = made_of xs y later in (m.0, later_in x m.0 xs m.1, m.2))
      (among (f x) y (map f xs) c)

  pub map-reverse : (xs : List X) → map f (reverse xs) ≡ reverse (map f xs)
  map-reverse [] = refl
  map-reverse (x ∷ xs) =
      ap (map f) (reverse-append (x ∷ []) xs) ∙ map-append f (reverse xs) (x ∷ []) ∙ ap (λ l. l ++ f x ∷ []) (map-reverse xs)
      ∙ sym (reverse-append (f x ∷ []) (map f xs))

  pub map-map : {Z : Type 0} (h : Y → Z) (xs : List X) → map h (map f xs) ≡ map (λ x. h (f x)) xs
  map-map h [] = refl
  map-map h (x ∷ xs) = ap (λ l. h (f x) ∷ l) (map-map h xs)

pub in_reversed : {X : Type 0} (xs : List X) (y : X) → Contains xs y → Contains (reverse xs) y
in_reversed [] y c = c
in_reversed (x ∷ xs) y c =
    subst (λ l. Contains l y) (sym (reverse-append (x ∷ []) xs))
    (⊎_elim (λ (here : x ≡ y). subst (Contains (reverse xs ++ x ∷ [])) here (Contains-push (reverse xs) x))
    (λ (older : Contains xs y). Contains-append_left (reverse xs) (x ∷ []) y (in_reversed xs y older))
    (among x y xs c))
