-- A tree that is made anew, layer by layer from the oldest.
use Rattle.std.proofs.Common.{◌≡◌, ℕ, zero, suc, ◌<◌, List, [], ◌∷◌, length, drop, Option, None, Some, inl, inr, sym, ap, ◌∙◌, arith}
use Rattle.layer_chain.specs.Tree.{name_of, parent_of, layer_at, IsLayers, IsNew, IsThere}
use Rattle.layer_chain.specs.Changes.{metas_in}
use Rattle.layer_chain.specs.declared.layer.Layer.{Layer}
use Rattle.layer_chain.specs.declared.layer.LayerMeta.{LayerMeta}

first : (x y : Layer) (xs ys : List Layer) → metas_in (y ∷ ys) ≡ metas_in (x ∷ xs) → (y.meta ≡ x.meta) × (metas_in ys ≡ metas_in xs)
first x y xs ys e = (cc, cc)

-- layers that are told alike have the same names
pub new_alike : (xs ys : List Layer) (name : List ℕ) → metas_in ys ≡ metas_in xs → IsNew name xs → IsNew name ys
new_alike xs [] name e new = tt
new_alike [] (y ∷ ys) name e new = absurd (cc)
new_alike (x ∷ xs) (y ∷ ys) name e new =
    let f = first x y xs ys e in
    (λ same. new.0 (sym (ap (λ m. m.name) f.0) ∙ same), new_alike xs ys name f.1 new.1)

pub there_alike : (xs ys : List Layer) (on : Option (List ℕ)) → metas_in ys ≡ metas_in xs → IsThere on xs → IsThere on ys
there_alike xs ys None e there = tt
there_alike [] ys (Some name) e there = absurd there
there_alike (x ∷ xs) [] (Some name) e there = absurd (cc)
there_alike (x ∷ xs) (y ∷ ys) (Some name) e (inl same) = inl (ap (λ m. m.name) (first x y xs ys e).0 ∙ same)
there_alike (x ∷ xs) (y ∷ ys) (Some name) e (inr older) = inr (there_alike xs ys (Some name) (first x y xs ys e).1 older)

-- the next older layer, where those behind it are made anew
pub record CanPush (xs ys : List Layer) (place : ℕ) : Type 0 where
  pub new : IsNew (name_of (layer_at xs place)) ys
  pub parent : IsThere (parent_of (layer_at xs place)) ys
  pub metas : (layer_at xs place).meta ∷ metas_in ys ≡ drop place (metas_in xs)

pub can_push : (xs ys : List Layer) (place : ℕ) → IsLayers xs → place < length xs
    → metas_in ys ≡ drop (suc place) (metas_in xs) → CanPush xs ys place
can_push [] ys place tree within e = absurd (omega arith)
can_push (x ∷ xs) ys zero tree within e = record {
  new = new_alike xs ys (name_of x) e tree.0;
  parent = there_alike xs ys (parent_of x) e tree.1;
  metas = ap (λ (ms : List LayerMeta). x.meta ∷ ms) e;
}
can_push (x ∷ xs) ys (suc place) tree within e =
    let rest = can_push xs ys place tree.2 (omega arith) e in
    record { new = rest.new; parent = rest.parent; metas = rest.metas }
