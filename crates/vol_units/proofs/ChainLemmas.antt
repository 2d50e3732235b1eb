-- Lemmas on specs/Chain.antt.
use Rattle.std.proofs.Common.{◌≡◌, ℕ, Bool, true, false, cond, List, [], ◌∷◌, map, Option, refl, ap, ◌∙◌}
use Rattle.vol_units.specs.Chain.{is_named, chain_from}

-- a list that begins with x, or another, seen as others
map_either : {X Y : Type 0} (seen : X → Y) (x : X) (xs ys : List X) (us vs : List Y) (is : Bool) → us ≡ map seen xs → vs ≡ map seen ys
    → cond is (seen x ∷ us) vs ≡ map seen (cond is (x ∷ xs) ys)
map_either seen x xs ys us vs true above below = ap (λ zs. seen x ∷ zs) above
map_either seen x xs ys us vs false above below = below

-- a chain of layers that are seen as others, with the same names and parents, is seen so
pub chain_from-map : {X Y : Type 0} (name_of : X → List ℕ) (parent_of : X → Option (List ℕ)) (name_seen : Y → List ℕ)
    (parent_seen : Y → Option (List ℕ))
    (seen : X → Y) (xs : List X) (wanted : Option (List ℕ)) → ((x : X) → name_seen (seen x) ≡ name_of x)
    → ((x : X) → parent_seen (seen x) ≡ parent_of x)
    → chain_from name_seen parent_seen (map seen xs) wanted ≡ map seen (chain_from name_of parent_of xs wanted)
chain_from-map name_of parent_of name_seen parent_seen seen [] wanted names parents = refl
chain_from-map name_of parent_of name_seen parent_seen seen (x ∷ xs) wanted names parents =
    let above = chain_from name_seen parent_seen (map seen xs) in
    ap (λ (n : List ℕ). cond (is_named wanted n) (seen x ∷ above (parent_seen (seen x))) (above wanted)) (names x)
    ∙ map_either seen x (chain_from name_of parent_of xs (parent_of x)) (chain_from name_of parent_of xs wanted)
    (above (parent_seen (seen x))) (above wanted)
    (is_named wanted (name_of x))
    (ap above (parents x) ∙ chain_from-map name_of parent_of name_seen parent_seen seen xs (parent_of x) names parents)
    (chain_from-map name_of parent_of name_seen parent_seen seen xs wanted names parents)
