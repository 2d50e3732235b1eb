-- The places of a tree's layers, and what a mark keeps.
use Rattle.std.proofs.Common.{◌≡◌, ◌≢◌, ⊎_elim, ℕ, ◌<◌, List, [], ◌∷◌, ◌++◌, zero, suc, length, get_or, Option, None}
use Rattle.std.proofs.Common.{Some, MatchOption, IfSome, inl, inr, sym, refl, ap, ◌∙◌, subst, arith}
use Rattle.std.specs.List.{AllByRecursion}
use Rattle.std.proofs.lemmas.List.{get_or_default}
use Rattle.std.proofs.lemmas.Bool.{cases_eq, cases_lt}
use Rattle.layer_chain.proofs.Cuts.{CutAt, cut_at, CutTwo, cut_two}
use Rattle.layer_chain.proofs.TreeShape.{tree_back, on_back, no_back, apart, parent_other}
use Rattle.layer_chain.specs.Tree.{Tree, name_of, parent_of, IsLayers, IsNew, IsThere, IsAt, IsChild, IsParent, IsWholeTree, layer_at}
use Rattle.layer_chain.specs.declared.layer.Layer.{Layer}

-- what holds at each place holds of each element
pub each_at : {X : Type 0} (P : X → Type 0) (xs : List X) (d : X) → ((i : ℕ) → i < length xs → P (get_or xs i d)) → AllByRecursion P xs
each_at P [] d f = tt
each_at P (x ∷ xs) d f = (f zero (omega arith), each_at P xs d (λ i h. f (suc i) (omega arith)))

pub layer_read : (xs : List Layer) (i : ℕ) → i < length xs → layer_at xs i ≡ get_or xs i (layer_at xs i)
layer_read xs i h = get_or_default xs i _ (layer_at xs i) h

pub layer_got : (xs : List Layer) (i : ℕ) (x : Layer) → i < length xs → layer_at xs i ≡ get_or xs i x
layer_got xs i x h = sym (get_or_default xs i x _ h)

pub layer_is : (xs : List Layer) (i : ℕ) (x : Layer) → i < length xs → x ≡ get_or xs i x → layer_at xs i ≡ x
layer_is xs i x h is = layer_got xs i x h ∙ sym is

-- the layer at a place, with what is older
record Cut (xs : List Layer) (i : ℕ) : Type 0 where
  before : List Layer
  after : List Layer
  is : xs ≡ before ++ (layer_at xs i ∷ after)

cut : (xs : List Layer) (i : ℕ) → i < length xs → Cut xs i
cut xs i h =
    let k : CutAt xs i (layer_at xs i) = cut_at xs i (layer_at xs i) h in
    record { before = k.before; after = k.after; is = k.is ∙ ap (λ (x : Layer). k.before ++ (x ∷ k.after)) (sym (layer_read xs i h)) }

tree_from : (xs : List Layer) (i : ℕ) (h : i < length xs) → IsLayers xs → IsLayers (layer_at xs i ∷ (cut xs i h).after)
tree_from xs i h tree =
    tree_back name_of parent_of (cut xs i h).before (layer_at xs i ∷ (cut xs i h).after)
    (subst (λ (ys : List Layer). IsLayers ys) (cut xs i h).is tree)

-- a layer's parent is there
pub parent_there : (xs : List Layer) (i : ℕ) → i < length xs → IsLayers xs → IsThere (parent_of (layer_at xs i)) xs
parent_there xs i h tree =
    let k : Cut xs i = cut xs i h in
    subst (λ (ys : List Layer). IsThere (parent_of (layer_at xs i)) ys) (sym k.is)
    (on_back name_of parent_of (parent_of (layer_at xs i)) k.before (layer_at xs i ∷ k.after)
    (on_back name_of parent_of (parent_of (layer_at xs i)) (layer_at xs i ∷ []) k.after (tree_from xs i h tree).1))

-- a name that no layer has is no layer's parent
pub not_new : (xs : List Layer) (i : ℕ) (name : List ℕ) → i < length xs → IsLayers xs
    → parent_of (layer_at xs i) ≡ Some name → IsNew name xs → ⊥
not_new xs i name h tree is new =
    apart name_of parent_of name name xs new (subst (λ (n : Option (List ℕ)). IsThere n xs) is (parent_there xs i h tree)) refl

not_itself : (xs : List Layer) (c : ℕ) → IsLayers xs → c < length xs → IsChild xs c c → ⊥
not_itself xs c tree h child = parent_other name_of parent_of (cut xs c h).after (layer_at xs c) (tree_from xs c h tree) child

not_older : (xs : List Layer) (p c : ℕ) → IsLayers xs → p < c → c < length xs → IsChild xs c p → ⊥
not_older xs p c tree h in_c child =
    let in_p : p < length xs = omega (arith, h, in_c) in
    let k : CutTwo xs p c (layer_at xs p) = cut_two xs p c (layer_at xs p) h in_c in
    let is : xs ≡ k.before ++ (layer_at xs p ∷ (k.between ++ (layer_at xs c ∷ k.after))) =
    k.is
    ∙ ap (λ (x : Layer). k.before ++ (x ∷ (k.between ++ (get_or xs c (layer_at xs p) ∷ k.after)))) (sym (layer_read xs p in_p))
    ∙ ap (λ (x : Layer). k.before ++ (layer_at xs p ∷ (k.between ++ (x ∷ k.after)))) (get_or_default xs c (layer_at xs p) _ in_c) in
    let from_p : IsLayers (layer_at xs p ∷ (k.between ++ (layer_at xs c ∷ k.after))) =
    tree_back name_of parent_of k.before (layer_at xs p ∷ (k.between ++ (layer_at xs c ∷ k.after)))
    (subst (λ (ys : List Layer). IsLayers ys) is tree) in
    let from_c : IsLayers (layer_at xs c ∷ k.after) = tree_back name_of parent_of k.between (layer_at xs c ∷ k.after) from_p.2 in
    apart name_of parent_of (name_of (layer_at xs p)) (name_of (layer_at xs p)) k.after
    (no_back name_of parent_of (name_of (layer_at xs p)) k.between (layer_at xs c ∷ k.after) from_p.0).1
    (subst (λ (n : Option (List ℕ)). IsThere n k.after) child from_c.1) refl

-- a layer's child is newer
pub child_newer : (xs : List Layer) (p c : ℕ) → IsLayers xs → p < length xs → c < length xs → IsChild xs c p → c < p
child_newer xs p c tree in_p in_c child =
    ⊎_elim
    (λ l. l)
    (λ h. absurd (⊎_elim
    (λ e. not_itself xs c tree in_c (subst (λ (n : ℕ). IsChild xs c n) e child))
    (λ n. not_older xs p c tree (let l : p < c = omega (arith, h, n) in l) in_c child)
    (cases_eq p c)))
    (cases_lt c p)

-- the place of a parent's name is an older one's
pub parent_placed : (t : Tree) (c : ℕ) (name : List ℕ) (found : Option ℕ) → c < length t.layers → IsWholeTree t
    → parent_of (layer_at t.layers c) ≡ Some name → MatchOption found (IsNew name t.layers) (λ p. IsAt t.layers name p)
    → MatchOption found (parent_of (layer_at t.layers c) ≡ None) (λ p. IsParent t.layers p c)
parent_placed t c name None h w is new = absurd (not_new t.layers c name h w.layers is new)
parent_placed t c name (Some p) h w is at =
    let child : IsChild t.layers c p = is ∙ ap (λ (n : List ℕ). Some n) (sym at.named) in
    record { within = at.within; older = child_newer t.layers p c w.layers at.within h child; child = child }

-- a name that stands at a place is there
pub there_at : (xs : List Layer) (i : ℕ) (name : List ℕ) (d : Layer) → i < length xs → name_of (get_or xs i d) ≡ name
    → IsThere (Some name) xs
there_at [] i name d h is = absurd (omega arith)
there_at (x ∷ xs) zero name d h is = inl is
there_at (x ∷ xs) (suc i) name d h is = inr (there_at xs i name d (omega arith) is)

pub found_there : (xs : List Layer) (name : List ℕ) (found : Option ℕ)
    → MatchOption found (IsNew name xs) (λ p. IsAt xs name p) → IfSome found (λ _. IsThere (Some name) xs)
found_there xs name None new = tt
found_there xs name (Some p) at = there_at xs p name _ at.within at.named

two_names : (xs : List Layer) (p q : ℕ) → IsLayers xs → p < q → q < length xs → name_of (layer_at xs q) ≢ name_of (layer_at xs p)
two_names xs p q tree h in_q =
    let in_p : p < length xs = omega (arith, h, in_q) in
    let k : CutTwo xs p q (layer_at xs p) = cut_two xs p q (layer_at xs p) h in_q in
    let is : xs ≡ k.before ++ (layer_at xs p ∷ (k.between ++ (layer_at xs q ∷ k.after))) =
    k.is
    ∙ ap (λ (x : Layer). k.before ++ (x ∷ (k.between ++ (get_or xs q (layer_at xs p) ∷ k.after)))) (sym (layer_read xs p in_p))
    ∙ ap (λ (x : Layer). k.before ++ (layer_at xs p ∷ (k.between ++ (x ∷ k.after)))) (get_or_default xs q (layer_at xs p) _ in_q) in
    let from_p : IsLayers (layer_at xs p ∷ (k.between ++ (layer_at xs q ∷ k.after))) =
    tree_back name_of parent_of k.before (layer_at xs p ∷ (k.between ++ (layer_at xs q ∷ k.after)))
    (subst (λ (ys : List Layer). IsLayers ys) is tree) in
    (no_back name_of parent_of (name_of (layer_at xs p)) k.between (layer_at xs q ∷ k.after) from_p.0).0

-- a name stands at one place
pub one_place : (xs : List Layer) (name : List ℕ) (p q : ℕ) → IsLayers xs → IsAt xs name p → IsAt xs name q → p ≡ q
one_place xs name p q tree a b =
    ⊎_elim
    (λ e. e)
    (λ n. absurd (⊎_elim
    (λ l. two_names xs p q tree l b.within (b.named ∙ sym a.named))
    (λ g. two_names xs q p tree (let l : q < p = omega (arith, g, n) in l) a.within (a.named ∙ sym b.named))
    (cases_lt p q)))
    (cases_eq p q)
