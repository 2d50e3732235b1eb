-- What is told of the layers, by name, once a parent is replaced or a leaf is taken out.
use Rattle.std.proofs.Common.{◌≡◌, ℕ, ◌<◌, cond, List, [], ◌∷◌, ◌++◌, length, get_or, set, Option, sym, refl, ap, ◌∙◌, subst, arith}
use Rattle.std.specs.List.{remove}
use Rattle.std.specs.Str.{bytes_eq}
use Rattle.std.proofs.lemmas.List.{append_assoc, map-append, get_or_default}
use Rattle.layer_chain.specs.Changes.{in_place_of, taken_out, replaced}
use Rattle.layer_chain.specs.Layers.{HasNo}
use Rattle.layer_chain.specs.Tree.{Tree, name_of, parent_of, layer_at, IsAt, IsLayers, IsWholeTree}
use Rattle.layer_chain.specs.declared.layer.Layer.{Layer}
use Rattle.layer_chain.proofs.Cuts.{CutAt, cut_at, CutTwo, cut_two}
use Rattle.layer_chain.proofs.FoldLemmas.{child_above}
use Rattle.layer_chain.proofs.TreeLemmas.{layer_read}
use Rattle.layer_chain.proofs.TreeShape.{named_once, tree_back, no_front, no_back, no_append}
use Rattle.volume_model.specs.Purge.{CanFold, dropped, parent_in, given, folded}
use Rattle.volume_model.specs.Snapshots.{Snapshot}
use Rattle.coalesce.specs.Folding.{snapshot_of, snapshots_in, AreAt}
use Rattle.coalesce.proofs.ChildLemmas.{same_name, other_name, told}
use Rattle.coalesce.proofs.PlaceLemmas.{fold_only}

abbrev No : List ℕ → List Snapshot → Type 0
No = HasNo (λ m. m.name) (λ m. m.parent)

dropped-past : (p : List ℕ) (xs zs : List Snapshot) (m : Snapshot) → No p xs → m.name ≡ p → dropped p (xs ++ (m ∷ zs)) ≡ xs ++ zs
dropped-past p [] zs m h e = ap (λ t. cond t zs (m ∷ dropped p zs)) (ap (bytes_eq p) e ∙ same_name p)
dropped-past p (x ∷ xs) zs m h e =
    ap (λ t. cond t (xs ++ (m ∷ zs)) (x ∷ dropped p (xs ++ (m ∷ zs)))) (other_name p x.name h.0)
    ∙ ap (λ (ys : List Snapshot). x ∷ ys) (dropped-past p xs zs m h.1 e)

parent_in-past : (p : List ℕ) (xs zs : List Snapshot) (m : Snapshot) → No p xs → m.name ≡ p → parent_in p (xs ++ (m ∷ zs)) ≡ m.parent
parent_in-past p [] zs m h e = ap (λ t. cond t m.parent (parent_in p zs)) (ap (bytes_eq p) e ∙ same_name p)
parent_in-past p (x ∷ xs) zs m h e =
    ap (λ t. cond t x.parent (parent_in p (xs ++ (m ∷ zs)))) (other_name p x.name h.0) ∙ parent_in-past p xs zs m h.1 e

given-none : (c : List ℕ) (n : Option (List ℕ)) (xs : List Snapshot) → No c xs → given c n xs ≡ xs
given-none c n [] h = refl
given-none c n (x ∷ xs) h =
    ap (λ t. cond t (record x { parent = n }) x ∷ given c n xs) (other_name c x.name h.0)
    ∙ ap (λ (ys : List Snapshot). x ∷ ys) (given-none c n xs h.1)

given-past : (c : List ℕ) (n : Option (List ℕ)) (xs zs : List Snapshot) (m : Snapshot) → No c xs → No c zs → m.name ≡ c
    → given c n (xs ++ (m ∷ zs)) ≡ xs ++ (record m { parent = n } ∷ zs)
given-past c n [] zs m h k e =
    ap (λ t. cond t (record m { parent = n }) m ∷ given c n zs) (ap (bytes_eq c) e ∙ same_name c)
    ∙ ap (λ (ys : List Snapshot). record m { parent = n } ∷ ys) (given-none c n zs k)
given-past c n (x ∷ xs) zs m h k e =
    ap (λ t. cond t (record x { parent = n }) x ∷ given c n (xs ++ (m ∷ zs))) (other_name c x.name h.0)
    ∙ ap (λ (ys : List Snapshot). x ∷ ys) (given-past c n xs zs m h.1 k e)

-- c on the place of its parent p, which is taken out
folded_is : (xs ys zs : List Snapshot) (c p : Snapshot) → No p.name (xs ++ (c ∷ ys)) → No c.name xs → No c.name (ys ++ zs)
    → folded p.name c.name ((xs ++ (c ∷ ys)) ++ (p ∷ zs)) ≡ xs ++ (record c { parent = p.parent } ∷ (ys ++ zs))
folded_is xs ys zs c p no_p no_c no_c_below =
    ap (λ n. given c.name n (dropped p.name ((xs ++ (c ∷ ys)) ++ (p ∷ zs)))) (parent_in-past p.name (xs ++ (c ∷ ys)) zs p no_p refl)
    ∙ ap (given c.name p.parent) (dropped-past p.name (xs ++ (c ∷ ys)) zs p no_p refl ∙ append_assoc xs (c ∷ ys) zs)
    ∙ given-past c.name p.parent xs (ys ++ zs) c no_c no_c_below refl

no_told : (n : List ℕ) (xs : List Layer) → HasNo name_of parent_of n xs → No n (told xs)
no_told n [] h = tt
no_told n (x ∷ xs) h = (h.0, no_told n xs h.1)

told_append : (xs ys : List Layer) → told (xs ++ ys) ≡ told xs ++ told ys
told_append xs ys = map-append (λ (l : Layer). snapshot_of l.meta) xs ys

told_two : (f m z : List Layer) (c p : Layer) → told (f ++ (c ∷ (m ++ (p ∷ z)))) ≡ (told f ++ (snapshot_of c.meta ∷ told m))
    ++ (snapshot_of p.meta ∷ told z)
told_two f m z c p =
    told_append f (c ∷ (m ++ (p ∷ z)))
    ∙ ap (λ (ms : List Snapshot). told f ++ (snapshot_of c.meta ∷ ms)) (told_append m (p ∷ z))
    ∙ sym (append_assoc (told f) (snapshot_of c.meta ∷ told m) (snapshot_of p.meta ∷ told z))

folded_two : (f m z : List Layer) (c p d : Layer) → IsLayers (f ++ (c ∷ (m ++ (p ∷ z))))
    → d.meta ≡ record c.meta { parent = p.meta.parent }
    → told (f ++ (d ∷ (m ++ z))) ≡ folded (name_of p) (name_of c) (told (f ++ (c ∷ (m ++ (p ∷ z)))))
folded_two f m z c p d tree d_is =
    let tree_back_here = tree_back name_of parent_of f (c ∷ (m ++ (p ∷ z))) tree in
    told_append f (d ∷ (m ++ z))
    ∙ ap (λ (ms : List Snapshot). told f ++ (snapshot_of d.meta ∷ ms)) (told_append m z)
    ∙ ap (λ (x : Snapshot). told f ++ (x ∷ (told m ++ told z))) (ap snapshot_of d_is)
    ∙ sym (folded_is (told f) (told m) (told z) (snapshot_of c.meta) (snapshot_of p.meta)
    (subst (λ (ms : List Snapshot). No (name_of p) ms) (told_append f (c ∷ m))
    (no_told (name_of p) (f ++ (c ∷ m))
    (named_once name_of parent_of (f ++ (c ∷ m)) z p
    (subst (λ (xs : List Layer). IsLayers xs) (sym (append_assoc f (c ∷ m) (p ∷ z))) tree))))
    (no_told (name_of c) f (named_once name_of parent_of f (m ++ (p ∷ z)) c tree))
    (subst (λ (ms : List Snapshot). No (name_of c) ms) (told_append m z)
    (no_told (name_of c) (m ++ z) (no_append name_of parent_of (name_of c) m z
    (no_front name_of parent_of (name_of c) m (p ∷ z) tree_back_here.0)
    (no_back name_of parent_of (name_of c) m (p ∷ z) tree_back_here.0).1))))
    ∙ sym (ap (folded (name_of p) (name_of c)) (told_two f m z c p))

replaced_told : (xs : List Layer) (p c : ℕ) → c < p → p < length xs → IsLayers xs
    → told (set (remove xs p) c (in_place_of (layer_at xs c) (layer_at xs p))) ≡ folded (name_of (layer_at xs p))
    (name_of (layer_at xs c)) (told xs)
replaced_told xs p c above in_p tree =
    let in_c : c < length xs = omega (arith, above, in_p) in
    let k : CutTwo xs c p (layer_at xs c) = cut_two xs c p (layer_at xs c) above in_p in
    let d : Layer = in_place_of (layer_at xs c) (layer_at xs p) in
    let is : xs ≡ k.before ++ (layer_at xs c ∷ (k.between ++ (layer_at xs p ∷ k.after))) =
    k.is
    ∙ ap (λ (x : Layer). k.before ++ (x ∷ (k.between ++ (get_or xs p (layer_at xs c) ∷ k.after)))) (sym (layer_read xs c in_c))
    ∙ ap (λ (x : Layer). k.before ++ (layer_at xs c ∷ (k.between ++ (x ∷ k.after)))) (get_or_default xs p (layer_at xs c) _ in_p) in
    ap told (k.set_without d)
    ∙ folded_two k.before k.between k.after (layer_at xs c) (layer_at xs p) d (subst (λ (ys : List Layer). IsLayers ys) is tree) refl
    ∙ sym (ap (λ (ys : List Layer). folded (name_of (layer_at xs p)) (name_of (layer_at xs c)) (told ys)) is)

pub replaced_snapshots : (t new : Tree) (p c : List ℕ) (i j : ℕ) → IsWholeTree t → AreAt t.layers p c i j
    → CanFold (snapshots_in t) t.on p c → new ≡ replaced t i j → snapshots_in new ≡ folded p c (snapshots_in t)
replaced_snapshots t new p c i j w at can is =
    ap snapshots_in is
    ∙ replaced_told t.layers i j (child_above t i j w at.parent.within (fold_only t p c i j w at can)) at.parent.within w.layers
    ∙ ap (λ (n : List ℕ). folded n (name_of (layer_at t.layers j)) (snapshots_in t)) at.parent.named
    ∙ ap (λ (n : List ℕ). folded p n (snapshots_in t)) at.child.named

dropped_two : (f z : List Layer) (p : Layer) → IsLayers (f ++ (p ∷ z)) → told (f ++ z) ≡ dropped (name_of p) (told (f ++ (p ∷ z)))
dropped_two f z p tree =
    told_append f z
    ∙ sym (dropped-past (name_of p) (told f) (told z) (snapshot_of p.meta)
    (no_told (name_of p) f (named_once name_of parent_of f z p tree)) refl)
    ∙ sym (ap (dropped (name_of p)) (told_append f (p ∷ z)))

dropped_told : (xs : List Layer) (p : ℕ) → p < length xs → IsLayers xs → told (remove xs p) ≡ dropped (name_of (layer_at xs p)) (told xs)
dropped_told xs p in_p tree =
    let k : CutAt xs p (layer_at xs p) = cut_at xs p (layer_at xs p) in_p in
    let is : xs ≡ k.before ++ (layer_at xs p ∷ k.after) = k.is
    ∙ ap (λ (x : Layer). k.before ++ (x ∷ k.after)) (sym (layer_read xs p in_p)) in
    ap told k.without
    ∙ dropped_two k.before k.after (layer_at xs p) (subst (λ (ys : List Layer). IsLayers ys) is tree)
    ∙ sym (ap (λ (ys : List Layer). dropped (name_of (layer_at xs p)) (told ys)) is)

pub dropped_snapshots : (t new : Tree) (p : List ℕ) (i : ℕ) → IsWholeTree t → IsAt t.layers p i → new ≡ taken_out t i
    → snapshots_in new ≡ dropped p (snapshots_in t)
dropped_snapshots t new p i w at is =
    ap snapshots_in is
    ∙ dropped_told t.layers i at.within w.layers
    ∙ ap (λ (n : List ℕ). dropped n (snapshots_in t)) at.named
