-- The names of the snapshots of a whole tree: each stands once, and one that is to be removed is not live.
use Rattle.std.proofs.Common.{◌≡◌, ℕ, ◌<◌, zero, suc, true, false, not, List, [], ◌∷◌, length, sym, refl, ap, ◌∙◌, arith}
use Rattle.std.specs.Prelude.{◌||◌, if◌then◌else◌}
use Rattle.std.specs.Str.{bytes_eq}
use Rattle.layer_chain.specs.Layers.{HasNo}
use Rattle.layer_chain.specs.Tree.{Tree, name_of, parent_of, layer_at, IsLayers, IsWholeTree}
use Rattle.layer_chain.specs.declared.layer.Layer.{Layer}
use Rattle.layer_chain.proofs.TreeLemmas.{there_at}
use Rattle.layer_chain.proofs.TreeShape.{apart}
use Rattle.volume_model.specs.Names.{has_name, NamesOnce}
use Rattle.volume_model.specs.Purge.{CanFold}
use Rattle.volume_model.specs.Snapshots.{is_live}
use Rattle.coalesce.specs.Folding.{snapshots_in}
use Rattle.coalesce.proofs.ChildLemmas.{same_name, other_name, told}
use Rattle.coalesce.proofs.PlaceLemmas.{any_at}

-- a name that no layer has is no snapshot's
no_name : (n : List ℕ) (xs : List Layer) → HasNo name_of parent_of n xs → has_name (told xs) n ≡ false
no_name n [] h = refl
no_name n (x ∷ xs) h = ap (λ b. b || has_name (told xs) n) (other_name n (name_of x) h.0) ∙ no_name n xs h.1

told_once : (xs : List Layer) → IsLayers xs → NamesOnce (told xs)
told_once [] tree = tt
told_once (x ∷ xs) tree = (no_name (name_of x) xs tree.0, told_once xs tree.2)

-- no name comes twice in a whole tree
pub names_once : (t : Tree) → IsWholeTree t → NamesOnce (snapshots_in t)
names_once t w = told_once t.layers w.layers

-- the newest of the name of a layer that is marked is that layer
marked_not_live : (xs : List Layer) (p : List ℕ) (i : ℕ) → i < length xs → name_of (layer_at xs i) ≡ p
    → (layer_at xs i).meta.marked ≡ true → IsLayers xs → is_live (told xs) p ≡ false
marked_not_live [] p i h is marked tree = absurd (omega arith)
marked_not_live (x ∷ xs) p zero h is marked tree =
    ap (λ b. if b then not x.meta.marked else is_live (told xs) p) (ap (bytes_eq p) is ∙ same_name p) ∙ ap not marked
marked_not_live (x ∷ xs) p (suc i) h is marked tree =
    let in_i : i < length xs = omega arith in
    ap (λ b. if b then not x.meta.marked else is_live (told xs) p)
    (other_name p (name_of x) (λ e. apart name_of parent_of (name_of x) p xs tree.0 (there_at xs i p _ in_i is) (sym e)))
    ∙ marked_not_live xs p i in_i is marked tree.2

-- a layer that can be folded is not live
pub folded_not_live : (t : Tree) (p c : List ℕ) → IsWholeTree t → CanFold (snapshots_in t) t.on p c → is_live (snapshots_in t) p ≡ false
folded_not_live t p c w can =
    let a = any_at (λ s. (s.name ≡ p) × (s.marked ≡ true)) t can.marked in
    marked_not_live t.layers p a.0 a.1 a.2.0 a.2.1 w.layers
