-- The chain below the head, and whether a layer is live, as the snapshots of the replica tell.
use Rattle.std.proofs.Common.{◌≡◌, ℕ, zero, suc, ◌<◌, Bool, true, false, not, cond, List, [], ◌∷◌, length, map, refl}
use Rattle.std.proofs.Common.{sym, ap, subst, ◌∙◌, arith}
use Rattle.std.proofs.lemmas.Simd.{map-map}
use Rattle.std.proofs.lemmas.Slice.Eq.{bytes_eq-Decides}
use Rattle.std.specs.Str.{bytes_eq}
use Rattle.vol_units.specs.Chain.{chain_from}
use Rattle.vol_units.proofs.ChainLemmas.{chain_from-map}
use Rattle.volume_model.specs.Snapshots.{Snapshot, is_live, chain_of}
use Rattle.layer_chain.specs.declared.layer.Layer.{Layer}
use Rattle.layer_chain.specs.Tree.{Tree, name_of, parent_of, marked_chain, layer_at, IsNew, IsLayers}
use Rattle.coalesce.specs.Folding.{snapshot_of}
use Rattle.replica_node.specs.Node.{Kept, node_of, kept_in}
use Rattle.replica_node.specs.Fold.{snapshots_of}

-- what is told of a layer, once it is kept
abbrev told_of : List Layer → ℕ → Layer → Snapshot
told_of layers count l = snapshot_of (kept_in layers count l).meta

abbrev pub told_in : List Layer → ℕ → List Layer → List Snapshot
told_in layers count xs = map (λ (k : Kept). snapshot_of k.meta) (map (kept_in layers count) xs)

-- the chain of the replica is that of the tree
pub chain_told : (t : Tree) (count : ℕ) → marked_chain t.layers t.on ≡ chain_of (snapshots_of (node_of t count))
chain_told t count =
    let seen = told_of t.layers count in
    let mark = λ (s : Snapshot). let pair : List ℕ × Bool = (s.name, s.marked) in pair in
    sym (
    ap (λ ss. map mark (chain_from (λ (s : Snapshot). s.name) (λ s. s.parent) ss t.on))
    (map-map (λ (k : Kept). snapshot_of k.meta) (kept_in t.layers count) t.layers)
    ∙ ap (map mark) (chain_from-map name_of parent_of (λ (s : Snapshot). s.name) (λ s. s.parent) seen t.layers t.on (λ x. refl) (λ x. refl))
    ∙ map-map mark seen (chain_from name_of parent_of t.layers t.on)
    )

-- ---- a layer that is live

-- a name that no layer has is not live
pub none_live : (xs layers : List Layer) (count : ℕ) (name : List ℕ) → IsNew name xs → is_live (told_in layers count xs) name ≡ false
none_live [] layers count name free = refl
none_live (x ∷ xs) layers count name free = other (none_live xs layers count name free.1) (bytes_eq name (name_of x)) refl
  where
    other : is_live (told_in layers count xs) name ≡ false → (b : Bool) → bytes_eq name (name_of x) ≡ b
        → cond b (not x.meta.marked) (is_live (told_in layers count xs) name) ≡ false
    other rest true is = absurd (free.0 (sym ((bytes_eq-Decides name (name_of x)).0 is)))
    other rest false is = rest

-- the layer at the place of the name tells
pub live_at : (xs layers : List Layer) (count : ℕ) (name : List ℕ) (place : ℕ) → IsLayers xs → place < length xs
    → name_of (layer_at xs place) ≡ name
    → is_live (told_in layers count xs) name ≡ not (layer_at xs place).meta.marked
live_at [] layers count name place tree within is = absurd (omega arith)
live_at (x ∷ xs) layers count name zero tree within is =
    ap (λ b. cond b (not x.meta.marked) (is_live (told_in layers count xs) name)) ((bytes_eq-Decides name (name_of x)).1 (sym is))
live_at (x ∷ xs) layers count name (suc place) tree within is =
    other (live_at xs layers count name place tree.2 (omega arith) is) (bytes_eq name (name_of x)) refl
  where
    there : (ys : List Layer) (i : ℕ) → i < length ys → IsNew (name_of (layer_at ys i)) ys → ⊥
    there [] i h free = absurd (omega arith)
    there (y ∷ ys) zero h free = free.0 refl
    there (y ∷ ys) (suc i) h free = there ys i (omega arith) free.1

    other : is_live (told_in layers count xs) name ≡ not (layer_at xs place).meta.marked → (b : Bool) → bytes_eq name (name_of x) ≡ b
        → cond b (not x.meta.marked) (is_live (told_in layers count xs) name) ≡ not (layer_at xs place).meta.marked
    other rest true same =
        absurd (there xs place (omega arith)
        (subst (λ n. IsNew n xs) (sym ((bytes_eq-Decides name (name_of x)).0 same) ∙ sym is) tree.0))
    other rest false same = rest
