-- What a purge takes out of a replica changes neither its disk nor a copy.
use Rattle.std.proofs.Common.{◌≡◌, ℕ, zero, suc, ◌/◌, Bool, true, false, cond, ◌||◌, List, [], ◌∷◌, length, map, refl}
use Rattle.std.proofs.Common.{sym, ap, subst, ◌∙◌, ⊎_elim}
use Rattle.std.specs.List.{All}
use Rattle.std.specs.Prelude.{Option}
use Rattle.std.specs.Str.{bytes_eq}
use Rattle.std.proofs.lemmas.Bool.{false≢true}
use Rattle.std.proofs.lemmas.List.Elements.{All-nil, All-cons, All-head, All-tail}
use Rattle.std.proofs.lemmas.Slice.Eq.{bytes_eq-Decides}
use Rattle.volume_model.specs.Snapshots.{Snapshot}
use Rattle.volume_model.specs.PlainState.{Copy, Volume, purged}
use Rattle.volume_model.specs.declared.mark.FoldOrDrop.TheVariants as part
use Rattle.volume_model.specs.Purge.{IsMarked, CanFold, CanDrop}
use Rattle.volume_model.specs.Names.{has_name, NamesOnce}
use Rattle.volume_model.proofs.NamesLemmas.{marked_has_name}
use Rattle.volume_model.proofs.PurgeLemmas.{any_cases}
use Rattle.vol_units.specs.declared.size.TheConstants.{PAGE_BYTES}
use Rattle.replica_node.specs.Node.{Kept, Node}
use Rattle.replica_node.specs.Fold.{tree_of, page_folded_in, page_folded, pages_folded, folded_away, put_down}
use Rattle.replica_node.specs.Fold.{layers_without, replaced_node, dropped_node}
use Rattle.replica_node.proofs.FoldedNode.{page_folded_tree, dropped_tree, replaced_tree}
use Rattle.replica_node.specs.Volume.{copies_in, volume_of_node, with_layers_of}
use Rattle.replica_node.proofs.VolumeLemmas.{snap, same_volume}

-- ---- the layer that goes

-- all layers of the name are marked
abbrev pub MarkedAll : List ℕ → List Kept → Type 0
MarkedAll p ks = All (λ (k : Kept). k.meta.name ≡ p → k.meta.marked ≡ true) ks

none_named : (p : List ℕ) (ks : List Kept) → has_name (map snap ks) p ≡ false → MarkedAll p ks
none_named p [] none = All-nil (λ (k : Kept). k.meta.name ≡ p → k.meta.marked ≡ true)
none_named p (k ∷ ks) none = go (bytes_eq p k.meta.name) refl none (λ rest. none_named p ks rest)
  where
    go : (b : Bool) → bytes_eq p k.meta.name ≡ b → (b || has_name (map snap ks) p) ≡ false
        → (has_name (map snap ks) p ≡ false → MarkedAll p ks)
        → MarkedAll p (k ∷ ks)
    go true same is rest = absurd (false≢true (sym is))
    go false same is rest = All-cons (λ (k : Kept). k.meta.name ≡ p → k.meta.marked ≡ true) k ks
        (λ e. absurd (false≢true (sym same ∙ (bytes_eq-Decides p k.meta.name).1 (sym e)))) (rest is)

-- where no name comes twice, one that is marked is marked wherever it stands
pub marked_all : (p : List ℕ) (ks : List Kept) → NamesOnce (map snap ks) → IsMarked (map snap ks) p → MarkedAll p ks
marked_all p [] once marked = All-nil (λ (k : Kept). k.meta.name ≡ p → k.meta.marked ≡ true)
marked_all p (k ∷ ks) once marked = ⊎_elim
    (λ here. All-cons (λ (k : Kept). k.meta.name ≡ p → k.meta.marked ≡ true) k ks (λ e. here.1)
    (none_named p ks (ap (has_name (map snap ks)) (sym here.0) ∙ once.0)))
    (λ later. All-cons (λ (k : Kept). k.meta.name ≡ p → k.meta.marked ≡ true) k ks
    (λ e. absurd (false≢true (sym once.0 ∙ ap (has_name (map snap ks)) e ∙ marked_has_name p (map snap ks) later)))
    (marked_all p ks once.1 later))
    (any_cases (λ (t : Snapshot). (t.name ≡ p) × (t.marked ≡ true)) (snap k) (map snap ks) marked)

-- ---- the copies

-- a layer with its copy, which is as before unless the layer is marked
one_copy : (a b : Kept) (ks ls : List Kept) → a.meta.marked ≡ b.meta.marked → a.meta.name ≡ b.meta.name
    → (b.meta.marked ≡ false → a.disk ≡ b.disk)
    → copies_in ks ≡ copies_in ls → copies_in (a ∷ ks) ≡ copies_in (b ∷ ls)
one_copy a b ks ls mark name disk rest = go b.meta.marked mark refl disk
  where
    both : {n m : List ℕ} {d e : List ℕ} {l o : List Copy} → n ≡ m → d ≡ e → l ≡ o
        → record { name = n; disk = d } ∷ l ≡ record { name = m; disk = e } ∷ o
    both p q r = cc

    go : (m : Bool) → a.meta.marked ≡ m → b.meta.marked ≡ m → (m ≡ false → a.disk ≡ b.disk) → copies_in (a ∷ ks) ≡ copies_in (b ∷ ls)
    go true ma mb same = rw (ma, mb) rest
    go false ma mb same = rw (ma, mb) (both name (same refl) rest)

-- a page that is folded changes no copy
folded_copies : (layers ks : List Kept) (p c : List ℕ) (page : ℕ) → MarkedAll p ks
    → copies_in (map (page_folded_in layers p c page) ks) ≡ copies_in ks
folded_copies layers [] p c page marked = refl
folded_copies layers (k ∷ ks) p c page marked =
    go (folded_copies layers ks p c page (All-tail (λ (k : Kept). k.meta.name ≡ p → k.meta.marked ≡ true) k ks marked))
    (bytes_eq c k.meta.name) refl (bytes_eq p k.meta.name) refl
  where
    go : copies_in (map (page_folded_in layers p c page) ks) ≡ copies_in ks → (s : Bool) → bytes_eq c k.meta.name ≡ s
        → (t : Bool) → bytes_eq p k.meta.name ≡ t
        → copies_in (map (page_folded_in layers p c page) (k ∷ ks)) ≡ copies_in (k ∷ ks)
    go rest true child t parent = one_copy (page_folded_in layers p c page k) k (map (page_folded_in layers p c page) ks) ks
        (rw child refl) (rw child refl) (λ e. rw child refl) rest
    go rest false child true parent = one_copy (page_folded_in layers p c page k) k
        (map (page_folded_in layers p c page) ks) ks (rw (child, parent) refl) (rw (child, parent) refl)
        (λ e. absurd (false≢true (sym e ∙ All-head (λ (k : Kept). k.meta.name ≡ p → k.meta.marked ≡ true) k ks marked
        (sym ((bytes_eq-Decides p k.meta.name).0 parent))))) rest
    go rest false child false parent = one_copy (page_folded_in layers p c page k) k
        (map (page_folded_in layers p c page) ks) ks (rw (child, parent) refl) (rw (child, parent) refl)
        (λ e. rw (child, parent) refl) rest

-- nor does it when a marked layer is out
without_copies : (ks : List Kept) (p : List ℕ) → MarkedAll p ks → copies_in (layers_without p ks) ≡ copies_in ks
without_copies [] p marked = refl
without_copies (k ∷ ks) p marked =
    go (without_copies ks p (All-tail (λ (k : Kept). k.meta.name ≡ p → k.meta.marked ≡ true) k ks marked)) (bytes_eq p k.meta.name) refl
  where
    go : copies_in (layers_without p ks) ≡ copies_in ks → (t : Bool) → bytes_eq p k.meta.name ≡ t
        → copies_in (cond t ks (k ∷ layers_without p ks)) ≡ copies_in (k ∷ ks)
    go rest true same = rw (All-head (λ (k : Kept). k.meta.name ≡ p → k.meta.marked ≡ true) k ks marked
        (sym ((bytes_eq-Decides p k.meta.name).0 same))) refl
    go rest false same = one_copy k k (layers_without p ks) ks refl refl (λ e. refl) rest

-- and a layer that is put down keeps its copy
put_down_copies : (ks : List Kept) (c : List ℕ) (parent : Option (List ℕ)) (own : List Bool)
    → copies_in (map (put_down c parent own) ks) ≡ copies_in ks
put_down_copies [] c parent own = refl
put_down_copies (k ∷ ks) c parent own = go (put_down_copies ks c parent own) (bytes_eq c k.meta.name) refl
  where
    go : copies_in (map (put_down c parent own) ks) ≡ copies_in ks → (t : Bool) → bytes_eq c k.meta.name ≡ t
        → copies_in (map (put_down c parent own) (k ∷ ks)) ≡ copies_in (k ∷ ks)
    go rest true same = one_copy (put_down c parent own k) k (map (put_down c parent own) ks) ks (rw same refl)
        (rw same refl) (λ e. rw same refl) rest
    go rest false same = one_copy (put_down c parent own k) k (map (put_down c parent own) ks) ks (rw same refl)
        (rw same refl) (λ e. rw same refl) rest

-- ---- what each step makes of the volume, where no name comes twice

-- a page that is folded is not seen
pub page_folded_volume : (n : Node) (p c : List ℕ) (page : ℕ) → NamesOnce (tree_of n) → CanFold (tree_of n) n.on p c
    → volume_of_node (page_folded n p c page) ≡ volume_of_node n
page_folded_volume n p c page once can =
    same_volume n (folded_copies n.layers n.layers p c page (marked_all p n.layers once can.marked)) (page_folded_tree n p c page)

pub replaced_volume : (n : Node) (p c : List ℕ) → NamesOnce (tree_of n) → CanFold (tree_of n) n.on p c
    → volume_of_node (replaced_node n p c) ≡ purged (volume_of_node n) (part.Fold p c)
replaced_volume n p c once can =
    same_volume n (put_down_copies (layers_without p n.layers) c _ _
    ∙ without_copies n.layers p (marked_all p n.layers once can.marked)) (replaced_tree n p c)

pub dropped_volume : (n : Node) (p : List ℕ) → NamesOnce (tree_of n) → CanDrop (tree_of n) n.on p
    → volume_of_node (dropped_node n p) ≡ purged (volume_of_node n) (part.Drop p)
dropped_volume n p once can = same_volume n (without_copies n.layers p (marked_all p n.layers once can.marked)) (dropped_tree n p)

-- ---- the folding of a layer

-- no name comes twice in a replica of the same volume
once_as : (n m : Node) → volume_of_node m ≡ volume_of_node n → NamesOnce (tree_of n) → NamesOnce (tree_of m)
once_as n m same once = subst (λ (v : Volume). NamesOnce v.snapshots.tree) (sym same) once

-- what can be folded can be in a replica of the same volume
can_as : (n m : Node) (p c : List ℕ) → volume_of_node m ≡ volume_of_node n → CanFold (tree_of n) n.on p c → CanFold (tree_of m) m.on p c
can_as n m p c same can = subst (λ (v : Volume). CanFold v.snapshots.tree v.snapshots.on p c) (sym same) can

-- pages that are folded are not seen
pages_volume : (n : Node) (p c : List ℕ) (pages : ℕ) → NamesOnce (tree_of n) → CanFold (tree_of n) n.on p c
    → volume_of_node (pages_folded n p c pages) ≡ volume_of_node n
unfolding pages_folded
pages_volume n p c zero once can = refl
pages_volume n p c (suc pages) once can =
    let before = pages_volume n p c pages once can in
    let m = pages_folded n p c pages in
    page_folded_volume m p c pages (once_as n m before once) (can_as n m p c before can) ∙ before

-- and they are not the head's
pages_head : (n : Node) (p c : List ℕ) (pages : ℕ) → pages_folded n p c pages ≡ with_layers_of n (pages_folded n p c pages)
unfolding pages_folded
pages_head n p c zero = refl
pages_head n p c (suc pages) =
    ap (λ (m : Node). record m { layers = (page_folded (pages_folded n p c pages) p c pages).layers }) (pages_head n p c pages)

-- a layer that is folded away is a part of a purge
pub folded_volume : (n : Node) (p c : List ℕ) → NamesOnce (tree_of n) → CanFold (tree_of n) n.on p c
    → volume_of_node (folded_away n p c) ≡ purged (volume_of_node n) (part.Fold p c)
folded_volume n p c once can =
    let pages = length n.disk / PAGE_BYTES in
    let before = pages_volume n p c pages once can in
    let m = pages_folded n p c pages in
    replaced_volume m p c (once_as n m before once) (can_as n m p c before can) ∙ ap (λ (v : Volume). purged v (part.Fold p c)) before

pub folded_head : (n new : Node) (p c : List ℕ) → new ≡ folded_away n p c → new ≡ with_layers_of n new
folded_head n new p c is =
    subst (λ m. m ≡ with_layers_of n m) (sym is)
    (ap (λ (m : Node). record m { layers = (folded_away n p c).layers })
    (pages_head n p c (length n.disk / PAGE_BYTES)))

pub dropped_head : (old new : Node) (p : List ℕ) → new ≡ dropped_node old p → new ≡ with_layers_of old new
dropped_head old new p is = subst (λ n. n ≡ with_layers_of old n) (sym is) refl
