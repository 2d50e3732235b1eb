-- The layers of a replica as snapshots are those of the tree that it is.
use Rattle.std.proofs.Common.{◌≡◌, ℕ, ◌*◌, ◌<◌, List, [], ◌∷◌, length, map, Option, None, Some, MatchOption, refl}
use Rattle.std.proofs.Common.{sym, ap, subst, ◌∙◌, arith}
use Rattle.std.specs.Prelude.{All}
use Rattle.std.proofs.lemmas.List.Elements.{All-nil, All-cons}
use Rattle.volume_model.specs.Names.{NamesOnce}
use Rattle.volume_model.proofs.PurgeLemmas.{next_is_first, next_is_none}
use Rattle.volume_model.specs.Purge.{CanFold, CanDrop, IsFirst, IsPurged, next_in}
use Rattle.volume_model.specs.declared.mark.FoldOrDrop.{FoldOrDrop}
use Rattle.volume_model.specs.Snapshots.{Snapshot}
use Rattle.sparse_image.specs.Disk.{bytes_of}
use Rattle.sparse_image.proofs.DiskLemmas.{length-joined}
use Rattle.layer_chain.specs.Tree.{Tree, IsWholeTree, layer_at, name_of, reads}
use Rattle.layer_chain.specs.declared.layer.Layer.{Layer}
use Rattle.coalesce.specs.Folding.{snapshot_of, snapshots_in}
use Rattle.coalesce.specs.Way.{IsWayOf, HasNoWay}
use Rattle.coalesce.proofs.NameLemmas.{names_once}
use Rattle.replica_node.specs.Node.{Kept, Node, node_of, kept_in, disk_in, IsNode}
use Rattle.replica_node.specs.Fold.{tree_of}
use Rattle.replica_node.proofs.NodeLemmas.{length-own_in}
use Rattle.replica_node.proofs.ReadLemmas.{length-node}

kept_told : (xs layers : List Layer) (count : ℕ)
    → map (λ (k : Kept). snapshot_of k.meta) (map (kept_in layers count) xs) ≡ map (λ (l : Layer). snapshot_of l.meta) xs
kept_told [] layers count = refl
kept_told (x ∷ xs) layers count = ap (λ (ss : List Snapshot). snapshot_of x.meta ∷ ss) (kept_told xs layers count)

pub tree_is : (t : Tree) (count : ℕ) (node : Node) → node_of t count ≡ node → tree_of node ≡ snapshots_in t
tree_is t count node view = ap tree_of (sym view) ∙ kept_told t.layers t.layers count

pub tree_once : (t : Tree) (count : ℕ) (node : Node) → node_of t count ≡ node → IsWholeTree t → NamesOnce (tree_of node)
tree_once t count node view w = subst NamesOnce (sym (tree_is t count node view)) (names_once t w)

-- what can be folded or dropped of the replica can be of the tree
pub can_fold : (t : Tree) (count : ℕ) (node : Node) (p c : List ℕ) → node_of t count ≡ node → CanFold (tree_of node) node.on p c
    → CanFold (snapshots_in t) t.on p c
can_fold t count node p c view can =
    subst (λ (on : Option (List ℕ)). CanFold (snapshots_in t) on p c) (sym (ap (λ n. n.on) view))
    (subst (λ (ss : List Snapshot). CanFold ss node.on p c) (tree_is t count node view) can)

pub can_drop : (t : Tree) (count : ℕ) (node : Node) (p : List ℕ) → node_of t count ≡ node → CanDrop (tree_of node) node.on p
    → CanDrop (snapshots_in t) t.on p
can_drop t count node p view can =
    subst (λ (on : Option (List ℕ)). CanDrop (snapshots_in t) on p) (sym (ap (λ n. n.on) view))
    (subst (λ (ss : List Snapshot). CanDrop ss node.on p) (tree_is t count node view) can)

-- what goes next of the tree goes next of the replica
next_is : (tree : List Snapshot) (on : Option (List ℕ)) (found : Option FoldOrDrop)
    → MatchOption found (IsPurged tree on) (λ part. IsFirst tree on part) → found ≡ next_in tree on
next_is tree on None purged = sym (next_is_none tree on purged)
next_is tree on (Some part) first = sym (next_is_first tree on part first)

pub next_of_node : (t : Tree) (count : ℕ) (node : Node) (found : Option FoldOrDrop) → node_of t count ≡ node
    → MatchOption found (IsPurged (snapshots_in t) t.on) (λ part. IsFirst (snapshots_in t) t.on part)
    → found ≡ next_in (tree_of node) node.on
next_of_node t count node found view told =
    next_is (snapshots_in t) t.on found told ∙ ap (λ ss. next_in ss t.on) (sym (tree_is t count node view))
    ∙ ap (λ n. next_in (tree_of node) n.on) view

-- how a layer of the tree can go is how that of the replica can
pub way_of_node : (t : Tree) (count : ℕ) (node : Node) (name : List ℕ) (found : Option FoldOrDrop) → node_of t count ≡ node
    → MatchOption found (HasNoWay (snapshots_in t) t.on name) (λ part. IsWayOf (snapshots_in t) t.on name part)
    → MatchOption found (HasNoWay (tree_of node) node.on name) (λ part. IsWayOf (tree_of node) node.on name part)
way_of_node t count node name found view told =
    subst (λ (on : Option (List ℕ)). MatchOption found (HasNoWay (tree_of node) on name) (λ part. IsWayOf (tree_of node) on name part))
    (ap (λ n. n.on) view)
    (subst (λ (ss : List Snapshot). MatchOption found (HasNoWay ss t.on name) (λ part. IsWayOf ss t.on name part))
    (sym (tree_is t count node view)) told)

-- each layer has a place for a page of the volume, and is told of as many blocks
pub page_inside : (t : Tree) (count : ℕ) (node : Node) (place page : ℕ) → node_of t count ≡ node → IsNode t count
    → page * 2097152 < length node.disk → place < length t.layers → page < length (layer_at t.layers place).image
page_inside t count node place page view n inside within =
    let pages : length (layer_at t.layers place).image * 512 ≡ count = (n.images place _ within).pages in
    omega (arith, pages, length-node t count node view n)

own_lengths : (xs layers : List Layer) (count : ℕ) → All (λ (k : Kept). length k.own ≡ count) (map (kept_in layers count) xs)
own_lengths [] layers count = All-nil (λ (k : Kept). length k.own ≡ count)
own_lengths (x ∷ xs) layers count =
    All-cons (λ (k : Kept). length k.own ≡ count) (kept_in layers count x) (map (kept_in layers count) xs)
    (length-own_in x.image count) (own_lengths xs layers count)

disk_lengths : (xs layers : List Layer) (count : ℕ) → ((name : List ℕ) → length (disk_in layers count name) ≡ count * 4096)
    → All (λ (k : Kept). length k.disk ≡ count * 4096) (map (kept_in layers count) xs)
disk_lengths [] layers count whole = All-nil (λ (k : Kept). length k.disk ≡ count * 4096)
disk_lengths (x ∷ xs) layers count whole =
    All-cons (λ (k : Kept). length k.disk ≡ count * 4096) (kept_in layers count x) (map (kept_in layers count) xs)
    (whole (name_of x)) (disk_lengths xs layers count whole)

-- each layer's disk is as long as the head's
pub disk_count : (t : Tree) (count : ℕ) (node : Node) → node_of t count ≡ node → IsNode t count
    → All (λ (k : Kept). length k.disk ≡ length node.disk) node.layers
disk_count t count node view n =
    subst (λ m. All (λ (k : Kept). length k.disk ≡ m) node.layers) (sym (length-node t count node view n))
    (subst (λ a. All (λ (k : Kept). length k.disk ≡ count * 4096) a.layers) view
    (disk_lengths t.layers t.layers count
    (λ name. length-joined (λ k. bytes_of (reads t.layers (Some name) k)) count (n.layers (Some name)))))

pub own_count : (t : Tree) (count : ℕ) (node : Node) → node_of t count ≡ node → All (λ (k : Kept). length k.own ≡ count) node.layers
own_count t count node view = subst (λ n. All (λ (k : Kept). length k.own ≡ count) n.layers) view (own_lengths t.layers t.layers count)
