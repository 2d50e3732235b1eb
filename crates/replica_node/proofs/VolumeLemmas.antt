-- What is told of the volume that a replica is, and what changes it, is told of the replica.
use Rattle.std.proofs.Common.{◌≡◌, ◌≢◌, ℕ, suc, ◌+◌, Bool, true, false, not, cond, ◌||◌, List, [], ◌∷◌, length, map}
use Rattle.std.proofs.Common.{Some, refl, sym, ap, ◌∙◌, arith}
use Rattle.std.specs.List.{All}
use Rattle.std.specs.Prelude.{Contains}
use Rattle.std.specs.Str.{bytes_eq}
use Rattle.std.proofs.lemmas.List.{length-map}
use Rattle.std.proofs.lemmas.List.Elements.{All-nil, All-cons}
use Rattle.std.proofs.lemmas.Slice.Eq.{bytes_eq-Decides}
use Rattle.std.proofs.lemmas.Bool.{false≢true}
use Rattle.replica_node.specs.Node.{Kept, Node, layer_names, disk_named, marked_if_named, IsKept, IsFree}
use Rattle.replica_node.specs.Node as node
use Rattle.replica_node.specs.Fold.{tree_of}
use Rattle.volume_model.specs.Names.{has_name}
use Rattle.volume_model.specs.Snapshots.{Snapshot, is_live, marked_if, layer_count}
use Rattle.volume_model.specs.PlainState.{Copy, Volume, copy_of, without}
use Rattle.volume_model.specs.PlainState as plain
use Rattle.coalesce.specs.Folding.{snapshot_of}
use Rattle.replica_node.specs.Volume.{copies_in, volume_of_node}

-- a layer as a snapshot
abbrev pub snap : Kept → Snapshot
snap k = snapshot_of k.meta

-- ---- what is asked

pub same_count : (n : Node) → layer_count (volume_of_node n).snapshots ≡ length n.layers + 1
same_count n = ap (λ k. k + 1) (length-map n.layers snap)

-- a layer that is live is there
live_at : (ks : List Kept) (name : List ℕ) → is_live (map snap ks) name ≡ true → Contains (layer_names ks) name
live_at [] name live = absurd (false≢true live)
live_at (k ∷ ks) name live = go (λ older. live_at ks name older) (bytes_eq name k.meta.name) refl live
  where
    go : (is_live (map snap ks) name ≡ true → Contains (layer_names ks) name) → (t : Bool) → bytes_eq name k.meta.name ≡ t
        → cond t (not k.meta.marked) (is_live (map snap ks) name) ≡ true → Contains (layer_names (k ∷ ks)) name
    go rest true same is = (0, omega arith, sym ((bytes_eq-Decides name k.meta.name).0 same))
    go rest false same is = let older = rest is in (suc older.0, omega (arith, older.1), older.2)

-- a snapshot that can be used is a layer's
pub kept_of : (n : Node) (name : List ℕ) → is_live (tree_of n) name ≡ true → IsKept n (Some name)
kept_of n name live = live_at n.layers name live

free_in : (ks : List Kept) (name : List ℕ) → has_name (map snap ks) name ≡ false → All (λ (k : Kept). k.meta.name ≢ name) ks
free_in [] name none = All-nil (λ (k : Kept). k.meta.name ≢ name)
free_in (k ∷ ks) name none = go (bytes_eq name k.meta.name) refl none (λ rest. free_in ks name rest)
  where
    go : (t : Bool) → bytes_eq name k.meta.name ≡ t → (t || has_name (map snap ks) name) ≡ false
        → (has_name (map snap ks) name ≡ false → All (λ (k : Kept). k.meta.name ≢ name) ks)
        → All (λ (k : Kept). k.meta.name ≢ name) (k ∷ ks)
    go true same is rest = absurd (false≢true (sym is))
    go false same is rest = All-cons (λ (k : Kept). k.meta.name ≢ name) k ks
        (λ e. false≢true (sym same ∙ (bytes_eq-Decides name k.meta.name).1 (sym e))) (rest is)

-- a name that is no snapshot's is no layer's
pub free_of : (n : Node) (name : List ℕ) → has_name (tree_of n) name ≡ false → IsFree n name
free_of n name none = free_in n.layers name none

-- ---- what changes it

-- the volume of a replica, with these copies and snapshots in place of its own
abbrev pub volume_with : Node → List Copy → List Snapshot → Volume
volume_with n copies tree = record {
  disk = n.disk;
  copies = copies;
  snapshots = record { tree = tree; on = n.on; number = n.number };
}

pub same_volume : (n : Node) {a b : List Copy} {c d : List Snapshot} → a ≡ b → c ≡ d → volume_with n a c ≡ volume_with n b d
same_volume n {b = b} {c = c} p q = ap (λ x. volume_with n x c) p ∙ ap (λ t. volume_with n b t) q

-- the copy of a layer that is live is what it reads as
copy_of_live : (ks : List Kept) (name : List ℕ) → is_live (map snap ks) name ≡ true → copy_of (copies_in ks) name ≡ disk_named ks name
copy_of_live [] name live = refl
copy_of_live (k ∷ ks) name live = go k.meta.marked refl (bytes_eq name k.meta.name) refl (λ older. copy_of_live ks name older) live
  where
    go : (marked : Bool) → k.meta.marked ≡ marked → (t : Bool) → bytes_eq name k.meta.name ≡ t
        → (is_live (map snap ks) name ≡ true → copy_of (copies_in ks) name ≡ disk_named ks name)
        → cond t (not k.meta.marked) (is_live (map snap ks) name) ≡ true
        → copy_of (cond k.meta.marked (copies_in ks) (record { name = k.meta.name; disk = k.disk } ∷ copies_in ks))
        name ≡ cond t k.disk (disk_named ks name)
    go true marked true same rest is = absurd (false≢true (sym (ap not marked) ∙ is))
    go true marked false same rest is = rw marked (rest is)
    go false marked true same rest is = rw (marked, same) refl
    go false marked false same rest is = rw (marked, same) (rest is)

pub reverted_volume : (n : Node) (name : List ℕ) → is_live (tree_of n) name ≡ true
    → volume_of_node (node.reverted_node n name) ≡ plain.reverted (volume_of_node n) name
reverted_volume n name live =
    ap (λ d. record (volume_of_node (node.reverted_node n name)) { disk = d }) (sym (copy_of_live n.layers name live))

-- a mark drops the copies of the name
without_marked : (ks : List Kept) (name : List ℕ) → copies_in (map (marked_if_named name) ks) ≡ without (copies_in ks) name
without_marked [] name = refl
without_marked (k ∷ ks) name = go (without_marked ks name) (bytes_eq name k.meta.name) refl k.meta.marked refl
  where
    go : copies_in (map (marked_if_named name) ks) ≡ without (copies_in ks) name → (t : Bool)
        → bytes_eq name k.meta.name ≡ t → (marked : Bool) → k.meta.marked ≡ marked
        → copies_in (map (marked_if_named name) (k ∷ ks)) ≡ without (copies_in (k ∷ ks)) name
    go rest true same true marked = rw (same, marked) rest
    go rest true same false marked = rw (same, marked) (rw same rest)
    go rest false same true marked = rw (same, marked) rest
    go rest false same false marked = rw (same, marked) (rw same (ap (λ l. record { name = k.meta.name; disk = k.disk } ∷ l) rest))

-- a layer with its mark is the snapshot with its mark
same_mark : (k : Kept) (name : List ℕ) → snap (marked_if_named name k) ≡ marked_if name (snap k)
same_mark k name = one (bytes_eq name k.meta.name)
  where
    one : (t : Bool) → snap (cond t (record k { meta = record k.meta { marked = true } }) k) ≡ cond t
        (record (snap k) { marked = true }) (snap k)
    one true = refl
    one false = refl

same_tree : (ks : List Kept) (name : List ℕ) → map snap (map (marked_if_named name) ks) ≡ map (marked_if name) (map snap ks)
same_tree [] name = refl
same_tree (k ∷ ks) name = both (same_mark k name) (same_tree ks name)
  where
    both : {a b : Snapshot} {l m : List Snapshot} → a ≡ b → l ≡ m → a ∷ l ≡ b ∷ m
    both p q = cc

pub marked_volume : (n : Node) (name : List ℕ) → volume_of_node (node.marked n name) ≡ plain.removed (volume_of_node n) name
marked_volume n name = same_volume n (without_marked n.layers name) (same_tree n.layers name)
