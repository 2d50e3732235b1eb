-- One layer more is taken.
use Rattle.std.proofs.Common.{◌≡◌, ℕ, suc, ◌<◌, ◌≤◌, List, [], ◌∷◌, length, map, drop, sym, ap, ◌∙◌, arith}
use Rattle.std.proofs.Math.ListN.{get_or-map}
use Rattle.std.proofs.Math.Seq.{drop-cons}
use Rattle.std.proofs.lemmas.List.{length-map}
use Rattle.volume_model.specs.declared.names.UsedName.{UsedName}
use Rattle.volume_model.specs.Snapshots.{Snapshot}
use Rattle.journal_book.specs.Taken.{with_found}
use Rattle.layer_chain.specs.declared.layer.LayerMeta.{LayerMeta}
use Rattle.coalesce.specs.Folding.{snapshot_of}
use Rattle.replica_node.specs.Node.{Node, Kept}
use Rattle.replica_node.specs.Fold.{tree_of}
use Rattle.replica_node.specs.Places.{kept_at}
use Rattle.opened_world.specs.Names.{names_of}

-- the layers from a place on
layer_front : (node : Node) (p : ℕ) → p < length node.layers
    → drop p (tree_of node) ≡ snapshot_of (kept_at node.layers p).meta ∷ drop (suc p) (tree_of node)
layer_front node p within =
    drop-cons (tree_of node) p (snapshot_of (kept_at [] p).meta)
    (omega (arith, within, length-map node.layers (λ (k : Kept). snapshot_of k.meta)))
    ∙ ap (λ s. s ∷ drop (suc p) (tree_of node)) (get_or-map (λ (k : Kept). snapshot_of k.meta) node.layers p (kept_at [] p))

pub disk_more : (node : Node) (place p : ℕ) (m : LayerMeta) (names new : List UsedName) → place ≡ suc p → place ≤ length node.layers
    → m ≡ (kept_at node.layers p).meta → names ≡ names_of (drop place (tree_of node)) → new ≡ with_found names m.name m.marked
    → new ≡ names_of (drop p (tree_of node))
disk_more node place p m names new next within is before more =
    more ∙ ap (λ l. with_found l m.name m.marked) (before ∙ ap (λ k. names_of (drop k (tree_of node))) next)
    ∙ ap (λ (x : LayerMeta). with_found (names_of (drop (suc p) (tree_of node))) x.name x.marked) is
    ∙ sym (ap names_of (layer_front node p (omega (arith, within, next))))
