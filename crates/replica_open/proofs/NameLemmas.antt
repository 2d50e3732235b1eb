-- The layers by their names, and their order.
use Rattle.std.proofs.Common.{◌≡◌, ℕ, ◌<◌, List, [], length, map, Option, Some, None}
use Rattle.std.proofs.Common.{sym, ap, subst, ◌∙◌, arith}
use Rattle.std.specs.Prelude.{Contains, IfSome, reverse}
use Rattle.std.proofs.lemmas.List.{get_or_default, reverse-reverse}
use Rattle.std.proofs.lemmas.List.Elements.{All-contains}
use Rattle.chain_meta.specs.declared.disk_meta.DiskMeta.{DiskMeta}
use Rattle.layer_chain.specs.Changes.{metas_in}
use Rattle.layer_chain.specs.Tree.{Tree, IsThere}
use Rattle.layer_chain.specs.declared.layer.Layer.{Layer}
use Rattle.layer_chain.specs.declared.layer.LayerMeta.{LayerMeta}
use Rattle.coalesce.specs.Folding.{snapshot_of}
use Rattle.replica_node.specs.Fold.{tree_of}
use Rattle.replica_node.specs.Node.{Node, Kept}
use Rattle.replica_compare.specs.Order.{AreInTurn, IsInOrder}
use Rattle.replica_node.specs.Held.{metas_of}
use Rattle.folder_checks.specs.Snapshots.{name_at}
use Rattle.folder_layers.specs.Ordered.{AreOrdered, IsSnapshotAt}
use Rattle.folder_layers.specs.declared.order.OrderedLayer.{OrderedLayer}
use Rattle.replica_open.specs.Building.{newest_first, HasLayers}
use Rattle.replica_open.proofs.LayerLemmas.{there_of}
use Rattle.replica_open.proofs.ListLemmas.{contains_map, made_of, map-map, map-reverse, in_reversed}

abbrev pub name_in : LayerMeta → List ℕ
name_in m = m.name

-- a snapshot is one of the layers
pub layer_of : (names : List (List ℕ)) (metas : List DiskMeta) (ordered : List OrderedLayer) (name : List ℕ)
    → AreOrdered names metas ordered → length metas ≡ length names → Contains names name
    → (o : OrderedLayer) × Contains ordered o × (o.meta.name ≡ name)
layer_of names metas ordered name turns count c =
    let within : c.0 < length metas = omega (arith, c.1, count) in
    let m = made_of (λ (o : OrderedLayer). o.place) ordered c.0 (turns.all c.0 within) in
    let s : IsSnapshotAt names metas m.0 = All-contains (IsSnapshotAt names metas) ordered m.0 turns.each m.1 in
    (m.0, m.1, s.named ∙ ap (name_at names) m.2 ∙ get_or_default names c.0 [] name c.1 ∙ c.2)

-- and has its name in the tree
pub named_in : (names : List (List ℕ)) (metas : List DiskMeta) (ordered : List OrderedLayer) (ms : List LayerMeta) (name : List ℕ)
    → AreOrdered names metas ordered → length metas ≡ length names → ms ≡ newest_first ordered → Contains names name
    → Contains (map (λ m. m.name) ms) name
named_in names metas ordered ms name turns count e c =
    let l = layer_of names metas ordered name turns count c in
    let meta = λ (o : OrderedLayer). o.meta in
    subst (Contains (map name_in ms)) l.2
    (contains_map name_in ms (l.0).meta
    (subst (λ xs. Contains xs (l.0).meta) (sym e) (in_reversed (map meta ordered) (l.0).meta (contains_map meta ordered l.0 l.1))))

pub head_there : (names : List (List ℕ)) (metas : List DiskMeta) (ordered : List OrderedLayer) (blocks : ℕ) (t : Tree)
    (below : Option (List ℕ)) → AreOrdered names metas ordered → length metas ≡ length names → HasLayers blocks ordered t
    → IfSome below (Contains names) → IsThere below t.layers
head_there names metas ordered blocks t None turns count has named = tt
head_there names metas ordered blocks t (Some name) turns count has named =
    there_of t.layers (Some name)
    (subst (λ ns. Contains ns name) (map-map (λ (l : Layer). l.meta) name_in t.layers)
    (named_in names metas ordered (metas_in t.layers) name turns count has.metas named))

-- ---- the order

pub order_is : (node : Node) (ordered : List OrderedLayer) → metas_of node ≡ newest_first ordered
    → AreInTurn [] (map (λ o. snapshot_of o.meta) ordered) → IsInOrder node
order_is node ordered metas turn =
    let meta = λ (o : OrderedLayer). o.meta in
    let list : reverse (tree_of node) ≡ map (λ o. snapshot_of o.meta) ordered =
    ap reverse (sym (map-map (λ (k : Kept). k.meta) snapshot_of node.layers) ∙ ap (map snapshot_of) metas
    ∙ map-reverse snapshot_of (map meta ordered))
    ∙ reverse-reverse (map snapshot_of (map meta ordered)) ∙ map-map meta snapshot_of ordered in
    subst (AreInTurn []) (sym list) turn
