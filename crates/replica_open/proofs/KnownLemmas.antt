-- What is known of a replica that is built of the parts of a folder.
use Rattle.std.proofs.Common.{◌≡◌, ℕ, ◌≤◌, true, List, Option, map, string_bytes, is_some, sym, ap, subst, ◌∙◌}
use Rattle.std.specs.Prelude.{All, Contains}
use Rattle.std.proofs.lemmas.List.{reverse-reverse}
use Rattle.std.proofs.lemmas.List.Elements.{All-contains, Contains-get_or}
use Rattle.chain_meta.specs.Kinds.{largest_head}
use Rattle.chain_meta.specs.declared.disk_meta.DiskMeta.{DiskMeta}
use Rattle.folder_checks.specs.Snapshots.{name_at, metas_of}
use Rattle.folder_checks.specs.declared.parts.FolderParts.{FolderParts}
use Rattle.folder_layers.specs.Folders.{HasEarlierNames}
use Rattle.folder_layers.specs.Layers.{IsEarlier, AreFit}
use Rattle.folder_layers.specs.Ordered.{AreOrdered, IsSnapshotAt}
use Rattle.folder_layers.specs.declared.order.OrderedLayer.{OrderedLayer}
use Rattle.replica_node.specs.Held as held
use Rattle.replica_node.specs.Node.{Node, Kept}
use Rattle.replica_open.specs.Building.{CanBeBuilt, IsBuilt, newest_first}
use Rattle.replica_open.specs.Opening.{IsWholeOpened}
use Rattle.replica_open.proofs.ListLemmas.{contains_map, made_of, in_reversed}

-- each layer of the replica is one of those
kept_is_ordered : (node : Node) (ordered : List OrderedLayer) (k : Kept) → held.metas_of node ≡ newest_first ordered
    → Contains node.layers k → (o : OrderedLayer) × Contains ordered o × (o.meta ≡ k.meta)
kept_is_ordered node ordered k metas c =
    let meta = λ (o : OrderedLayer). o.meta in
    let newest : Contains (newest_first ordered) k.meta =
    subst (λ ms. Contains ms k.meta) metas (contains_map (λ (k : Kept). k.meta) node.layers k c) in
    made_of meta ordered k.meta
    (subst (λ ms. Contains ms k.meta) (reverse-reverse (map meta ordered)) (in_reversed (newest_first ordered) k.meta newest))

kept_snapshot : (node : Node) (names : List (List ℕ)) (metas : List DiskMeta) (ordered : List OrderedLayer) (k : Kept)
    → AreOrdered names metas ordered → held.metas_of node ≡ newest_first ordered → Contains node.layers k
    → (o : OrderedLayer) × IsSnapshotAt names metas o × (o.meta ≡ k.meta)
kept_snapshot node names metas ordered k turns same c =
    let o = kept_is_ordered node ordered k same c in
    (o.0, All-contains (IsSnapshotAt names metas) ordered o.0 turns.each o.1, o.2)

earlier : (node : Node) (head : DiskMeta) (names : List (List ℕ)) (metas : List DiskMeta) (ordered : List OrderedLayer) (number : ℕ)
    → AreOrdered names metas ordered → held.metas_of node ≡ newest_first ordered → AreFit number head names metas
    → node.number ≡ number → HasEarlierNames node
earlier node head names metas ordered number turns same fit is name c =
    let k = made_of (λ (k : Kept). k.meta.name) node.layers name c in
    let o = kept_snapshot node names metas ordered k.0 turns same k.1 in
    let named : name_at names (o.0).place ≡ name = sym o.1.named ∙ ap (λ m. m.name) o.2 ∙ k.2 in
    subst (λ n. IsEarlier n name) (sym is) (subst (IsEarlier number) named (fit.snapshots (o.0).place o.1.within).before)

timed : (node : Node) (names : List (List ℕ)) (metas : List DiskMeta) (ordered : List OrderedLayer)
    → AreOrdered names metas ordered → held.metas_of node ≡ newest_first ordered
    → All (λ k. is_some k.meta.created ≡ true) node.layers
timed node names metas ordered turns same i d less =
    let o = kept_snapshot node names metas ordered _ turns same (Contains-get_or node.layers i d less) in
    ap (λ m. is_some m.created) (sym o.2) ∙ ap is_some o.1.timed

pub built_is_known : (size : ℕ) (parts : FolderParts) (ordered : List OrderedLayer) (below : Option (List ℕ)) (node : Node)
    → CanBeBuilt size parts ordered below
    → AreFit parts.volume.head parts.head.meta (map string_bytes parts.names.items) (metas_of parts.snapshots.items)
    → IsBuilt size parts ordered below node → IsWholeOpened size node
built_is_known size parts ordered below node can fit built =
    let names = map string_bytes parts.names.items in
    let metas = metas_of parts.snapshots.items in
    record {
      size_is = built.size;
      low = subst (λ n. n ≤ largest_head) (sym built.number) can.known.low;
      earlier = earlier node parts.head.meta names metas ordered parts.volume.head can.in_turn built.metas fit built.number;
      order = built.in_order;
      timed = timed node names metas ordered can.in_turn built.metas;
    }
