-- The folder is the replica that is built of its images.
use Rattle.std.proofs.Common.{◌≡◌, ℕ, ◌/◌, ◌<◌, false, List, [], length, map, get_or, Option, Some, None}
use Rattle.std.proofs.Common.{refl, sym, ap, subst, ◌∙◌, arith, string_bytes, unwrap_or}
use Rattle.std.specs.Prelude.{All, Contains, is_some}
use Rattle.std.specs.Option.{option_map}
use Rattle.std.proofs.lemmas.List.{get_or-map, length-map}
use Rattle.std.proofs.lemmas.List.Elements.{All-contains}
use Rattle.chain_meta.specs.ImageNames.{head_file, snapshot_file}
use Rattle.chain_meta.specs.declared.disk_meta.DiskMeta.{DiskMeta}
use Rattle.layer_chain.specs.Changes.{metas_in}
use Rattle.layer_chain.specs.Tree.{Tree, layer_at}
use Rattle.layer_chain.specs.declared.layer.Layer.{Layer}
use Rattle.layer_chain.specs.declared.layer.LayerMeta.{LayerMeta}
use Rattle.replica_node.specs.Node.{Node, Kept}
use Rattle.replica_node.specs.Held.{metas_of}
use Rattle.replica_node.specs.Places.{kept_at, disk_at, own_at, IsPlace, IsBuiltOf}
use Rattle.folder_names.specs.Files.{Folder}
use Rattle.replica_shelf.specs.Folder.{Stamps, IsPartOf, IsFolderOf, image_at, meta_at, layer_meta_of, head_meta_of}
use Rattle.folder_checks.specs.Images.{IsGoodImage, HasLength}
use Rattle.folder_checks.specs.Snapshots as snapshots
use Rattle.folder_checks.specs.Snapshots.{name_at, told_at, AreSnapshots}
use Rattle.folder_checks.specs.Checks.{AreGood, AreGoodParts}
use Rattle.folder_checks.specs.declared.parts.ImageParts.{ImageParts}
use Rattle.folder_checks.specs.declared.parts.FolderParts.{FolderParts}
use Rattle.folder_layers.specs.Ordered.{AreOrdered, IsSnapshotAt}
use Rattle.folder_layers.specs.declared.order.OrderedLayer.{OrderedLayer}
use Rattle.replica_open.specs.Reading.{IsReadFrom}
use Rattle.replica_open.specs.Building.{newest_first, stamps_in, IsLayerRead, HasSizes, CanBeBuilt}
use Rattle.replica_open.proofs.ListLemmas.{map-map}
use Rattle.replica_open.proofs.NameLemmas.{name_in, named_in}
use Rattle.replica_open.proofs.PartLemmas.{part_of, length_by_name, volume_of}

-- ---- what is told of the layers

told_now : (now : List ℕ) (m : LayerMeta) (d : DiskMeta) → layer_meta_of [] m ≡ d → m.created ≡ Some d.created
    → layer_meta_of now m ≡ d
told_now now m d told timed = λ i. record {
  created = ap (λ o. unwrap_or o now) timed i;
  name = ap (λ (x : DiskMeta). x.name) told i;
  parent = ap (λ (x : DiskMeta). x.parent) told i;
  removed = ap (λ (x : DiskMeta). x.removed) told i;
  user_created = ap (λ (x : DiskMeta). x.user_created) told i;
}

no_meta : LayerMeta
no_meta = record { name = []; parent = None; marked = false; user_created = false; created = None }

same_meta : (node : Node) (t : Tree) (i : ℕ) → metas_of node ≡ metas_in t.layers → i < length node.layers
    → (i < length t.layers) × ((kept_at node.layers i).meta ≡ (layer_at t.layers i).meta)
same_meta node t i e less =
    let within : i < length t.layers =
    omega (arith, less, ap length e, length-map node.layers (λ (k : Kept). k.meta), length-map t.layers (λ (l : Layer). l.meta)) in (
      within,
      sym (get_or-map (λ (k : Kept). k.meta) node.layers i _ no_meta less) ∙ ap (λ ms. get_or ms i no_meta) e
          ∙ get_or-map (λ (l : Layer). l.meta) t.layers i _ no_meta within,
    )

-- the files of a layer
pub layer_part : (folder : Folder) (size : ℕ) (stamps : Stamps) (names : List (List ℕ)) (parts : List ImageParts)
    (ordered : List OrderedLayer) (node : Node) (t : Tree) (i : ℕ) → i < length node.layers → IsBuiltOf t size node
    → HasSizes size node → AreOrdered names (snapshots.metas_of parts) ordered
    → AreGood folder size (size / 4096) names (length names) parts → All (IsLayerRead folder size parts ordered) t.layers
    → IsPartOf folder (image_at node (Some i)) (meta_at stamps node (Some i)) (disk_at node (Some i)) (own_at node (Some i))
layer_part folder size stamps names parts ordered node t i less built sizes turns good read =
    let metas = snapshots.metas_of parts in
    let l = layer_at t.layers i in
    let same = same_meta node t i built.metas less in
    let r : IsLayerRead folder size parts ordered l = read i _ same.0 in
    let s : IsSnapshotAt names metas (record { place = r.place; meta = l.meta }) =
    All-contains (IsSnapshotAt names metas) ordered (record { place = r.place; meta = l.meta }) turns.each r.one in
    let count : length metas ≡ length parts = length-map parts (λ (p : ImageParts). p.meta) in
    let within : r.place < length parts = omega (arith, s.within, count) in
    let file = snapshot_file (name_at names r.place) in
    let g : IsGoodImage folder size (size / 4096) file None r.part =
    subst (IsGoodImage folder size (size / 4096) file None) r.at (good.good r.place r.part (omega (arith, within, good.count_is))) in
    let part_told : told_at metas r.place ≡ r.part.meta =
    get_or-map (λ (p : ImageParts). p.meta) parts r.place r.part _ within ∙ ap (λ (p : ImageParts). p.meta) r.at in
    subst (λ f. IsPartOf folder f (meta_at stamps node (Some i)) (disk_at node (Some i)) (own_at node (Some i)))
    (sym (ap (λ (m : LayerMeta). snapshot_file m.name) same.1 ∙ ap snapshot_file s.named))
    (part_of folder size file None r.part (meta_at stamps node (Some i)) (disk_at node (Some i)) (own_at node (Some i)) l.image g
    (ap (layer_meta_of stamps.now) same.1 ∙ told_now stamps.now l.meta (told_at metas r.place) s.told s.timed ∙ part_told)
    (sizes.disks (Some i) less) (sizes.owns (Some i) less) (λ k. built.own (Some i) k less)
    (subst (λ f. IsReadFrom folder f r.part.spans.items l.image) g.good.right.named
    (r.read (length_by_name folder size (size / 4096) file None r.part g))))

-- ---- the head

head_told : (node : Node) (number : ℕ) (m : DiskMeta) → node.number ≡ number → m.name ≡ head_file number
    → option_map snapshot_file node.on ≡ m.parent → m.removed ≡ false
    → head_meta_of (record { created = m.created; user_created = m.user_created }) node ≡ m
head_told node number m n name on kept = λ i. record {
  created = m.created;
  name = (ap head_file n ∙ sym name) i;
  parent = on i;
  removed = sym kept i;
  user_created = m.user_created;
}

pub head_part : (folder : Folder) (size : ℕ) (parts : FolderParts) (node : Node) (t : Tree) → IsBuiltOf t size node → HasSizes size node
    → node.number ≡ parts.volume.head → option_map snapshot_file node.on ≡ parts.head.meta.parent
    → IsGoodImage folder size (size / 4096) (head_file parts.volume.head) (Some parts.volume) parts.head
    → (HasLength folder parts.head.meta.name size → IsReadFrom folder parts.head.meta.name parts.head.spans.items t.head)
    → IsPartOf folder (image_at node None) (meta_at (stamps_in parts) node None) (disk_at node None)
    (own_at node None)
head_part folder size parts node t built sizes number on g read =
    let v = parts.volume in
    let m = parts.head.meta in
    let file = head_file v.head in
    let meta = meta_at (stamps_in parts) node None in
    subst (λ f. IsPartOf folder f meta (disk_at node None) (own_at node None)) (sym (ap head_file number))
    (part_of folder size file (Some v) parts.head meta (disk_at node None) (own_at node None) t.head g
    (head_told node v.head m number g.good.right.named on (g.good.right.alike v refl).0)
    (sizes.disks None tt) (sizes.owns None tt) (λ k. built.own None k tt)
    (subst (λ f. IsReadFrom folder f parts.head.spans.items t.head) g.good.right.named
    (read (length_by_name folder size (size / 4096) file (Some v) parts.head g))))

-- ---- the whole

pub folder_of : (folder : Folder) (size : ℕ) (parts : FolderParts) (ordered : List OrderedLayer) (below : Option (List ℕ)) (node : Node)
    (t : Tree) → CanBeBuilt size parts ordered below → IsBuiltOf t size node → HasSizes size node → metas_of node ≡ newest_first ordered
    → node.number ≡ parts.volume.head → node.on ≡ below → All (IsLayerRead folder size parts.snapshots.items ordered) t.layers
    → (HasLength folder parts.head.meta.name size → IsReadFrom folder parts.head.meta.name parts.head.spans.items t.head)
    → AreGoodParts folder size parts → IsFolderOf folder (stamps_in parts) false node
folder_of folder size parts ordered below node t can built sizes metas number on layers head has =
    let names = map string_bytes parts.names.items in
    let stands : option_map snapshot_file node.on ≡ parts.head.meta.parent = ap (option_map snapshot_file) on ∙ can.file in
    record {
      volume = volume_of folder size parts.volume node has.volume number
          (stands ∙ (has.head_good.good.right.alike parts.volume refl).1) built.disk;
      layers = record {
        parts = λ place. part_at place;
        no_more = λ name text named there.
            subst (λ ns. Contains ns name) (map-map (λ (k : Kept). k.meta) name_in node.layers)
            (named_in names (snapshots.metas_of parts.snapshots.items) ordered (metas_of node) name can.in_turn can.known.listed.count
            metas (has.listed.all name (named, ap is_some there)));
      };
    }
  where
    part_at : (place : Option ℕ) → IsPlace node place
        → IsPartOf folder (image_at node place) (meta_at (stamps_in parts) node place)
        (disk_at node place) (own_at node place)
    part_at None there =
        head_part folder size parts node t built sizes number (ap (option_map snapshot_file) on ∙ can.file) has.head_good head
    part_at (Some i) there =
        layer_part folder size (stamps_in parts) (map string_bytes parts.names.items) parts.snapshots.items ordered node t i there
        built sizes can.in_turn has.good layers
