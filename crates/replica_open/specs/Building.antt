-- The replica that is built of the images of a folder.
use Rattle.std.specs.Prelude.{◌≡◌, ℕ, ◌+◌, ◌<◌, ◌≤◌, ◌/◌, ⊤, false, List, [], length, map, reverse, All, Contains, slice_index_or}
use Rattle.std.specs.Prelude.{Option, IfSome, Result, Ok, Err, string_bytes}
use Rattle.std.specs.Option.{option_map}
use Rattle.vol_units.specs.declared.size.TheConstants.{BLOCK_BYTES}
use Rattle.chain_meta.specs.ImageNames.{snapshot_file}
use Rattle.layer_chain.specs.Changes.{metas_in}
use Rattle.layer_chain.specs.Tree.{Tree}
use Rattle.layer_chain.specs.declared.layer.Layer.{Layer}
use Rattle.layer_chain.specs.declared.layer.LayerMeta.{LayerMeta}
use Rattle.coalesce.specs.Folding.{snapshot_of}
use Rattle.replica_node.specs.Node.{Node, HasPlaces}
use Rattle.replica_node.specs.Held.{metas_of}
use Rattle.replica_node.specs.Places.{IsPlace, disk_at, own_at}
use Rattle.replica_compare.specs.Order.{AreInTurn, IsInOrder}
use Rattle.folder_names.specs.Files.{Folder}
use Rattle.replica_shelf.specs.Folder.{Stamps, IsFolderOf}
use Rattle.replica_shelf.specs.declared.head.HeadMeta.{HeadMeta}
use Rattle.folder_checks.specs.Images.{HasLength}
use Rattle.folder_checks.specs.Snapshots as snapshots
use Rattle.folder_checks.specs.Checks.{AreGoodParts, AreKnown}
use Rattle.folder_checks.specs.declared.parts.ImageParts.{ImageParts}
use Rattle.folder_checks.specs.declared.parts.FolderParts.{FolderParts}
use Rattle.folder_checks.specs.declared.parts.Damage.{Damage}
use Rattle.folder_layers.specs.Ordered.{AreOrdered}
use Rattle.folder_layers.specs.declared.order.OrderedLayer.{OrderedLayer}
use Rattle.replica_open.specs.Reading.{IsReadFrom, IsPartRead}

-- what is told of layers, the newest first, where these are the oldest first
abbrev pub newest_first : List OrderedLayer → List LayerMeta
newest_first layers = reverse (map (λ l. l.meta) layers)

-- ---- the layers

-- the layer is one of these, and its image is read of that of the snapshot at its place
pub record IsLayerRead (folder : Folder) (size : ℕ) (snapshots : List ImageParts) (ordered : List OrderedLayer) (l : Layer) : Type 0 where
  pub place : ℕ
  pub one : Contains ordered (record { place = place; meta = l.meta })
  pub part : ImageParts
  pub at : slice_index_or snapshots place part ≡ part
  pub read : HasLength folder part.meta.name size → IsReadFrom folder part.meta.name part.spans.items l.image

-- all layers of the tree are, or the image of a snapshot fell short
abbrev pub AreLayersRead : Folder → ℕ → List ImageParts → List OrderedLayer → Result Tree Damage → Type 0
AreLayersRead folder size snapshots ordered (Ok t) = All (IsLayerRead folder size snapshots ordered) t.layers
AreLayersRead folder size snapshots ordered (Err damage) =
    (part : ImageParts) × Contains snapshots part × IsPartRead folder size part (Err damage)

-- the tree has these layers, and a place for each page of so many blocks
pub record HasLayers (blocks : ℕ) (ordered : List OrderedLayer) (t : Tree) : Type 0 where
  pub metas : metas_in t.layers ≡ newest_first ordered
  pub places : All (HasPlaces blocks) t.layers

-- these can be pushed, one after another, onto no layer
pub record CanBePushed (count : ℕ) (ordered : List OrderedLayer) : Type 0 where
  pub within : All (λ l. l.place < count) ordered
  pub turn : AreInTurn [] (map (λ l. snapshot_of l.meta) ordered)
  pub few : length ordered + 1 ≤ 250

-- ---- the replica

-- What is to be built: good parts of a folder, the order of its snapshots as layers, and the name of that below the head.
pub record CanBeBuilt (bytes : ℕ) (parts : FolderParts) (ordered : List OrderedLayer) (below : Option (List ℕ)) : Type 0 where
  pub known : AreKnown bytes parts
  pub in_turn : AreOrdered (map string_bytes parts.names.items) (snapshots.metas_of parts.snapshots.items) ordered
  pub few : length parts.snapshots.items + 1 ≤ 250
  pub file : option_map snapshot_file below ≡ parts.head.meta.parent
  pub named : IfSome below (Contains (map string_bytes parts.names.items))

-- the replica has these layers and that head
pub record IsBuilt (bytes : ℕ) (parts : FolderParts) (ordered : List OrderedLayer) (below : Option (List ℕ)) (node : Node) : Type 0 where
  pub number : node.number ≡ parts.volume.head
  pub on : node.on ≡ below
  pub size : length node.disk ≡ bytes
  pub metas : metas_of node ≡ newest_first ordered
  pub in_order : IsInOrder node

abbrev pub IsBuiltOrNot : ℕ → FolderParts → List OrderedLayer → Option (List ℕ) → Result Node Damage → Type 0
IsBuiltOrNot bytes parts ordered below (Ok node) = IsBuilt bytes parts ordered below node
IsBuiltOrNot bytes parts ordered below (Err damage) = ⊤

-- what is told of the head
abbrev pub head_in : FolderParts → HeadMeta
head_in parts = record { created = parts.head.meta.created; user_created = parts.head.meta.user_created }

-- what is told beside the replica, of which each layer tells a time, so that this one is the time of none
abbrev pub stamps_in : FolderParts → Stamps
stamps_in parts = record { now = parts.head.meta.created; head = head_in parts }

-- where its parts are those of a folder, the folder is that replica, of which no image fell short
abbrev pub IsReadReplica : Folder → ℕ → FolderParts → Result Node Damage → Type 0
IsReadReplica folder bytes parts (Ok node) =
    AreGoodParts folder bytes parts → IsFolderOf folder (stamps_in parts) false node
IsReadReplica folder bytes parts (Err damage) = AreGoodParts folder bytes parts → ⊥

-- ---- how far

-- the head and each layer have so many bytes, and a place for each block of them
pub record HasSizes (bytes : ℕ) (node : Node) : Type 0 where
  pub disks : (place : Option ℕ) → IsPlace node place → length (disk_at node place) ≡ bytes
  pub owns : (place : Option ℕ) → IsPlace node place → length (own_at node place) ≡ bytes / BLOCK_BYTES
