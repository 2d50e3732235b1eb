-- The snapshots of a folder as layers, in the order in which they come.
use Rattle.std.specs.Prelude.{◌≡◌, ℕ, ◌<◌, ◌≤◌, ◌^◌, List, [], length, map, All, Some, Contains}
use Rattle.coalesce.specs.Folding.{snapshot_of}
use Rattle.chain_meta.specs.declared.disk_meta.DiskMeta.{DiskMeta}
use Rattle.replica_compare.specs.Order.{AreInTurn}
use Rattle.replica_shelf.specs.Folder.{layer_meta_of}
use Rattle.folder_checks.specs.Snapshots.{name_at, told_at}
use Rattle.folder_layers.specs.Layers.{AreFitBelow}
use Rattle.folder_layers.specs.declared.order.OrderedLayer.{OrderedLayer}

-- they may all be layers, below a head whose number has ten digits at most
abbrev pub CanBeLayers : List (List ℕ) → List DiskMeta → Type 0
CanBeLayers names metas = (number : ℕ) × (number ≤ 10 ^ 10) × AreFitBelow number names metas (length metas)

-- the layer is the snapshot at its place
pub record IsSnapshotAt (names : List (List ℕ)) (metas : List DiskMeta) (l : OrderedLayer) : Type 0 where
  pub within : l.place < length metas
  pub named : l.meta.name ≡ name_at names l.place
  pub told : layer_meta_of [] l.meta ≡ told_at metas l.place
  pub timed : l.meta.created ≡ Some (told_at metas l.place).created

-- The layers are the snapshots, each once, the oldest first: each is, in byte order of names, the first of those left whose
-- parent is there.
pub record AreOrdered (names : List (List ℕ)) (metas : List DiskMeta) (layers : List OrderedLayer) : Type 0 where
  pub count : length layers ≡ length metas
  pub each : All (IsSnapshotAt names metas) layers
  pub all : (place : ℕ) → place < length metas → Contains (map (λ l. l.place) layers) place
  pub turn : AreInTurn [] (map (λ l. snapshot_of l.meta) layers)
