-- The replica that a folder is: its layers, its head with what is told of it, and the blocks that each of them itself has.
use Rattle.std.specs.Prelude.{◌≡◌, ◌≤◌, ℕ, Bool, true, false, List, length, Option, Some, None, option_map, unwrap_or}
use Rattle.std.specs.Prelude.{Contains}
use Rattle.vol_units.specs.Name.{IsName}
use Rattle.image_maps.specs.Maps.{IsMap, has_block}
use Rattle.image_maps.specs.declared.span.BlockSpan.{BlockSpan}
use Rattle.chain_meta.specs.ImageNames.{head_file, snapshot_file}
use Rattle.chain_meta.specs.Kinds.{largest_meta}
use Rattle.chain_meta.specs.DiskMetas.{SaysDisk}
use Rattle.chain_meta.specs.VolumeMetas.{SaysVolume}
use Rattle.chain_meta.specs.declared.disk_meta.DiskMeta.{DiskMeta}
use Rattle.chain_meta.specs.declared.volume_meta.VolumeMeta.{VolumeMeta}
use Rattle.layer_chain.specs.declared.layer.LayerMeta.{LayerMeta}
use Rattle.replica_node.specs.Node.{Node, has_own, layer_names}
use Rattle.replica_node.specs.Held.{block_of}
use Rattle.replica_node.specs.Places.{kept_at, IsPlace, disk_at, own_at}
use Rattle.folder_names.specs.Files.{Folder, volume_file, meta_of, map_of}
use Rattle.replica_shelf.specs.declared.head.HeadMeta.{HeadMeta}

-- ---- the files of one layer, or of the head

-- the map is there, and lists just the blocks that are told to be there
pub record IsMapOf (folder : Folder) (image : List ℕ) (own : List Bool) : Type 0 where
  pub text : List ℕ
  pub there : folder (map_of image) ≡ Some text
  pub spans : List BlockSpan
  pub is_map : IsMap text (length own) spans
  pub told : (block : ℕ) → has_block spans block ≡ has_own own block

-- the image is there, has the length of the disk, and holds those blocks of it; its other bytes say nothing
pub record HoldsBlocks (folder : Folder) (image disk : List ℕ) (own : List Bool) : Type 0 where
  pub bytes : List ℕ
  pub there : folder image ≡ Some bytes
  pub whole : length bytes ≡ length disk
  pub blocks : (block : ℕ) → has_own own block ≡ true → block_of bytes block ≡ block_of disk block

-- the metadata of the image is there, short enough to be read, and says this
pub record IsMetaOf (folder : Folder) (image : List ℕ) (meta : DiskMeta) : Type 0 where
  pub text : List ℕ
  pub there : folder (meta_of image) ≡ Some text
  pub few : length text ≤ largest_meta
  pub says : SaysDisk text meta

-- the three files tell this of it, and hold the blocks that it itself has
pub record IsPartOf (folder : Folder) (image : List ℕ) (meta : DiskMeta) (disk : List ℕ) (own : List Bool) : Type 0 where
  pub listed : IsMapOf folder image own
  pub held : HoldsBlocks folder image disk own
  pub described : IsMetaOf folder image meta

-- the metadata of the volume is there, short enough to be read, and says this
pub record IsVolumeOf (folder : Folder) (meta : VolumeMeta) : Type 0 where
  pub text : List ℕ
  pub there : folder volume_file ≡ Some text
  pub few : length text ≤ largest_meta
  pub says : SaysVolume text meta

-- ---- what is told of a replica

-- beside the replica: the time of the run that saves it, and what is told of its head
pub record Stamps : Type 0 where
  pub now : List ℕ
  pub head : HeadMeta

-- of a layer, where one that came with no time was made by the run that saves it

abbrev pub layer_meta_of : List ℕ → LayerMeta → DiskMeta
layer_meta_of now m = record {
  created = unwrap_or m.created now;
  name = snapshot_file m.name;
  parent = option_map snapshot_file m.parent;
  removed = m.marked;
  user_created = m.user_created;
}

-- of the head
abbrev pub head_meta_of : HeadMeta → Node → DiskMeta
head_meta_of head node = record {
  created = head.created;
  name = head_file node.number;
  parent = option_map snapshot_file node.on;
  removed = false;
  user_created = head.user_created;
}

-- of the layer at a place, or of the head where none is given
abbrev pub meta_at : Stamps → Node → Option ℕ → DiskMeta
meta_at stamps node None = head_meta_of stamps.head node
meta_at stamps node (Some place) = layer_meta_of stamps.now (kept_at node.layers place).meta

-- its image
abbrev pub image_at : Node → Option ℕ → List ℕ
image_at node None = head_file node.number
image_at node (Some place) = snapshot_file (kept_at node.layers place).meta.name

-- of the volume: whether the folder is dirty, and whether the replica is in ERR
abbrev pub volume_meta_of : Bool → Bool → Node → VolumeMeta
volume_meta_of dirty failed node = record {
  dirty = dirty;
  rebuilding = false;
  failed = failed;
  head = node.number;
  parent = option_map snapshot_file node.on;
  size = length node.disk;
}

-- ---- the whole

-- the folder has each layer of the replica and its head, and no other layer
pub record HasParts (folder : Folder) (stamps : Stamps) (node : Node) : Type 0 where
  pub parts : (place : Option ℕ) → IsPlace node place
      → IsPartOf folder (image_at node place) (meta_at stamps node place) (disk_at node place) (own_at node place)
  pub no_more : (name text : List ℕ) → IsName name → folder (meta_of (snapshot_file name)) ≡ Some text
      → Contains (layer_names node.layers) name

-- the folder is that replica, whole and not dirty, in ERR or not
pub record IsFolderOf (folder : Folder) (stamps : Stamps) (failed : Bool) (node : Node) : Type 0 where
  pub volume : IsVolumeOf folder (volume_meta_of false failed node)
  pub layers : HasParts folder stamps node
