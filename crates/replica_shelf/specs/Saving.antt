-- What is written of a replica, and how far.
use Rattle.std.specs.Prelude.{◌≡◌, ◌≢◌, ◌⊎◌, ℕ, ◌<◌, ◌≤◌, ◌*◌, Bool, true, false, ◌&&◌, nat_lt}
use Rattle.std.specs.Prelude.{List, [], length, Option, Some, None, slice_index_or}
use Rattle.vol_units.specs.Bytes.{zeros}
use Rattle.vol_units.specs.declared.size.TheConstants.{BLOCK_BYTES}
use Rattle.serde_json.specs.Written.{compact_text}
use Rattle.image_maps.specs.Maps.{AreSpans, end_of, has_block}
use Rattle.image_maps.specs.declared.span.BlockSpan.{BlockSpan}
use Rattle.chain_meta.specs.DiskMetas.{disk_data, SaysDisk}
use Rattle.chain_meta.specs.VolumeMetas.{volume_data, SaysVolume}
use Rattle.chain_meta.specs.Kinds.{largest_head, largest_meta}
use Rattle.chain_meta.specs.declared.volume_meta.VolumeMeta.{VolumeMeta}
use Rattle.chain_meta.specs.declared.disk_meta.DiskMeta.{DiskMeta}
use Rattle.shelf_traits.specs.Failing.{FileOn}
use Rattle.shelf_traits.specs.Files.{Files, AllStay, Becomes, written}
use Rattle.replica_node.specs.Node.{Node, has_own}
use Rattle.replica_node.specs.Held.{block_of}
use Rattle.replica_node.specs.Places.{IsPlace, disk_at, own_at}
use Rattle.folder_names.specs.Files.{Folder, volume_file, meta_of, IsFileOf, IsOfAnImage}
use Rattle.replica_shelf.specs.Folder.{Stamps, IsMapOf, image_at, meta_at, volume_meta_of}
use Rattle.replica_shelf.specs.declared.saving.SaveMeta.{SaveMeta}

-- what is told beside a replica
abbrev pub stamps_of : SaveMeta → Stamps
stamps_of meta = record { now = meta.time; head = meta.head }

-- ---- the files of one layer, or of the head

-- the image holds the own blocks of the disk, and zeros where there is none, so that other tools read it too
pub record IsImageOf (folder : Folder) (image disk : List ℕ) (own : List Bool) : Type 0 where
  pub bytes : List ℕ
  pub there : folder image ≡ Some bytes
  pub whole : length bytes ≡ length disk
  pub blocks : (block : ℕ) → has_own own block ≡ true → block_of bytes block ≡ block_of disk block
  pub bare : (block : ℕ) → block < length own → has_own own block ≡ false → block_of bytes block ≡ zeros BLOCK_BYTES

-- the metadata of the image is just what is written of this
pub record IsMetaText (folder : Folder) (image : List ℕ) (meta : DiskMeta) : Type 0 where
  pub there : folder (meta_of image) ≡ Some (compact_text (disk_data meta))
  pub few : length (compact_text (disk_data meta)) ≤ largest_meta
  pub says : SaysDisk (compact_text (disk_data meta)) meta

-- the three files are written
pub record IsWritten (folder : Folder) (image : List ℕ) (meta : DiskMeta) (disk : List ℕ) (own : List Bool) : Type 0 where
  pub listed : IsMapOf folder image own
  pub held : IsImageOf folder image disk own
  pub described : IsMetaText folder image meta

-- those of the layer at a place, or of the head where none is given
abbrev pub IsWrittenAt : Folder → Stamps → Node → Option ℕ → Type 0
IsWrittenAt folder stamps node place =
    IsWritten folder (image_at node place) (meta_at stamps node place) (disk_at node place) (own_at node place)

-- ---- the whole

-- no file of an image is there
abbrev pub IsClear : Folder → Type 0
IsClear folder = (f : List ℕ) → IsOfAnImage f → folder f ≡ None

-- those of these places are written, and no file of another image is there
pub record AreWritten (These : Option ℕ → Type 0) (folder : Folder) (stamps : Stamps) (node : Node) : Type 0 where
  pub parts : (place : Option ℕ) → These place → IsWrittenAt folder stamps node place
  pub no_more : (f : List ℕ) → IsOfAnImage f → ((place : Option ℕ) → These place → IsFileOf (image_at node place) f → ⊥)
      → folder f ≡ None

-- the metadata of the volume is just what is written of this, which is read where the head's number is low
pub record IsVolumeText (folder : Folder) (meta : VolumeMeta) : Type 0 where
  pub there : folder volume_file ≡ Some (compact_text (volume_data meta))
  pub few : length (compact_text (volume_data meta)) ≤ largest_meta
  pub says : meta.head ≤ largest_head → SaysVolume (compact_text (volume_data meta)) meta

-- the folder has these files of the replica, and none of another image
pub record IsSaved (folder : Folder) (stamps : Stamps) (failed : Bool) (node : Node) : Type 0 where
  pub volume : IsVolumeText folder (volume_meta_of false failed node)
  pub layers : AreWritten (IsPlace node) folder stamps node

-- the layers at the first places, so many
abbrev pub IsBelow : ℕ → Option ℕ → Type 0
IsBelow count None = ⊥
IsBelow count (Some place) = place < count

-- a call failed that was to change another file than the metadata of the volume
abbrev pub FellElsewhere : Option FileOn → Type 0
FellElsewhere told = (at : FileOn) × (told ≡ Some at) × (at.file ≢ volume_file)

-- ---- what stays

-- no file but those of the image changes
abbrev pub OtherImagesStay : ℕ → List ℕ → Files → Files → Type 0
OtherImagesStay shelf image old new =
    (s : ℕ) (f : List ℕ) → (s ≢ shelf) ⊎ (IsFileOf image f → ⊥) → new s f ≡ old s f

-- no file but those of images changes
abbrev pub OnlyImages : ℕ → Files → Files → Type 0
OnlyImages shelf old new = (s : ℕ) (f : List ℕ) → (s ≢ shelf) ⊎ (IsOfAnImage f → ⊥) → new s f ≡ old s f

-- files of the image alone change, which is one
pub record PartChanges (shelf : ℕ) (image : List ℕ) (old new : Files) : Type 0 where
  pub others : OtherImagesStay shelf image old new
  pub only : OnlyImages shelf old new

-- no file changes but those of images and the metadata of the volume
abbrev pub ForeignStay : ℕ → Files → Files → Type 0
ForeignStay shelf old new =
    (s : ℕ) (f : List ℕ) → (s ≢ shelf) ⊎ ((IsOfAnImage f → ⊥) × (f ≢ volume_file)) → new s f ≡ old s f

-- ---- how far

-- the runs list the own blocks below that one, and the next may begin there
pub record ListsBelow (spans : List BlockSpan) (own : List Bool) (block : ℕ) : Type 0 where
  pub fit : AreSpans 0 (length own) spans
  pub end : end_of 0 spans ≤ block
  pub told : (k : ℕ) → has_block spans k ≡ (nat_lt k block && has_own own k)

-- the runs list just the own blocks
pub record ListsAll (spans : List BlockSpan) (own : List Bool) : Type 0 where
  pub fit : AreSpans 0 (length own) spans
  pub told : (k : ℕ) → has_block spans k ≡ has_own own k

-- the first own block from that one on, or where there is none, one past the last
pub record IsNextOwn (own : List Bool) (from next : ℕ) : Type 0 where
  pub least : from ≤ next
  pub none : (k : ℕ) → from ≤ k → k < next → has_own own k ≡ false
  pub there : next < length own → has_own own next ≡ true

-- each block from the first up to the end is an own one, and the one at the end is not
pub record IsRun (own : List Bool) (first end : ℕ) : Type 0 where
  pub some : first < end
  pub most : end ≤ length own
  pub all : (k : ℕ) → first ≤ k → k < end → has_own own k ≡ true
  pub last : has_own own end ≡ false

-- the image has that length and the own blocks below that one, and zeros elsewhere
pub record HoldsBelow (folder : Folder) (image disk : List ℕ) (own : List Bool) (block : ℕ) : Type 0 where
  pub bytes : List ℕ
  pub there : folder image ≡ Some bytes
  pub whole : length bytes ≡ length disk
  pub blocks : (k : ℕ) → k < block → has_own own k ≡ true → block_of bytes k ≡ block_of disk k
  pub bare : (k : ℕ) → k < length own → (block ≤ k) ⊎ (has_own own k ≡ false) → block_of bytes k ≡ zeros BLOCK_BYTES

-- the own block stands in the image, or where it is none, nothing changes
pub record PutsBlock (shelf : ℕ) (image disk : List ℕ) (own : List Bool) (block : ℕ) (old new : Files) : Type 0 where
  pub put : has_own own block ≡ true
      → Becomes shelf image (Some (written (old shelf image) (block * BLOCK_BYTES) (block_of disk block))) old new
  pub absent : has_own own block ≡ false → AllStay old new

-- the files of images with the first names are gone, and no files change but those
pub record ClearsFirst (shelf : ℕ) (names : List (List ℕ)) (count : ℕ) (old new : Files) : Type 0 where
  pub gone : (k : ℕ) → k < count → IsOfAnImage (slice_index_or names k []) → new shelf (slice_index_or names k []) ≡ None
  pub kept : (f : List ℕ) → old shelf f ≡ None → new shelf f ≡ None
  pub others : OnlyImages shelf old new
