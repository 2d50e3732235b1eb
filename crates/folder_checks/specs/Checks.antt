-- What is found of a folder, where each file is looked at by itself: unclean, damaged, or all good. The checks come in one order.
use Rattle.std.specs.Prelude.{◌≡◌, ◌≢◌, ℕ, ◌<◌, ◌≤◌, ◌/◌, ⊤, true, false, List, All, length, map, Some, None}
use Rattle.std.specs.Prelude.{string_bytes, slice_index_or}
use Rattle.vol_units.specs.declared.size.TheConstants.{BLOCK_BYTES}
use Rattle.image_maps.specs.Maps.{AreSpans}
use Rattle.chain_meta.specs.ImageNames.{head_file, snapshot_file}
use Rattle.chain_meta.specs.Kinds.{largest_head}
use Rattle.chain_meta.specs.VolumeMetas.{SaysVolume}
use Rattle.chain_meta.specs.declared.volume_meta.VolumeMeta.{VolumeMeta}
use Rattle.folder_names.specs.Files.{Folder, volume_file}
use Rattle.folder_checks.specs.Told.{FileTells}
use Rattle.folder_checks.specs.Images.{IsRight, ImageFault, IsGoodImage}
use Rattle.folder_checks.specs.Snapshots.{name_at, AreSnapshots, AreSnapshotMetas, metas_of}
use Rattle.folder_checks.specs.declared.parts.Flag.{Flag}
use Rattle.folder_checks.specs.declared.parts.Flag.TheVariants as flag
use Rattle.folder_checks.specs.declared.parts.ImageParts.{ImageParts}
use Rattle.folder_checks.specs.declared.parts.FolderParts.{FolderParts}
use Rattle.folder_checks.specs.declared.parts.FolderCheck.{FolderCheck}
use Rattle.folder_checks.specs.declared.parts.FolderCheck.TheVariants as check

-- ---- the metadata of the volume

-- what makes a folder of another size, or that was left so, unclean: the first in this order
abbrev pub IsFlagged : ℕ → VolumeMeta → Flag → Type 0
IsFlagged size v flag.Dirty = v.dirty ≡ true
IsFlagged size v flag.Rebuilding = (v.dirty ≡ false) × (v.rebuilding ≡ true)
IsFlagged size v flag.Error = (v.dirty ≡ false) × (v.rebuilding ≡ false) × (v.failed ≡ true)
IsFlagged size v flag.Size = (v.dirty ≡ false) × (v.rebuilding ≡ false) × (v.failed ≡ false) × (v.size ≢ size)

pub record IsUnflagged (size : ℕ) (v : VolumeMeta) : Type 0 where
  pub clean : v.dirty ≡ false
  pub built : v.rebuilding ≡ false
  pub unfailed : v.failed ≡ false
  pub same_size : v.size ≡ size

-- the volume's metadata is there, says this, and nothing makes it unclean
pub record IsCleanVolume (folder : Folder) (size : ℕ) (v : VolumeMeta) : Type 0 where
  pub told : FileTells folder volume_file SaysVolume v
  pub clean : IsUnflagged size v

-- ---- the images

-- the first snapshots of these are good, and these are their parts
pub record AreGood (folder : Folder) (size blocks : ℕ) (names : List (List ℕ)) (count : ℕ) (parts : List ImageParts) : Type 0 where
  pub count_is : length parts ≡ count
  pub good : (place : ℕ) (default : ImageParts) → place < count
      → IsGoodImage folder size blocks (snapshot_file (name_at names place)) None (slice_index_or parts place default)

-- one of them is not, at that file and place, and all before it are
pub record HasBadSnapshot (folder : Folder) (size blocks : ℕ) (names : List (List ℕ)) (file : List ℕ) (place : ℕ) : Type 0 where
  pub at : ℕ
  pub within : at < length names
  pub parts : List ImageParts
  pub before : AreGood folder size blocks names at parts
  pub fault : ImageFault folder size blocks (snapshot_file (name_at names at)) None file place

-- ---- the whole

-- the head and all snapshots are good, by themselves
pub record AreAllGood (folder : Folder) (size blocks : ℕ) (v : VolumeMeta) (head : ImageParts) (names : List (List ℕ))
    (snapshots : List ImageParts) : Type 0 where
  pub volume : IsCleanVolume folder size v
  pub head_good : IsGoodImage folder size blocks (head_file v.head) (Some v) head
  pub listed : AreSnapshots folder names
  pub good : AreGood folder size blocks names (length names) snapshots

-- why a folder is damaged, at which file and place
pub data FolderFault (folder : Folder) (size blocks : ℕ) : List ℕ → ℕ → Type 0 where
  BadVolume : ((v : VolumeMeta) → FileTells folder volume_file SaysVolume v → ⊥) → FolderFault folder size blocks volume_file 0
  BadHead : (file : List ℕ) (place : ℕ) (v : VolumeMeta) → IsCleanVolume folder size v
      → ImageFault folder size blocks (head_file v.head) (Some v) file place → FolderFault folder size blocks file place
  BadSnapshot : (file : List ℕ) (place : ℕ) (v : VolumeMeta) (head : ImageParts) (names : List (List ℕ))
      → IsCleanVolume folder size v → IsGoodImage folder size blocks (head_file v.head) (Some v) head
      → AreSnapshots folder names → HasBadSnapshot folder size blocks names file place → FolderFault folder size blocks file place

-- these parts are all good
abbrev pub AreGoodParts : Folder → ℕ → FolderParts → Type 0
AreGoodParts folder size parts = AreAllGood folder size (size / BLOCK_BYTES) parts.volume parts.head
    (map string_bytes parts.names.items) parts.snapshots.items

-- what was found of a folder of a volume of that size
abbrev pub IsFolderCheck : Folder → ℕ → FolderCheck → Type 0
IsFolderCheck folder size (check.Unclean flag) = (v : VolumeMeta) × FileTells folder volume_file SaysVolume v × IsFlagged size v flag
IsFolderCheck folder size (check.Damaged damage) =
    FolderFault folder size (size / BLOCK_BYTES) (string_bytes damage.file) damage.place
IsFolderCheck folder size (check.Whole parts) = AreGoodParts folder size parts

-- ---- what is known of the parts whether or not shelves tell what they hold

-- the runs of an image lie within so many blocks
abbrev pub IsMapped : ℕ → ImageParts → Type 0
IsMapped blocks image = AreSpans 0 blocks image.spans.items

pub record AreKnown (size : ℕ) (parts : FolderParts) : Type 0 where
  pub volume : IsUnflagged size parts.volume
  pub low : parts.volume.head ≤ largest_head
  pub head : IsRight (head_file parts.volume.head) (Some parts.volume) parts.head.meta
  pub listed : AreSnapshotMetas (map string_bytes parts.names.items) (metas_of parts.snapshots.items)
  pub mapped : IsMapped (size / BLOCK_BYTES) parts.head × All (IsMapped (size / BLOCK_BYTES)) parts.snapshots.items

abbrev pub IsKnown : ℕ → FolderCheck → Type 0
IsKnown size (check.Unclean flag) = ⊤
IsKnown size (check.Damaged damage) = ⊤
IsKnown size (check.Whole parts) = AreKnown size parts
