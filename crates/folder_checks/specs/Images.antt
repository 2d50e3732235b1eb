-- One image of a folder: its metadata, its map and its length, and the first of these that is not good.
use Rattle.std.specs.Prelude.{◌≡◌, ◌≢◌, ◌⊎◌, ℕ, false, List, length, Option, Some, None, string_bytes}
use Rattle.image_maps.specs.Maps.{IsMap, IsBadAt}
use Rattle.image_maps.specs.declared.span.BlockSpan.{BlockSpan}
use Rattle.chain_meta.specs.DiskMetas.{SaysDisk}
use Rattle.chain_meta.specs.declared.disk_meta.DiskMeta.{DiskMeta}
use Rattle.chain_meta.specs.declared.volume_meta.VolumeMeta.{VolumeMeta}
use Rattle.folder_names.specs.Files.{Folder, meta_of, map_of}
use Rattle.folder_checks.specs.Told.{FileTells}
use Rattle.folder_checks.specs.declared.parts.ImageParts.{ImageParts}
use Rattle.folder_checks.specs.declared.parts.ImageCheck.{ImageCheck}
use Rattle.folder_checks.specs.declared.parts.ImageCheck.TheVariants as check

-- the metadata of an image has its name, and that of the head no mark, and the parent that the volume's tells
pub record IsRight (image : List ℕ) (head : Option VolumeMeta) (meta : DiskMeta) : Type 0 where
  pub named : meta.name ≡ image
  pub alike : (v : VolumeMeta) → head ≡ Some v → (meta.removed ≡ false) × (meta.parent ≡ v.parent)

-- ---- the metadata

pub record IsGoodMeta (folder : Folder) (image : List ℕ) (head : Option VolumeMeta) (meta : DiskMeta) : Type 0 where
  pub told : FileTells folder (meta_of image) SaysDisk meta
  pub right : IsRight image head meta

abbrev pub HasGoodMeta : Folder → List ℕ → Option VolumeMeta → Type 0
HasGoodMeta folder image head = (meta : DiskMeta) × IsGoodMeta folder image head meta

-- ---- the map, of so many blocks

-- it is not there, or is none, and that is the place to tell
abbrev pub IsBadMap : Folder → List ℕ → ℕ → ℕ → Type 0
IsBadMap folder image blocks place =
    ((folder (map_of image) ≡ None) × (place ≡ 0))
    ⊎ ((text : List ℕ) × (folder (map_of image) ≡ Some text) × IsBadAt text blocks place)

-- it is there, and lists these runs
abbrev pub IsMapThere : Folder → List ℕ → ℕ → List BlockSpan → Type 0
IsMapThere folder image blocks spans = (text : List ℕ) × (folder (map_of image) ≡ Some text) × IsMap text blocks spans

abbrev pub HasGoodMap : Folder → List ℕ → ℕ → Type 0
HasGoodMap folder image blocks = (spans : List BlockSpan) × IsMapThere folder image blocks spans

-- ---- the image itself

-- it is there and has that length
abbrev pub HasLength : Folder → List ℕ → ℕ → Type 0
HasLength folder image size = (bytes : List ℕ) × (folder image ≡ Some bytes) × (length bytes ≡ size)

-- it is not so, and that is the place to tell: its length, and 0 where it is not there
abbrev pub HasOtherLength : Folder → List ℕ → ℕ → ℕ → Type 0
HasOtherLength folder image size place =
    ((folder image ≡ None) × (place ≡ 0))
    ⊎ ((bytes : List ℕ) × (folder image ≡ Some bytes) × (place ≡ length bytes) × (length bytes ≢ size))

-- ---- all three, in this order

-- The first that is not good, as the file and the place to tell. Of the head it is known what the volume's metadata says.
pub data ImageFault (folder : Folder) (size blocks : ℕ) (image : List ℕ) (head : Option VolumeMeta)
    : List ℕ → ℕ → Type 0 where
  BadMeta : (HasGoodMeta folder image head → ⊥) → ImageFault folder size blocks image head (meta_of image) 0
  BadMap : (place : ℕ) → HasGoodMeta folder image head → IsBadMap folder image blocks place
      → ImageFault folder size blocks image head (map_of image) place
  BadLength : (place : ℕ) → HasGoodMeta folder image head → HasGoodMap folder image blocks
      → HasOtherLength folder image size place → ImageFault folder size blocks image head image place

-- all are good, and these are its parts
pub record IsGoodImage (folder : Folder) (size blocks : ℕ) (image : List ℕ) (head : Option VolumeMeta)
    (parts : ImageParts) : Type 0 where
  pub good : IsGoodMeta folder image head parts.meta
  pub listed : IsMapThere folder image blocks parts.spans.items
  pub whole : HasLength folder image size

-- what was found of an image
abbrev pub IsImageCheck : Folder → ℕ → ℕ → List ℕ → Option VolumeMeta → ImageCheck → Type 0
IsImageCheck folder size blocks image head (check.Good parts) = IsGoodImage folder size blocks image head parts
IsImageCheck folder size blocks image head (check.Bad damage) =
    ImageFault folder size blocks image head (string_bytes damage.file) damage.place
