-- What the steps of a check find.
use Rattle.std.specs.Prelude.{◌≡◌, ℕ, ◌/◌, ◌<◌, ◌≤◌, ⊤, List, length, All, Option, Some, None}
use Rattle.vol_units.specs.declared.size.TheConstants.{BLOCK_BYTES}
use Rattle.chain_meta.specs.ImageNames.{snapshot_file}
use Rattle.chain_meta.specs.Kinds.{largest_head}
use Rattle.chain_meta.specs.declared.disk_meta.DiskMeta.{DiskMeta}
use Rattle.chain_meta.specs.declared.volume_meta.VolumeMeta.{VolumeMeta}
use Rattle.folder_names.specs.Files.{Folder}
use Rattle.folder_checks.specs.Images.{IsRight, IsGoodMeta, HasGoodMeta}
use Rattle.folder_checks.specs.Snapshots.{name_at, told_at, metas_of}
use Rattle.folder_checks.specs.Checks.{IsUnflagged, IsMapped}
use Rattle.folder_checks.specs.declared.parts.ImageParts.{ImageParts}
use Rattle.folder_checks.specs.declared.parts.ImageCheck.{ImageCheck}
use Rattle.folder_checks.specs.declared.parts.ImageCheck.TheVariants as check

-- the good metadata of an image, or that it has none
abbrev pub IsGoodFound : Folder → List ℕ → Option VolumeMeta → Option DiskMeta → Type 0
IsGoodFound folder image head None = HasGoodMeta folder image head → ⊥
IsGoodFound folder image head (Some meta) = IsGoodMeta folder image head meta

-- of what was found, what is right for the image
abbrev pub KeepsRight : List ℕ → Option VolumeMeta → Option DiskMeta → Option DiskMeta → Type 0
KeepsRight image head found None = (m : DiskMeta) → found ≡ Some m → IsRight image head m → ⊥
KeepsRight image head found (Some m) = (found ≡ Some m) × IsRight image head m

-- ---- what is known whether or not shelves tell what they hold

-- of an image that was found good
abbrev pub IsKnownImage : ℕ → List ℕ → Option VolumeMeta → ImageCheck → Type 0
IsKnownImage blocks image head (check.Good parts) = IsRight image head parts.meta × IsMapped blocks parts
IsKnownImage blocks image head (check.Bad damage) = ⊤

-- of the first snapshots of these
pub record AreKnownImages (blocks : ℕ) (names : List (List ℕ)) (count : ℕ) (parts : List ImageParts) : Type 0 where
  pub count_is : length parts ≡ count
  pub named : (place : ℕ) → place < count → (told_at (metas_of parts) place).name ≡ snapshot_file (name_at names place)
  pub mapped : All (IsMapped blocks) parts

-- by what images are looked at: a size in bytes and blocks, and metadata of the volume that nothing makes unclean
pub record IsGiven (size blocks : ℕ) (volume : VolumeMeta) : Type 0 where
  pub count : blocks ≡ size / BLOCK_BYTES
  pub unflagged : IsUnflagged size volume
  pub low : volume.head ≤ largest_head
