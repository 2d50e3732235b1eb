-- What is read of an image: the blocks that its map lists, as the file holds them.
use Rattle.std.specs.Prelude.{◌≡◌, ℕ, Bool, List, Option, Some, None, Result, Ok, Err, if◌then◌else◌, string_bytes}
use Rattle.sparse_image.specs.Image.{Tables, block_at}
use Rattle.image_maps.specs.Maps.{has_block}
use Rattle.image_maps.specs.declared.span.BlockSpan.{BlockSpan}
use Rattle.replica_node.specs.Held.{block_of}
use Rattle.folder_names.specs.Files.{Folder}
use Rattle.folder_checks.specs.Images.{HasLength, HasOtherLength}
use Rattle.folder_checks.specs.declared.parts.ImageParts.{ImageParts}
use Rattle.folder_checks.specs.declared.parts.Damage.{Damage}

-- the image has just the blocks that the runs list, as the file holds them
pub record IsReadFrom (folder : Folder) (file : List ℕ) (spans : List BlockSpan) (image : Tables) : Type 0 where
  pub bytes : List ℕ
  pub there : folder file ≡ Some bytes
  pub blocks : (block : ℕ) → block_at image block ≡ (if has_block spans block then Some (block_of bytes block) else None)

-- what is read of a file that is to have that length, or the length that it has
abbrev pub IsImageRead : Folder → ℕ → List ℕ → List BlockSpan → Result Tables ℕ → Type 0
IsImageRead folder size file spans (Ok image) = HasLength folder file size → IsReadFrom folder file spans image
IsImageRead folder size file spans (Err place) = HasOtherLength folder file size place

-- the same of the image whose parts these are
abbrev pub IsPartRead : Folder → ℕ → ImageParts → Result Tables Damage → Type 0
IsPartRead folder size part (Ok image) = HasLength folder part.meta.name size → IsReadFrom folder part.meta.name part.spans.items image
IsPartRead folder size part (Err damage) =
    (string_bytes damage.file ≡ part.meta.name) × HasOtherLength folder part.meta.name size damage.place

-- ---- how far

-- these blocks are read of the bytes, and the image keeps its others
abbrev pub ReadsBlocks : List ℕ → (ℕ → Bool) → Tables → Tables → Type 0
ReadsBlocks bytes these old new =
    (block : ℕ) → block_at new block ≡ (if these block then Some (block_of bytes block) else block_at old block)

-- They are read, where the file has that length. Or a read stops, and it has not.
abbrev pub ReadsOrStops : Folder → ℕ → List ℕ → (ℕ → Bool) → Tables → Tables → Option ℕ → Type 0
ReadsOrStops folder size file these old new None = (held : HasLength folder file size) → ReadsBlocks held.0 these old new
ReadsOrStops folder size file these old new (Some stopped) = HasLength folder file size → ⊥
