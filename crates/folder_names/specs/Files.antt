-- The files of a replica's folder, by their names. The format is this project's profile of a replica's folder.
use Rattle.std.specs.Prelude.{◌≡◌, ℕ, List, ◌++◌, codes, Option}
use Rattle.chain_meta.specs.ImageNames.{IsImageName}

-- what the file of each name holds; None where there is none
abbrev pub Folder : Type 0
Folder = List ℕ → Option (List ℕ)

-- the metadata of the volume
abbrev pub volume_file : List ℕ
volume_file = codes "volume.meta"

-- the metadata of an image
abbrev pub meta_of : List ℕ → List ℕ
meta_of image = image ++ codes ".meta"

-- the map of an image
abbrev pub map_of : List ℕ → List ℕ
map_of image = image ++ codes ".map"

-- the file is the image, its map or its metadata
pub data IsFileOf (image : List ℕ) : List ℕ → Type 0 where
  IsImage : {f : List ℕ} → f ≡ image → IsFileOf image f
  IsMap : {f : List ℕ} → f ≡ map_of image → IsFileOf image f
  IsMeta : {f : List ℕ} → f ≡ meta_of image → IsFileOf image f

-- the file is one of some image
abbrev pub IsOfAnImage : List ℕ → Type 0
IsOfAnImage file = (image : List ℕ) × IsImageName image × IsFileOf image file
