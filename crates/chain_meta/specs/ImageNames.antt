-- The file names of images. The format is this project's profile of a replica's folder.
use Rattle.std.specs.Prelude.{◌≡◌, ◌⊎◌, ℕ, ◌^◌, ◌<◌, nat_lt, if◌then◌else◌, List, [], ◌++◌, codes, decimal}
use Rattle.std.specs.Prelude.{Option, Some, None}
use Rattle.vol_units.specs.Name.{IsName}

-- zeros before a number, so that it has three digits at least
abbrev pub zeros_before : ℕ → List ℕ
zeros_before n = if nat_lt n 10 then codes "00" else (if nat_lt n 100 then codes "0" else codes "")

-- the number of a head, in three digits at least, with no more leading zeros than that needs
abbrev pub head_digits : ℕ → List ℕ
head_digits n = zeros_before n ++ decimal n

-- the image of the head of that number
abbrev pub head_file : ℕ → List ℕ
head_file n = codes "volume-head-" ++ (head_digits n ++ codes ".img")

-- the image of the snapshot of that name
abbrev pub snapshot_file : List ℕ → List ℕ
snapshot_file name = codes "volume-snap-" ++ (name ++ codes ".img")

-- the file is that of the head of that number
abbrev pub IsHeadFile : ℕ → List ℕ → Type 0
IsHeadFile n file = (n < 2 ^ 64) × (file ≡ head_file n)

-- the file is that of the snapshot of that name: 1 to 64 of the characters of names
abbrev pub IsSnapshotFile : List ℕ → List ℕ → Type 0
IsSnapshotFile name file = IsName name × (file ≡ snapshot_file name)

-- the file of an image
abbrev pub IsImageName : List ℕ → Type 0
IsImageName file = ((n : ℕ) × IsHeadFile n file) ⊎ ((name : List ℕ) × IsSnapshotFile name file)

-- the parent's file, or the empty text
abbrev pub parent_text : Option (List ℕ) → List ℕ
parent_text None = []
parent_text (Some file) = file

-- a parent, if there is one, is an image
abbrev pub IsGoodParent : Option (List ℕ) → Type 0
IsGoodParent None = Unit {0}
IsGoodParent (Some file) = IsImageName file
