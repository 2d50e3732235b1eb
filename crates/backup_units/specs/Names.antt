-- The names of a store's objects, as Longhorn's backupstore lays them out.
use Rattle.std.specs.Prelude.{ℕ, List, ◌++◌, take, slice_range, codes}
use Rattle.digest.specs.Digest.{digest_text}

-- two folders of two digits each, by the first digits
abbrev pub two_folders : List ℕ → List ℕ
two_folders digits = take 2 digits ++ (codes "/" ++ (slice_range digits 2 4 ++ codes "/"))

-- the folder of a volume
unfoldable pub volume_folder : List ℕ → List ℕ
volume_folder volume = codes "backupstore/volumes/" ++ (two_folders (digest_text volume) ++ (volume ++ codes "/"))

-- the object with the volume's cfg
abbrev pub volume_name : List ℕ → List ℕ
volume_name volume = volume_folder volume ++ codes "volume.cfg"

-- what the names of the cfgs of a volume's backups begin with
abbrev pub cfg_prefix : List ℕ → List ℕ
cfg_prefix volume = volume_folder volume ++ codes "backups/backup_"

-- the object with the cfg of a backup
abbrev pub cfg_name : List ℕ → List ℕ → List ℕ
cfg_name volume backup = cfg_prefix volume ++ (backup ++ codes ".cfg")

-- what the names of a volume's blocks begin with
abbrev pub block_prefix : List ℕ → List ℕ
block_prefix volume = volume_folder volume ++ codes "blocks/"

-- the object with the block of that checksum
abbrev pub block_name : List ℕ → List ℕ → List ℕ
block_name volume checksum = block_prefix volume ++ (two_folders checksum ++ (checksum ++ codes ".blk"))
