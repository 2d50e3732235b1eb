-- A backup: for each page of a disk a checksum is listed, or none; and the disk that such a list is.
use Rattle.std.specs.Prelude.{◌≡◌, ◌≢◌, ⊤, ℕ, ◌*◌, ◌<◌, Bool, true, false, if◌then◌else◌, List, [], length, flat_map}
use Rattle.std.specs.Prelude.{Option, None, Some, slice_index_or, unwrap_or}
use Rattle.digest.specs.Digest.{digest_text}
use Rattle.target_traits.specs.Objects.{Objects}
use Rattle.vol_units.specs.Bytes.{bytes_at, zeros}
use Rattle.backup_units.specs.Blocks.{page_bytes, is_zeros, HoldsBlock, KeepsBlocks}
use Rattle.backup_units.specs.Names.{block_name, cfg_name}

-- ---- the disk of a list

-- what the block of a page holds; zeros where none is listed
abbrev pub page_of : Objects → List ℕ → Option (List ℕ) → List ℕ
page_of objects volume None = zeros page_bytes
page_of objects volume (Some checksum) = unwrap_or (objects (block_name volume checksum)) []

-- the disk of a backup
abbrev pub disk_of : Objects → List ℕ → List (Option (List ℕ)) → List ℕ
disk_of objects volume listed = flat_map (page_of objects volume) listed

-- the block of a page is whole, where one is listed
abbrev pub IsWhole : Objects → List ℕ → Option (List ℕ) → Type 0
IsWhole objects volume None = ⊤
IsWhole objects volume (Some checksum) = (bytes : List ℕ) × HoldsBlock objects volume checksum bytes

-- what is listed of a page; None past the end
abbrev pub listed_at : List (Option (List ℕ)) → ℕ → Option (List ℕ)
listed_at listed page = slice_index_or listed page None

-- each listed block is whole
abbrev pub AreWhole : Objects → List ℕ → List (Option (List ℕ)) → Type 0
AreWhole objects volume listed = (page : ℕ) → page < length listed → IsWhole objects volume (listed_at listed page)

-- ---- the list of a disk

-- the bytes of a page of a disk
abbrev pub page_at : List ℕ → ℕ → List ℕ
page_at disk page = bytes_at disk (page * page_bytes) page_bytes

-- a page is listed by its checksum, but for a page of zeros, which is not listed
unfoldable pub listed_of : List ℕ → Option (List ℕ)
listed_of bytes = if is_zeros bytes then None else Some (digest_text bytes)

-- the block of a page that is not all zeros is held
abbrev pub HoldsPage : Objects → List ℕ → List ℕ → Type 0
HoldsPage objects volume bytes = is_zeros bytes ≡ false → HoldsBlock objects volume (digest_text bytes) bytes

-- a page of a disk is listed as it has to be, and its block is held, where the target tells what it holds
pub record IsKept (tells : Bool) (objects : Objects) (volume disk : List ℕ) (listed : List (Option (List ℕ))) (page : ℕ)
    : Type 0 where
  pub entry : listed_at listed page ≡ listed_of (page_at disk page)
  pub held : tells ≡ true → HoldsPage objects volume (page_at disk page)

-- the list is that of the disk, and the target holds its blocks, where it tells what it holds
pub record IsBackup (tells : Bool) (objects : Objects) (volume disk : List ℕ) (listed : List (Option (List ℕ)))
    : Type 0 where
  pub size : length disk ≡ length listed * page_bytes
  pub pages : (page : ℕ) → page < length listed → IsKept tells objects volume disk listed page

-- ---- what stays of a volume's backups

-- every block that is held, and the cfg of every backup but that one
pub record KeepsBackups (volume backup : List ℕ) (old new : Objects) : Type 0 where
  pub blocks : KeepsBlocks volume old new
  pub cfgs : (other : List ℕ) → other ≢ backup → new (cfg_name volume other) ≡ old (cfg_name volume other)
