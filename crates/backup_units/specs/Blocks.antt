-- The blocks that a target keeps, each under the name of its checksum. What backupstore calls a block is a page of a
-- disk here.
use Rattle.std.specs.Prelude.{◌≡◌, ℕ, ◌==◌, Bool, List, length, Some}
use Rattle.std.specs.List.{list_all}
use Rattle.digest.specs.Digest.{digest_text}
use Rattle.target_traits.specs.Objects.{Objects}
use Rattle.backup_units.specs.Names.{block_name}

-- the bytes of a page
abbrev pub page_bytes : ℕ
page_bytes = 2097152

-- each byte is 0
abbrev pub is_zeros : List ℕ → Bool
is_zeros bytes = list_all (λ byte. byte == 0) bytes

-- these bytes are a block of that checksum
pub record IsBlock (checksum bytes : List ℕ) : Type 0 where
  pub size : length bytes ≡ page_bytes
  pub sum : digest_text bytes ≡ checksum

-- the target holds these bytes as the block of that checksum
pub record HoldsBlock (objects : Objects) (volume checksum bytes : List ℕ) : Type 0 where
  pub there : objects (block_name volume checksum) ≡ Some bytes
  pub block : IsBlock checksum bytes

-- every block that is held stays
abbrev pub KeepsBlocks : List ℕ → Objects → Objects → Type 0
KeepsBlocks volume old new =
    (checksum bytes : List ℕ) → HoldsBlock old volume checksum bytes → HoldsBlock new volume checksum bytes
