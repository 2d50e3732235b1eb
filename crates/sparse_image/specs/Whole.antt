-- What every image keeps.
use Rattle.std.specs.Prelude.{◌≡◌, ℕ, ◌^◌, ◌<◌, List, length, Some}
use Rattle.sparse_image.specs.declared.block.TheConstants.{BLOCK_BYTES, PAGE_BLOCKS}
use Rattle.sparse_image.specs.Image.{Table, Tables, place_at, table_at}

-- a table is empty or has a place for each block of a page, and each block has all its bytes
pub record IsTable (table : Table) : Type 0 where
  pub size : 0 < length table → length table ≡ PAGE_BLOCKS
  pub blocks : (i : ℕ) (b : List ℕ) → place_at table i ≡ Some b → length b ≡ BLOCK_BYTES

-- all tables are such, and pages have numbers of 32 bits
pub record IsImage (image : Tables) : Type 0 where
  pub count : length image < 2 ^ 32
  pub tables : (page : ℕ) → IsTable (table_at image page)
