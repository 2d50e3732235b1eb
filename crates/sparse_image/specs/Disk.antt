-- An image by itself, read as a disk: its blocks one after another, with zeros where there is none.
use Rattle.std.specs.Prelude.{ℕ, ◌*◌, List, [], ◌++◌, length, Option, unwrap_or}
use Rattle.std.proofs.Common.{zero, suc}
use Rattle.vol_units.specs.Bytes.{zeros}
use Rattle.sparse_image.specs.declared.block.TheConstants.{BLOCK_BYTES, PAGE_BLOCKS}
use Rattle.sparse_image.specs.Image.{Tables, block_at}

-- what a block reads as, where it may not be there
abbrev pub bytes_of : Option (List ℕ) → List ℕ
bytes_of block = unwrap_or block (zeros BLOCK_BYTES)

-- the lists of the numbers below the count, one after another
unfoldable pub joined : (ℕ → List ℕ) → ℕ → List ℕ
joined list zero = []
joined list (suc count) = joined list count ++ list count

-- the bytes of all blocks
unfoldable pub disk_of : Tables → List ℕ
disk_of image = joined (λ block. bytes_of (block_at image block)) (length image * PAGE_BLOCKS)
