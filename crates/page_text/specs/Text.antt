-- The text of a page of a layer, as it stands in the frames of a rebuild. The layout is this project's own.
use Rattle.std.specs.Prelude.{ℕ, ◌+◌, ◌*◌, List, [], ◌∷◌, ◌++◌, length, is_some, unwrap_or, if◌then◌else◌}
use Rattle.sparse_image.specs.declared.block.TheConstants.{BLOCK_BYTES, PAGE_BLOCKS}
use Rattle.sparse_image.specs.Disk.{joined}
use Rattle.sparse_image.specs.Image.{Table, place_at}

-- 1 where the page has that block
abbrev pub bit_at : Table → ℕ → ℕ
bit_at table i = if is_some (place_at table i) then 1 else 0

-- a byte of the map: eight blocks, the first of them at the lowest bit
abbrev pub map_byte : Table → ℕ → ℕ
map_byte table byte =
    bit_at table (byte * 8) + 2 * bit_at table (byte * 8 + 1) + 4 * bit_at table (byte * 8 + 2) + 8 * bit_at table (byte * 8 + 3)
    + 16 * bit_at table (byte * 8 + 4) + 32 * bit_at table (byte * 8 + 5) + 64 * bit_at table (byte * 8 + 6) + 128 * bit_at
    table (byte * 8 + 7)

-- the map: a bit for each block of the page
abbrev pub map_of : Table → List ℕ
map_of table = joined (λ byte. map_byte table byte ∷ []) 64

-- the bytes of a block, and none where it is not there
abbrev pub block_at : Table → ℕ → List ℕ
block_at table i = unwrap_or (place_at table i) []

-- the blocks that are there, in rising order
abbrev pub blocks_of : Table → List ℕ
blocks_of table = joined (block_at table) PAGE_BLOCKS

-- the length of the layer's name as a byte, the name, the map, and the blocks
abbrev pub page_text : List ℕ → Table → List ℕ
page_text name table = length name ∷ (name ++ (map_of table ++ blocks_of table))

-- the longest text: the longest name, and all blocks
abbrev pub longest_text : ℕ
longest_text = 1 + 64 + 64 + PAGE_BLOCKS * BLOCK_BYTES
