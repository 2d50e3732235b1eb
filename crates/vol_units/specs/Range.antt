-- Ranges of bytes, as calls name them, and the blocks that they lie in.
use Rattle.std.specs.Prelude.{◌≡◌, ℕ, ◌+◌, ◌-◌, ◌/◌, ◌<◌, ◌≤◌, ℤ, pos, negsuc, ◌+ℤ◌, ◌<ℤ◌, ◌≤ℤ◌, Bool, false, nat_le, ◌==◌, if◌then◌else◌}
use Rattle.vol_units.specs.declared.range.BlockRange.{BlockRange}

-- whether n bytes from the offset on lie within `size` bytes
abbrev pub is_good : ℕ → ℤ → ℕ → Bool
is_good size (pos offset) n = nat_le (offset + n) size
is_good size (negsuc _) n = false

-- the place that an offset names, and 0 where it names none
abbrev pub place_of : ℤ → ℕ
place_of (pos offset) = offset
place_of (negsuc _) = 0

-- the byte is one of the range
abbrev pub HasByte : ℤ → ℕ → ℕ → Type 0
HasByte offset length byte = (offset ≤ℤ pos byte) × (pos byte <ℤ (offset +ℤ pos length))

-- the block is one of the range
abbrev pub HasBlock : BlockRange → ℕ → Type 0
HasBlock r block = (r.first ≤ block) × (block < r.end)

-- the block that a byte lies in: blocks of 4 KiB, as Longhorn's volumes have them
abbrev pub block_of : ℕ → ℕ
block_of byte = byte / 4096

-- every byte lies in one of the blocks
abbrev pub Covers : BlockRange → ℤ → ℕ → Type 0
Covers r offset length = (byte : ℕ) → HasByte offset length byte → HasBlock r (block_of byte)

-- in each of the blocks lies one of the bytes
abbrev pub EachBlockHasByte : BlockRange → ℤ → ℕ → Type 0
EachBlockHasByte r offset length =
    (block : ℕ) → HasBlock r block → (byte : ℕ) × HasByte offset length byte × (block_of byte ≡ block)

-- the blocks from that of the first byte to that of the last; of no bytes none, at the offset's block
abbrev pub blocks_around : ℕ → ℕ → BlockRange
blocks_around at length = record {
  first = block_of at;
  end = (if length == 0 then block_of at else block_of (at + length - 1) + 1);
}

-- some block is one of both
abbrev pub HaveCommonBlock : BlockRange → BlockRange → Type 0
HaveCommonBlock a b = (block : ℕ) × HasBlock a block × HasBlock b block
