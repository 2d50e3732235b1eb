-- The places that writes find made in the head of a replica, and what a write puts there.
use Rattle.std.specs.Prelude.{◌≡◌, ℕ, ◌+◌, ◌*◌, ◌/◌, Bool, true, false, ◌&&◌, ◌||◌, nat_le, nat_lt, List, Option}
use Rattle.std.specs.Prelude.{None, Some, is_some, length, slice_index_or, if◌then◌else◌}
use Rattle.vol_units.specs.Bytes.{bytes_at, with_bytes_at}
use Rattle.vol_units.specs.declared.range.BlockRange.{BlockRange}
use Rattle.vol_units.specs.Range.{HasBlock}
use Rattle.sparse_image.specs.declared.block.TheConstants.{BLOCK_BYTES, PAGE_BLOCKS}
use Rattle.sparse_image.specs.Listed.{bytes_in, listed}
use Rattle.sparse_image.specs.Image.{Tables, block_at, has_page, is_page_of}
use Rattle.layer_chain.specs.Tree.{Tree}
use Rattle.layer_chain.specs.Changes.{with_head}
use Rattle.replica_node.specs.Node.{Node, IsNode, head_disk, has_own}

-- a write of the range finds its places
abbrev pub HasRoom : Node → BlockRange → Type 0
HasRoom node range = (block : ℕ) → HasBlock range block → slice_index_or node.room block false ≡ true

-- of each block whether a write finds its place, once the pages of the range are made
abbrev pub room_with : List Bool → BlockRange → List Bool
room_with room range = listed (λ block. is_page_of range (block / PAGE_BLOCKS) || has_own room block) (length room)

-- the replica once they are made
abbrev pub with_room : Node → BlockRange → Node
with_room node range = record node { room = room_with node.room range }

-- the same replica with other places made
abbrev pub with_room_of : Node → Node → Node
with_room_of node other = record node { room = other.room }

-- places that were made are made
abbrev pub KeepsRoom : Node → Node → Type 0
KeepsRoom old new = (block : ℕ) → slice_index_or old.room block false ≡ true
    → slice_index_or new.room block false ≡ true

-- so many blocks from the first on
abbrev pub blocks_from : ℕ → ℕ → BlockRange
blocks_from first count = record { first = first; end = first + count }

-- what the head itself has at a block: its bytes, or none
abbrev pub head_block : Node → ℕ → Option (List ℕ)
head_block node block =
    if has_own node.own block then Some (bytes_at node.disk (block * BLOCK_BYTES) BLOCK_BYTES) else None

-- the same of so many blocks from the first on
abbrev pub head_blocks : Node → ℕ → ℕ → List (Option (List ℕ))
head_blocks node first count = listed (λ i. head_block node (first + i)) count

-- the block is one of so many from the first on
abbrev pub is_among : ℕ → ℕ → ℕ → Bool
is_among first count block = nat_le first block && nat_lt block (first + count)

-- of each block whether it is there once so many from the first on are put
abbrev pub own_with : List Bool → ℕ → ℕ → List Bool
own_with own first count = listed (λ block. is_among first count block || has_own own block) (length own)

-- the replica once these bytes, whole blocks, are put from the first block on
abbrev pub put_at : Node → ℕ → List ℕ → Node
put_at node first bytes = record node {
  disk = with_bytes_at node.disk (first * BLOCK_BYTES) bytes;
  own = own_with node.own first (length bytes / BLOCK_BYTES);
}

-- ---- the same of a tree

-- each block of the range has its page
abbrev pub HasPages : Tables → BlockRange → Type 0
HasPages image range = (block : ℕ) → HasBlock range block → has_page image (block / PAGE_BLOCKS) ≡ true

-- the blocks are put into the head from the first on, and nothing else changes
pub record PutsBlocks (old new : Tree) (first : ℕ) (blocks : List (Option (List ℕ))) : Type 0 where
  pub rest : new ≡ with_head old new.head
  pub pages : (page : ℕ) → has_page new.head page ≡ has_page old.head page
  pub others : (block : ℕ) → is_among first (length blocks) block ≡ false
      → block_at new.head block ≡ block_at old.head block
  pub own : (block : ℕ) → is_some (block_at new.head block)
      ≡ (is_among first (length blocks) block || is_some (block_at old.head block))
  pub whole : length (bytes_in blocks) ≡ length blocks * BLOCK_BYTES
  pub node : IsNode new (length old.head * PAGE_BLOCKS)
  pub disk : head_disk new (length old.head * PAGE_BLOCKS)
      ≡ with_bytes_at (head_disk old (length old.head * PAGE_BLOCKS)) (first * BLOCK_BYTES) (bytes_in blocks)
