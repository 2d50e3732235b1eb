-- The blocks of an image, by their numbers, and its pages.
use Rattle.std.specs.Prelude.{◌≡◌, ◌≢◌, ℕ, ◌+◌, ◌*◌, ◌/◌, ◌%◌, max, min, nat_lt, Bool, false, ◌||◌, ◌==◌, ◌<◌, true}
use Rattle.std.specs.Prelude.{List, [], ◌∷◌, length, Option, None, is_some, slice_index_or}
use Rattle.std.specs.Option.{option_or}
use Rattle.vol_units.specs.declared.range.BlockRange.{BlockRange}
use Rattle.sparse_image.specs.declared.block.TheConstants.{PAGE_BLOCKS}

-- the places of a page: at each the bytes of a block, or none. Where the page is not made it has no places
abbrev pub Table : Type 0
Table = List (Option (List ℕ))

-- an image, as contracts see it: the table of each page
abbrev pub Tables : Type 0
Tables = List Table

-- what stands at a place of a table
abbrev pub place_at : Table → ℕ → Option (List ℕ)
place_at table i = slice_index_or table i None

-- the table of a page
abbrev pub table_at : Tables → ℕ → Table
table_at image page = slice_index_or image page []

-- the bytes of the block of that number, or none
unfoldable pub block_at : Tables → ℕ → Option (List ℕ)
block_at image block = place_at (table_at image (block / PAGE_BLOCKS)) (block % PAGE_BLOCKS)

-- the page is made
unfoldable pub has_page : Tables → ℕ → Bool
has_page image page = length (table_at image page) == PAGE_BLOCKS

-- no block is there, and no page is made
pub record IsEmpty (image : Tables) (page_count : ℕ) : Type 0 where
  pub count : length image ≡ page_count
  pub blocks : (block : ℕ) → block_at image block ≡ None
  pub pages : (page : ℕ) → has_page image page ≡ false

-- the page has a block of the range
abbrev pub is_page_of : BlockRange → ℕ → Bool
is_page_of range page =
    nat_lt (max range.first (page * PAGE_BLOCKS)) (min range.end (page * PAGE_BLOCKS + PAGE_BLOCKS))

-- the wanted pages are made besides those that were, no other page is, and no block changes
pub record MakesPages (old new : Tables) (wanted : ℕ → Bool) : Type 0 where
  pub count : length new ≡ length old
  pub blocks : (block : ℕ) → block_at new block ≡ block_at old block
  pub pages : (page : ℕ) → has_page new page ≡ (wanted page || has_page old page)

-- that stands for the block after it, and no other block and no page changes
pub record ChangesBlock (old new : Tables) (block : ℕ) (after : Option (List ℕ)) : Type 0 where
  pub count : length new ≡ length old
  pub here : block_at new block ≡ after
  pub others : (other : ℕ) → other ≢ block → block_at new other ≡ block_at old other
  pub pages : (page : ℕ) → has_page new page ≡ has_page old page

-- the page is not made after it, so that it has no block, and the blocks of other pages stay
pub record EmptiesPage (old new : Tables) (page : ℕ) : Type 0 where
  pub count : length new ≡ length old
  pub blocks : (block : ℕ) → block / PAGE_BLOCKS ≡ page → block_at new block ≡ None
  pub others : (block : ℕ) → block / PAGE_BLOCKS ≢ page → block_at new block ≡ block_at old block
  pub unmade : has_page new page ≡ false
  pub other_pages : (other : ℕ) → other ≢ page → has_page new other ≡ has_page old other

-- in that page a block of the image above hides the old one, and the blocks of other pages stay
pub record LaysPageOver (above old new : Tables) (page : ℕ) : Type 0 where
  pub count : length new ≡ length old
  pub blocks : (block : ℕ) → block / PAGE_BLOCKS ≡ page
      → block_at new block ≡ option_or (block_at above block) (block_at old block)
  pub others : (block : ℕ) → block / PAGE_BLOCKS ≢ page → block_at new block ≡ block_at old block
  pub made : has_page new page ≡ (has_page above page || has_page old page)
  pub other_pages : (other : ℕ) → other ≢ page → has_page new other ≡ has_page old other

-- a table laid over another
abbrev pub page_over : Table → Table → Table
page_over [] below = below
page_over (a ∷ above) [] = a ∷ above
page_over (a ∷ above) (b ∷ below) = option_or a b ∷ page_over above below

-- ---- a page that is copied

-- a place of the table has a block
abbrev pub HasBlock : Table → Type 0
HasBlock table = (i : ℕ) × (i < PAGE_BLOCKS) × (is_some (place_at table i) ≡ true)

-- no place has one
abbrev pub HasNoBlock : Table → Type 0
HasNoBlock table = (i : ℕ) → place_at table i ≡ None

-- each place of a page has a box, so that blocks can be copied there
pub record IsLent (table : Table) : Type 0 where
  pub count : length table ≡ PAGE_BLOCKS
  pub boxes : (i : ℕ) → i < PAGE_BLOCKS → is_some (place_at table i) ≡ true

-- the page is that table after it, and the blocks of other pages stay
pub record PutsTable (old new : Tables) (page : ℕ) (table : Table) : Type 0 where
  pub count : length new ≡ length old
  pub blocks : (block : ℕ) → block / PAGE_BLOCKS ≡ page → block_at new block ≡ place_at table (block % PAGE_BLOCKS)
  pub others : (block : ℕ) → block / PAGE_BLOCKS ≢ page → block_at new block ≡ block_at old block
  pub made : has_page new page ≡ (length table == PAGE_BLOCKS)
  pub other_pages : (other : ℕ) → other ≢ page → has_page new other ≡ has_page old other
