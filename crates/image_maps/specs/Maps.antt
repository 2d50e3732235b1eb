-- A map: which blocks an image has, as text. A line for each run of them. The format is this project's own.
use Rattle.std.specs.Prelude.{◌≡◌, ◌≢◌, ℕ, ◌+◌, ◌≤◌, ⊤, Bool, false, ◌&&◌, ◌||◌, nat_le, nat_lt}
use Rattle.std.specs.Prelude.{List, [], ◌∷◌, ◌++◌, flat_map, length, decimal}
use Rattle.image_maps.specs.declared.error.MapError.{MapError}
use Rattle.image_maps.specs.declared.error.MapError.TheVariants.{BadLine, NoMemory}
use Rattle.image_maps.specs.declared.span.BlockSpan.{BlockSpan}

-- the line of a run of blocks: its first block, how many there are, and a line feed
abbrev pub line : BlockSpan → List ℕ
line s = decimal s.first ++ 32 ∷ (decimal s.count ++ 10 ∷ [])

abbrev pub map_text : List BlockSpan → List ℕ
map_text spans = flat_map line spans

-- the run begins at that block or later, is not empty, and ends within so many blocks
pub record Fits (least blocks : ℕ) (s : BlockSpan) : Type 0 where
  pub least_ok : least ≤ s.first
  pub some : 1 ≤ s.count
  pub most : s.first + s.count ≤ blocks

-- where the next run may begin: between two runs stands a block that is not there
abbrev pub behind : BlockSpan → ℕ
behind s = s.first + s.count + 1

-- they rise, from that block on, and lie within so many blocks
abbrev pub AreSpans : ℕ → ℕ → List BlockSpan → Type 0
AreSpans least blocks [] = ⊤
AreSpans least blocks (s ∷ more) = Fits least blocks s × AreSpans (behind s) blocks more

-- where a run behind them may begin
abbrev pub end_of : ℕ → List BlockSpan → ℕ
end_of least [] = least
end_of least (s ∷ more) = end_of (behind s) more

-- the text is a map of so many blocks, and these are its runs
pub record IsMap (text : List ℕ) (blocks : ℕ) (spans : List BlockSpan) : Type 0 where
  pub lines : text ≡ map_text spans
  pub fit : AreSpans 0 blocks spans

-- a line of a run that may begin at that block stands first
abbrev pub BeginsWithLine : List ℕ → ℕ → ℕ → Type 0
BeginsWithLine text least blocks = (s : BlockSpan) × Fits least blocks s × ((more : List ℕ) × (text ≡ line s ++ more))

-- the first line that does not fit begins at that place
pub record IsBadAt (text : List ℕ) (blocks place : ℕ) : Type 0 where
  pub spans : List BlockSpan
  pub fit : AreSpans 0 blocks spans
  pub rest : List ℕ
  pub cut : text ≡ map_text spans ++ rest
  pub place_is : place ≡ length (map_text spans)
  pub some : rest ≢ []
  pub bad : BeginsWithLine rest (end_of 0 spans) blocks → ⊥

-- why a text is no map; want of memory is free
abbrev pub RefusesMap : List ℕ → ℕ → MapError → Type 0
RefusesMap text blocks (BadLine place) = IsBadAt text blocks place
RefusesMap text blocks NoMemory = ⊤

-- the run has the block
abbrev pub is_within : BlockSpan → ℕ → Bool
is_within s block = nat_le s.first block && nat_lt block (s.first + s.count)

-- one of the runs has it
abbrev pub has_block : List BlockSpan → ℕ → Bool
has_block [] block = false
has_block (s ∷ more) block = is_within s block || has_block more block
