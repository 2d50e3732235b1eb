-- The byte of a block: the index of the layer that has the block, the lowest layer being 1, or 0 where it is not known.
use Rattle.std.specs.Prelude.{◌≡◌, ℕ, ◌-◌, ◌==◌, nat_lt, if◌then◌else◌, List, length, slice_index}
use Rattle.vol_units.specs.declared.range.BlockRange.{BlockRange}
use Rattle.vol_units.specs.Range.{HasBlock}

-- the index once the layer `gone` went: of its blocks nothing is known then, and each layer above it is one lower
abbrev pub index_without : ℕ → ℕ → ℕ
index_without gone index =
    (if index == gone then 0 else (if nat_lt gone index then index - 1 else index))

-- of the blocks of the range nothing is known after it, and the bytes of all others stay
pub record Forgets (old new : List ℕ) (range : BlockRange) : Type 0 where
  pub count : length new ≡ length old
  pub inside : (block : ℕ) → HasBlock range block → slice_index new block ≡ 0
  pub others : (block : ℕ) → ¬ (HasBlock range block) → slice_index new block ≡ slice_index old block
