-- What the objects in memory hold, and how much of it moves in a call.
use Rattle.std.specs.Prelude.{ℕ, List, min, length}

-- the bytes that a source has left or a sink holds, and the most that one call moves
pub record Pieces : Type 0 where
  pub bytes : List ℕ
  pub most : ℕ

-- how many bytes a read gives, where there is room for so many
abbrev pub read_length : Pieces → ℕ → ℕ
read_length source room = min (min (length source.bytes) room) source.most

-- what a sink with an end holds, how many bytes more it takes, and how often it has failed
pub record Limited : Type 0 where
  pub bytes : List ℕ
  pub room : ℕ
  pub faults : ℕ
