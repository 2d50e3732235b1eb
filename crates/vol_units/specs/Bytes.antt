-- Bytes one after another, as a list: what is read of them at a place, and what is written there.
use Rattle.std.specs.Prelude.{ℕ, ◌+◌, List, ◌++◌, length, take, drop, slice_range, replicate}

-- so many zeros
unfoldable pub zeros : ℕ → List ℕ
zeros n = replicate n 0

-- the n bytes of a disk from a place on
abbrev pub bytes_at : List ℕ → ℕ → ℕ → List ℕ
bytes_at disk at n = slice_range disk at (at + n)

-- the disk with these bytes from a place on
abbrev pub with_bytes_at : List ℕ → ℕ → List ℕ → List ℕ
with_bytes_at disk at bytes = take at disk ++ bytes ++ drop (at + length bytes) disk
