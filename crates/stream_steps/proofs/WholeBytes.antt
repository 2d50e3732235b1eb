-- All bytes of the blocks of a write, as a disk has them with the write's own put in.
use Rattle.std.proofs.Common.{◌≡◌, ℕ, ◌+◌, ◌-◌, ◌<◌, ◌≤◌, List, length, get_or, sym, arith}
use Rattle.std.proofs.lemmas.List.{places, length-append, length-take, length-drop, ext_get_or}
use Rattle.vol_units.specs.Bytes.{bytes_at, with_bytes_at}

-- bytes that are the disk's one by one, from a place on, are those that it has there
pub bytes_there : (disk whole : List ℕ) (from : ℕ) → from + length whole ≤ length disk
    → ((k : ℕ) → from ≤ k → k < from + length whole → get_or whole (k - from) 0 ≡ get_or disk k 0)
    → whole ≡ bytes_at disk from (length whole)
bytes_there disk whole from within same =
    let long : length (bytes_at disk from (length whole)) ≡ length whole = grind (arith, length-take, length-drop) in
    ext_get_or 0 whole (bytes_at disk from (length whole)) (sym long) (λ k l. there k l (same (from + k) (omega arith) (omega (arith, l))))
  where
    there : (k : ℕ) → k < length whole → get_or whole (from + k - from) 0 ≡ get_or disk (from + k) 0
        → get_or whole k 0 ≡ get_or (bytes_at disk from (length whole)) k 0
    there k l is = grind (arith, places)

-- the same of a disk into which bytes were put
pub bytes_merged : (disk bytes whole : List ℕ) (at from : ℕ) → at + length bytes ≤ length disk
    → from + length whole ≤ length disk
    → ((k : ℕ) → from ≤ k → k < from + length whole
    → get_or whole (k - from) 0 ≡ get_or (with_bytes_at disk at bytes) k 0)
    → whole ≡ bytes_at (with_bytes_at disk at bytes) from (length whole)
bytes_merged disk bytes whole at from fits within same =
    let long : length (with_bytes_at disk at bytes) ≡ length disk = grind (arith, length-append, length-take, length-drop) in
    bytes_there (with_bytes_at disk at bytes) whole from (omega (arith, long, within)) same
