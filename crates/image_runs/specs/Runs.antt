-- Bytes as runs, each as long as can be: `HH*COUNT`, parted by commas, and `-` for no bytes.
-- The format is this project's own.
use Rattle.std.specs.Prelude.{ℕ, suc, ◌/◌, ◌%◌, ◌==◌, ◌≢◌, ⊤, false, List, [], ◌∷◌, ◌++◌, map, flat_map, replicate}
use Rattle.std.specs.Prelude.{codes, decimal, if◌then◌else◌}
use Rattle.std.specs.List.{join_with_byte}
use Rattle.std.specs.Fmt.{digit_glyph}

-- a byte, and how often it stands in a row
pub record ByteRun : Type 0 where
  pub byte : ℕ
  pub count : ℕ

-- that byte so often
abbrev pub run_of : ℕ → ℕ → ByteRun
run_of b n = record { byte = b; count = n }

-- one byte more before some runs: it lengthens the first, or is a run of its own
abbrev pub put_byte : ℕ → List ByteRun → List ByteRun
put_byte b [] = run_of b 1 ∷ []
put_byte b (r ∷ rs) = if r.byte == b then run_of b (suc r.count) ∷ rs else run_of b 1 ∷ r ∷ rs

-- the runs of bytes, from the first to the last
abbrev pub runs : List ℕ → List ByteRun
runs [] = []
runs (b ∷ bs) = put_byte b (runs bs)

-- the byte in two lower-case hexadecimal digits, a star, and the count
abbrev pub run_text : ByteRun → List ℕ
run_text r = digit_glyph false (r.byte / 16) ∷ digit_glyph false (r.byte % 16) ∷ codes "*" ++ decimal r.count

-- bytes as text; 44 is the comma
abbrev pub runs_text : List ℕ → List ℕ
runs_text [] = codes "-"
runs_text (b ∷ bs) = join_with_byte 44 (map run_text (runs (b ∷ bs)))

-- the bytes that some runs are
abbrev pub run_bytes : List ByteRun → List ℕ
run_bytes rs = flat_map (λ r. replicate r.count r.byte) rs

-- neighbours are of different bytes
abbrev pub NeighboursDiffer : List ByteRun → Type 0
NeighboursDiffer [] = ⊤
NeighboursDiffer (r ∷ []) = ⊤
NeighboursDiffer (r ∷ q ∷ qs) = (r.byte ≢ q.byte) × NeighboursDiffer (q ∷ qs)
