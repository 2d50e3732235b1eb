-- What is printed on the way: runs with a comma behind each, of which the last goes in the end.
use Rattle.std.specs.Prelude.{◌≡◌, ℕ, ◌/◌, ◌%◌, false, List, ◌∷◌, ◌++◌, length, take, flat_map, codes}
use Rattle.std.specs.Fmt.{digit_glyph}
use Rattle.image_runs.specs.Runs.{ByteRun, run_text}

-- each run with a comma behind it
abbrev pub with_commas : List ByteRun → List ℕ
with_commas rs = flat_map (λ r. run_text r ++ codes ",") rs

-- a byte that stands alone, and a comma
abbrev pub lone_text : ℕ → List ℕ
lone_text b = digit_glyph false (b / 16) ∷ digit_glyph false (b % 16) ∷ codes "*1,"

-- the text begins with this prefix
abbrev pub IsPrefixOf : List ℕ → List ℕ → Type 0
IsPrefixOf prefix text = take (length prefix) text ≡ prefix
