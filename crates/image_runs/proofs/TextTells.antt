-- The text of bytes says which bytes they are: cut at the commas, each piece gives its run back.
use Rattle.std.proofs.Common.{◌≡◌, ℕ, suc, ◌+◌, ◌*◌, ◌/◌, ◌%◌, ◌^◌, ◌<◌, ◌≤◌, Bool, true, false, cond, eqb, List, []}
use Rattle.std.proofs.Common.{◌∷◌, ◌++◌, length, get_or, drop, map, decimal, refl, sym, ap, ◌∙◌, arith}
use Rattle.std.specs.Prelude.{replicate}
use Rattle.std.specs.List.{All, AllByRecursion, flat_map, join_with_byte, slice_split}
use Rattle.std.specs.Char.{digit_value}
use Rattle.std.specs.Fmt.{digit_glyph}
use Rattle.std.specs.Str.Parse.{AllDigits, digits_value}
use Rattle.std.proofs.lemmas.Bool.{ne_eqb}
use Rattle.std.proofs.lemmas.Bool.Decides.{nat_tests}
use Rattle.std.proofs.lemmas.Fmt.{decimal_is_IsNumeral}
use Rattle.std.proofs.lemmas.List.Elements.{All-cons, All-head, All-tail, All-from_get_or}
use Rattle.std.proofs.lemmas.List.Splits.{slice_split_at, slice_split_none}
use Rattle.std.proofs.lemmas.Str.Parse.{digit_at}
use Rattle.image_runs.specs.Runs.{ByteRun, run_of, put_byte, runs, run_text, runs_text, run_bytes}
use Rattle.image_runs.proofs.LongestRuns.{run_bytes-runs}

-- runs of bytes, of lengths that a text shows
abbrev AreRuns : List ByteRun → Type 0
AreRuns rs = AllByRecursion (λ r. (r.byte < 256) × (r.count < 2 ^ 64)) rs

-- how many bytes they are
abbrev total : List ByteRun → ℕ
total [] = 0
total (r ∷ rs) = r.count + total rs

-- one byte more keeps them so
put_byte_small : (b n : ℕ) (rs : List ByteRun) → b < 256 → n + 1 < 2 ^ 64 → AreRuns rs → total rs ≤ n
    → AreRuns (put_byte b rs) × (total (put_byte b rs) ≤ n + 1)
put_byte_small b n [] small room ok most = (((small, omega arith), tt), omega arith)
put_byte_small b n (r ∷ rs) small room ok most = by_test (eqb r.byte b)
  where
    by_test : (t : Bool) → AreRuns (cond t (run_of b (suc r.count) ∷ rs) (run_of b 1 ∷ r ∷ rs))
        × (total (cond t (run_of b (suc r.count) ∷ rs) (run_of b 1 ∷ r ∷ rs)) ≤ n + 1)
    by_test true = (((small, omega arith), ok.1), omega arith)
    by_test false = (((small, omega arith), (ok.0, ok.1)), omega arith)

-- the runs of few enough bytes
runs_small : (bytes : List ℕ) → All (λ b. b < 256) bytes → length bytes < 2 ^ 64 → AreRuns (runs bytes)
    × (total (runs bytes) ≤ length bytes)
runs_small [] ok short = (tt, omega arith)
runs_small (b ∷ bs) ok short =
    let t = runs_small bs (All-tail (λ b. b < 256) b bs ok) (omega arith) in
    let s = put_byte_small b (length bs) (runs bs) (All-head (λ b. b < 256) b bs ok) (omega arith) t.0 t.1 in
    (s.0, omega (arith, s.1))

-- ---- reading the text

-- the bytes of one piece
abbrev read_run : List ℕ → List ℕ
read_run piece = replicate (digits_value 10 (drop 3 piece)) (16 * digit_value (get_or piece 0 0) + digit_value (get_or piece 1 0))

-- the bytes of a text
abbrev read_runs : List ℕ → List ℕ
read_runs text = flat_map read_run (slice_split (λ b. eqb b 44) text)

-- a digit of a byte is read as itself, and is no comma
glyph_value : (d : ℕ) → d < 16 → digit_value (digit_glyph false d) ≡ d
glyph_value d small = grind (arith, nat_tests)

read_run-run_text : (r : ByteRun) → r.byte < 256 → r.count < 2 ^ 64 → read_run (run_text r) ≡ replicate r.count r.byte
read_run-run_text r small short =
    let high = glyph_value (r.byte / 16) (omega arith) in
    let low = glyph_value (r.byte % 16) (omega arith) in
    let count = (decimal_is_IsNumeral r.count short).1 in
    let byte : 16 * digit_value (digit_glyph false (r.byte / 16)) + digit_value (digit_glyph false (r.byte % 16)) ≡ r.byte =
    rw (high, low) (omega arith) in
    rw (count, byte) refl

-- no text of a run has a comma
abbrev LacksComma : List ℕ → Type 0
LacksComma text = All (λ x. eqb x 44 ≡ false) text

glyph_no_comma : (d : ℕ) → d < 16 → eqb (digit_glyph false d) 44 ≡ false
glyph_no_comma d small = grind (arith, nat_tests)

digits_no_comma : (ds : List ℕ) → AllDigits 10 ds → LacksComma ds
digits_no_comma ds ok = All-from_get_or (λ x. eqb x 44 ≡ false) ds 0 (λ i inside. let digit = digit_at ds i ok inside in
    ne_eqb _ 44 (λ e. omega (arith, digit, e)))

run_text_no_comma : (r : ByteRun) → r.byte < 256 → r.count < 2 ^ 64 → LacksComma (run_text r)
run_text_no_comma r small short =
    let P = λ (x : ℕ). eqb x 44 ≡ false in
    let behind = All-cons P 42 (decimal r.count) refl (digits_no_comma (decimal r.count) (decimal_is_IsNumeral r.count short).0.1) in
    let low = digit_glyph false (r.byte % 16) in
    All-cons P (digit_glyph false (r.byte / 16)) (low ∷ 42 ∷ decimal r.count) (glyph_no_comma (r.byte / 16) (omega arith))
    (All-cons P low (42 ∷ decimal r.count) (glyph_no_comma (r.byte % 16) (omega arith)) behind)

read_runs-joined : (r : ByteRun) (rs : List ByteRun) → AreRuns (r ∷ rs)
    → read_runs (join_with_byte 44 (map run_text (r ∷ rs))) ≡ run_bytes (r ∷ rs)
read_runs-joined r [] ok =
    ap (flat_map read_run) (slice_split_none (λ b. eqb b 44) (run_text r) (run_text_no_comma r ok.0.0 ok.0.1))
    ∙ ap (λ l. l ++ []) (read_run-run_text r ok.0.0 ok.0.1)
read_runs-joined r (q ∷ qs) ok =
    ap (flat_map read_run) (slice_split_at (λ b. eqb b 44) (run_text r) 44 (join_with_byte 44 (map run_text (q ∷ qs)))
    (run_text_no_comma r ok.0.0 ok.0.1) refl)
    ∙ ap (λ l. l ++ read_runs (join_with_byte 44 (map run_text (q ∷ qs)))) (read_run-run_text r ok.0.0 ok.0.1)
    ∙ ap (λ l. replicate r.count r.byte ++ l) (read_runs-joined q qs ok.1)

-- What is read from the text of bytes is these bytes.
read_runs-runs_text : (bytes : List ℕ) → All (λ b. b < 256) bytes → length bytes < 2 ^ 64 → read_runs (runs_text bytes) ≡ bytes
read_runs-runs_text [] ok short = refl
read_runs-runs_text (b ∷ bs) ok short = of_runs (runs (b ∷ bs)) (runs_small (b ∷ bs) ok short).0 (run_bytes-runs (b ∷ bs))
  where
    of_runs : (rs : List ByteRun) → AreRuns rs → run_bytes rs ≡ b ∷ bs → read_runs (join_with_byte 44 (map run_text rs)) ≡ b ∷ bs
    of_runs [] small same = cc
    of_runs (r ∷ rs) small same = read_runs-joined r rs small ∙ same

pub runs_text_injective : (xs ys : List ℕ) → All (λ b. b < 256) xs → All (λ b. b < 256) ys → length xs < 2 ^ 64 → length ys < 2 ^ 64
    → runs_text xs ≡ runs_text ys → xs ≡ ys
runs_text_injective xs ys p q m n e = sym (read_runs-runs_text xs p m) ∙ ap read_runs e ∙ read_runs-runs_text ys q n
