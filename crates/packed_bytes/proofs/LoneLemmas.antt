-- Bytes that stand alone, and their codes.
use Rattle.std.proofs.Common.{◌≡◌, ◌≢◌, ℕ, ◌+◌, ◌*◌, ◌<◌, ◌≤◌, List, [], ◌∷◌, ◌++◌, length, get_or, take, drop, set, map, flat_map}
use Rattle.std.proofs.Common.{refl, sym, ap, ◌∙◌, arith, add-one, append_assoc, length-append, length-take, length-drop}
use Rattle.std.proofs.lemmas.List.{length-map, take_more_set}
use Rattle.std.proofs.lemmas.List.Concat.{flat_map-append}
use Rattle.std.proofs.Math.Seq.{take-add}
use Rattle.image_runs.specs.Runs.{ByteRun, run_of, runs}
use Rattle.image_runs.specs.Printing.{with_commas, lone_text}
use Rattle.image_runs.proofs.RunsLemmas.{runs-lone, with_commas-lone, with_commas-append}
use Rattle.packed_bytes.specs.Packed.{run_code, run_codes, coded_runs, lone_code}

-- a run for each byte
abbrev lone_runs : List ℕ → List ByteRun
lone_runs bytes = map (λ b. run_of b 1) bytes

run_codes-lone : (bytes : List ℕ) → run_codes (lone_runs bytes) ≡ flat_map lone_code bytes
run_codes-lone [] = refl
run_codes-lone (b ∷ bs) = ap (λ l. lone_code b ++ l) (run_codes-lone bs)

coded_runs-lone : (bytes rest : List ℕ) → coded_runs (flat_map lone_code bytes ++ rest) ≡ lone_runs bytes ++ coded_runs rest
coded_runs-lone [] rest = refl
coded_runs-lone (b ∷ bs) rest = ap (λ l. run_of b 1 ∷ l) (coded_runs-lone bs rest)

-- ---- bytes that differ each from the next

module _ (n : ℕ) (bytes : List ℕ) (inside : n < length bytes)
    (differ : (k : ℕ) → k < n → get_or bytes k 0 ≢ get_or bytes (k + 1) 0) where
  apart : runs bytes ≡ lone_runs (take n bytes) ++ runs (drop n bytes)
  apart = runs-lone n bytes inside (λ k below. rw (← add-one) (differ k below))

  -- each is a run
  pub lone_count : length (runs bytes) ≡ n + length (runs (drop n bytes))
  lone_count =
      let first = lone_runs (take n bytes) in
      let long : length first ≡ length (take n bytes) = length-map (take n bytes) (λ b. run_of b 1) in
      let both = ap length apart ∙ length-append first (runs (drop n bytes)) in
      omega (arith, both, long, length-take n bytes, inside)

  -- their codes, and those of the runs behind them
  pub lone_put : flat_map lone_code (take n bytes) ++ run_codes (runs (drop n bytes)) ≡ run_codes (runs bytes)
  lone_put =
      ap (λ l. l ++ run_codes (runs (drop n bytes))) (sym (run_codes-lone (take n bytes)))
      ∙ sym (flat_map-append run_code (lone_runs (take n bytes)) (runs (drop n bytes))) ∙ ap run_codes (sym apart)

-- ---- codes that are read

-- the text of the runs of codes, the first of which are of bytes that stand alone
pub lone_printed : (old bytes rest : List ℕ) → (old ++ flat_map lone_text bytes) ++ with_commas (coded_runs rest)
    ≡ old ++ with_commas (coded_runs (flat_map lone_code bytes ++ rest))
lone_printed old bytes rest =
    append_assoc old (flat_map lone_text bytes) (with_commas (coded_runs rest))
    ∙ ap (λ l. old ++ (l ++ with_commas (coded_runs rest))) (sym (with_commas-lone bytes))
    ∙ ap (λ l. old ++ l) (sym (with_commas-append (lone_runs bytes) (coded_runs rest)))
    ∙ ap (λ rs. old ++ with_commas rs) (sym (coded_runs-lone bytes rest))

-- one code more
pub lone_more : (i byte : ℕ) (codes bytes : List ℕ) → i < length bytes → take (5 * i) codes ≡ flat_map lone_code (take i bytes)
    → take 5 (drop (5 * i) codes) ≡ lone_code byte
    → (5 * (i + 1) ≤ length codes) × (take (5 * (i + 1)) codes ≡ flat_map lone_code (take (i + 1) (set bytes i byte)))
lone_more i byte codes bytes inside before next =
    let end : 5 * (i + 1) ≡ 5 * i + 5 = omega arith in
    let long : length (take 5 (drop (5 * i) codes)) ≡ 5 = ap length next in (
      omega (arith, long, length-take 5 (drop (5 * i) codes), length-drop (5 * i) codes),
      ap (λ n. take n codes) end ∙ take-add (5 * i) 5 codes
          ∙ ap (λ l. l ++ take 5 (drop (5 * i) codes)) before
          ∙ ap (λ l. flat_map lone_code (take i bytes) ++ l) next
          ∙ sym (flat_map-append lone_code (take i bytes) (byte ∷ []))
          ∙ ap (flat_map lone_code) (sym (take_more_set bytes i byte inside)),
    )
