-- The runs of bytes are the bytes, none is empty, and neighbours differ.
use Rattle.std.proofs.Common.{◌≡◌, ◌≢◌, ℕ, suc, ◌<◌, Bool, true, false, cond, eqb, List, [], ◌∷◌, ◌++◌, refl, sym, ap, ◌∙◌, arith}
use Rattle.std.specs.Prelude.{replicate}
use Rattle.std.specs.List.{All, AllByRecursion}
use Rattle.std.proofs.lemmas.Bool.{eqb-true, eqb-false}
use Rattle.std.proofs.lemmas.List.Elements.{All-from_recursion}
use Rattle.image_runs.specs.Runs.{ByteRun, run_of, put_byte, runs, run_bytes, NeighboursDiffer}

-- one byte more
run_bytes-put_byte : (b : ℕ) (rs : List ByteRun) → run_bytes (put_byte b rs) ≡ b ∷ run_bytes rs
run_bytes-put_byte b [] = refl
run_bytes-put_byte b (r ∷ rs) = by_test (eqb r.byte b) (λ e. eqb-true r.byte b e)
  where
    by_test : (t : Bool) → (t ≡ true → r.byte ≡ b)
        → run_bytes (cond t (run_of b (suc r.count) ∷ rs) (run_of b 1 ∷ r ∷ rs)) ≡ b ∷ run_bytes (r ∷ rs)
    by_test true same = ap (λ x. b ∷ (replicate r.count x ++ run_bytes rs)) (sym (same refl))
    by_test false same = refl

pub run_bytes-runs : (bytes : List ℕ) → run_bytes (runs bytes) ≡ bytes
run_bytes-runs [] = refl
run_bytes-runs (b ∷ bs) = run_bytes-put_byte b (runs bs) ∙ ap (λ l. b ∷ l) (run_bytes-runs bs)

-- no run is empty
abbrev AreFilled : List ByteRun → Type 0
AreFilled rs = AllByRecursion (λ r. 0 < r.count) rs

put_byte_filled : (b : ℕ) (rs : List ByteRun) → AreFilled rs → AreFilled (put_byte b rs)
put_byte_filled b [] filled = (omega arith, tt)
put_byte_filled b (r ∷ rs) filled = by_test (eqb r.byte b)
  where
    by_test : (t : Bool) → AreFilled (cond t (run_of b (suc r.count) ∷ rs) (run_of b 1 ∷ r ∷ rs))
    by_test true = (omega arith, filled.1)
    by_test false = (omega arith, filled)

runs_filled : (bytes : List ℕ) → AreFilled (runs bytes)
runs_filled [] = tt
runs_filled (b ∷ bs) = put_byte_filled b (runs bs) (runs_filled bs)

pub All_runs_filled : (bytes : List ℕ) → All (λ (r : ByteRun). 0 < r.count) (runs bytes)
All_runs_filled bytes = All-from_recursion (λ (r : ByteRun). 0 < r.count) (runs bytes) (runs_filled bytes)

-- a longer run of the same byte is as far apart
same_byte : (b n : ℕ) (r : ByteRun) (rs : List ByteRun) → r.byte ≡ b → NeighboursDiffer (r ∷ rs) → NeighboursDiffer (run_of b n ∷ rs)
same_byte b n r [] same apart = tt
same_byte b n r (q ∷ qs) same apart = (λ e. apart.0 (same ∙ e), apart.1)

put_byte_apart : (b : ℕ) (rs : List ByteRun) → NeighboursDiffer rs → NeighboursDiffer (put_byte b rs)
put_byte_apart b [] apart = tt
put_byte_apart b (r ∷ rs) apart = by_test (eqb r.byte b) (λ e. eqb-true r.byte b e) (λ e. eqb-false r.byte b e)
  where
    by_test : (t : Bool) → (t ≡ true → r.byte ≡ b) → (t ≡ false → r.byte ≢ b)
        → NeighboursDiffer (cond t (run_of b (suc r.count) ∷ rs) (run_of b 1 ∷ r ∷ rs))
    by_test true same other = same_byte b (suc r.count) r rs (same refl) apart
    by_test false same other = (λ e. other refl (sym e), apart)

pub runs_apart : (bytes : List ℕ) → NeighboursDiffer (runs bytes)
runs_apart [] = tt
runs_apart (b ∷ bs) = put_byte_apart b (runs bs) (runs_apart bs)
