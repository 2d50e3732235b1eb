-- Bytes that are copied behind others.
use Rattle.std.proofs.Common.{◌≡◌, ℕ, ◌+◌, ◌-◌, ◌≤◌, List, ◌∷◌, ◌++◌, length, take, replicate, ap, arith}
use Rattle.std.proofs.Common.{length-append, take_all}
use Rattle.std.proofs.lemmas.List.{length-replicate}
use Rattle.image_runs.specs.Runs.{ByteRun, run_of, run_bytes}

-- a run of those that are left has room, where all have
pub run_fits : (had all : List ℕ) (rest : List ByteRun) (b n room : ℕ) → had ++ run_bytes (run_of b n ∷ rest) ≡ all
    → length all ≤ room → length had + n ≤ room
run_fits had all rest b n room e fits = omega (
  arith,
  fits,
  ap length e,
  length-append had (replicate n b ++ run_bytes rest),
  length-append (replicate n b) (run_bytes rest),
  length-replicate n b,
)

-- a list that is made longer keeps what it had
pub grown : (xs : List ℕ) (n b : ℕ) → take (length xs + n) xs ++ replicate (length xs + n - length xs) b ≡ xs ++ replicate n b
grown xs n b =
    let more : length xs + n - length xs ≡ n = omega arith in
    (λ i. take_all (length xs + n) xs (omega arith) i ++ replicate (more i) b)
