-- Lists that are put behind others: each is read as it was put.
use Rattle.std.proofs.Common.{◌≡◌, ℕ, ◌+◌, ◌^◌, ◌<◌, Bool, true, false, List, [], ◌∷◌, ◌++◌, length, drop}
use Rattle.std.proofs.Common.{replicate, refl, sym, ap, ◌∙◌, arith, length-append}
use Rattle.std.proofs.lemmas.Bool.{lt-ltb, le-ltb}
use Rattle.std.proofs.lemmas.List.{take-append-le, length-replicate}
use Rattle.std.proofs.Math.Seq.{take-append-add, take-length, drop-append_seam}
use Rattle.image_runs.specs.Runs.{ByteRun, runs, run_bytes}
use Rattle.image_runs.proofs.LongestRuns.{run_bytes-runs}
use Rattle.packed_bytes.specs.declared.list.Place.{Place}
use Rattle.packed_bytes.specs.Packed.{run_codes, coded_runs, is_shorter, packed, runs_in, list_in}
use Rattle.packed_bytes.specs.Place.{is_packed, kept_at, list_at, place_of, IsPlace}
use Rattle.packed_bytes.proofs.RunLemmas.{coded_code, length-codes, packed_runs, packed_plain, packed_short}

-- codes are read as the runs that they are of
coded_codes : (rs : List ByteRun) → length (run_bytes rs) < 2 ^ 32 → coded_runs (run_codes rs) ≡ rs
coded_codes [] short = refl
coded_codes (r ∷ rs) short =
    let all = length-append (replicate r.count r.byte) (run_bytes rs) in
    coded_code r (run_codes rs) (omega (arith, all, length-replicate r.count r.byte))
    ∙ ap (λ l. r ∷ l) (coded_codes rs (omega (arith, all)))

coded_runs-packed : (list : List ℕ) → length list < 2 ^ 32 → coded_runs (run_codes (runs list)) ≡ runs list
coded_runs-packed list short = coded_codes (runs list) (omega (arith, ap length (run_bytes-runs list)))

-- what a list is kept as says whether it is kept as runs
is_packed-place : (store list : List ℕ) → is_packed (place_of store list) ≡ is_shorter list
is_packed-place store list = one (is_shorter list) refl
  where
    one : (b : Bool) → is_shorter list ≡ b → is_packed (place_of store list) ≡ b
    one true e = let p = packed_runs list e in lt-ltb _ _ (omega (arith, p.1, ap length p.0, length-codes (runs list)))
    one false e = le-ltb _ _ (omega (arith, ap length (packed_plain list e)))

-- the runs and the list that are read from what a list is kept as
read_packed : (list : List ℕ) → length list < 2 ^ 32
    → (runs_in (is_shorter list) (packed list) ≡ runs list) × (list_in (is_shorter list) (packed list) ≡ list)
read_packed list short = one (is_shorter list) refl
  where
    one : (b : Bool) → is_shorter list ≡ b → (runs_in b (packed list) ≡ runs list) × (list_in b (packed list) ≡ list)
    one true e =
        let same = ap coded_runs ((packed_runs list e).0) ∙ coded_runs-packed list short in
        (same, ap run_bytes same ∙ run_bytes-runs list)
    one false e = let same = packed_plain list e in (ap runs same, same)

kept_last : (store list : List ℕ) → kept_at (store ++ packed list) (place_of store list) ≡ packed list
kept_last store list =
    ap (drop (length store))
    (take-append-add store (packed list) (length (packed list)) ∙ ap (λ l. store ++ l) (take-length (packed list)))
    ∙ drop-append_seam store (packed list)

-- a list that was put is there
pub place_put : (store list : List ℕ) → length list < 2 ^ 32
    → IsPlace (store ++ packed list) (place_of store list) × (list_at (store ++ packed list) (place_of store list) ≡ list)
place_put store list short =
    let p = place_of store list in
    let kept = kept_last store list in
    let flag = is_packed-place store list in
    let read = read_packed list short in
    let is : list_at (store ++ packed list) p ≡ list =
    ap (λ l. list_in (is_packed p) l) kept ∙ ap (λ b. list_in b (packed list)) flag ∙ read.1 in (
      record {
        within = omega (arith, length-append store (packed list));
        count = ap length is;
        shorter = flag ∙ ap is_shorter (sym is);
        longest = ap (λ l. runs_in (is_packed p) l) kept ∙ ap (λ b. runs_in b (packed list)) flag ∙ read.0 ∙ ap runs (sym is);
        small = omega (arith, packed_short list);
      },
      is,
    )

-- and stays so when others are put
pub place_stays : (store more : List ℕ) (p : Place) → IsPlace store p
    → IsPlace (store ++ more) p × (list_at (store ++ more) p ≡ list_at store p)
place_stays store more p place =
    let kept : kept_at (store ++ more) p ≡ kept_at store p = ap (drop p.at) (take-append-le (p.at + p.taken) store more place.within) in
    let same = ap (list_in (is_packed p)) kept in (
      record {
        within = omega (arith, place.within, length-append store more);
        count = ap length same ∙ place.count;
        shorter = place.shorter ∙ ap is_shorter (sym same);
        longest = ap (runs_in (is_packed p)) kept ∙ place.longest ∙ ap runs (sym same);
        small = place.small;
      },
      same,
    )
