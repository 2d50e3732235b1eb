-- Parts of what is kept.
use Rattle.std.proofs.Common.{◌≡◌, ◌≢◌, ℕ, zero, suc, ◌+◌, ◌-◌, ◌<◌, ◌≤◌, Bool, cond, eqb, List, [], ◌∷◌, ◌++◌, length, get_or}
use Rattle.std.proofs.Common.{take, drop, min, Some, slice_get, sym, ap, ◌∙◌, arith, length-take, length-drop, length-append, add-zero}
use Rattle.std.proofs.Common.{append_assoc, codes, refl}
use Rattle.std.specs.List.{prefix_len}
use Rattle.std.proofs.lemmas.List.{get_or-take, nil_from_length, drop-drop, drop-take, take-take, take-append-drop, take-append-le}
use Rattle.std.proofs.lemmas.List.{get_or_append_left}
use Rattle.std.proofs.lemmas.List.Folds.{prefix_len-append}
use Rattle.std.proofs.lemmas.List.Concat.{flat_map-append}
use Rattle.std.proofs.lemmas.Bool.{eq-eqb, ne_eqb}
use Rattle.std.proofs.lemmas.Option.{get_or_from_slice_get}
use Rattle.std.proofs.Math.Seq.{drop-cons}
use Rattle.segment_list.specs.Listed.{IsPiece}
use Rattle.image_runs.specs.Runs.{ByteRun, run_of, run_text, runs}
use Rattle.image_runs.specs.Printing.{with_commas}
use Rattle.packed_bytes.specs.Packed.{part}
use Rattle.packed_bytes.specs.Place.{IsFirstPart}
use Rattle.packed_bytes.proofs.RunLemmas.{first_run, runs_apart}

pub part_first : (store : List ℕ) (at next until x : ℕ) → slice_get store at ≡ Some x → at < until → until ≤ length store
    → next ≡ suc at → part store at until ≡ x ∷ part store next until
part_first store at next until x is below inside e =
    let within : at < length (take until store) = rw length-take (omega arith) in
    drop-cons (take until store) at 0 within
    ∙ ap (λ y. y ∷ drop (suc at) (take until store)) (get_or-take until store at 0 below ∙ get_or_from_slice_get store at x 0 is)
    ∙ ap (λ n. x ∷ drop n (take until store)) (sym e)

pub part_none : (store : List ℕ) (at until : ℕ) → until ≤ at → part store at until ≡ []
part_none store at until past = nil_from_length (part store at until) (rw (length-drop, length-take) (omega arith))

pub length-part : (store : List ℕ) (at until : ℕ) → at ≤ until → until ≤ length store → at + length (part store at until) ≡ until
length-part store at until order inside = rw (length-drop, length-take) (omega arith)

-- a part begins with what a piece has of it
pub first_part_of : (store piece : List ℕ) (at until n : ℕ) → IsPiece at store piece → at < until → until ≤ length store
    → n ≡ min (length piece) (until - at) → IsFirstPart store at until (take n piece)
first_part_of store piece at until n is below inside cut =
    let long : length (take n piece) ≡ n = rw length-take (omega arith) in
    let whole = part store at until in
    let all : at + (until - at) ≡ until = omega arith in
    let taken : take n whole ≡ take n piece =
    ap (λ k. take n (drop at (take k store))) (sym all) ∙ ap (take n) (drop-take at (until - at) store)
    ∙ take-take n (until - at) (drop at store) (omega arith)
    ∙ sym (ap (take n) (sym is.is) ∙ take-take n (length piece) (drop at store) (omega arith)) in
    record {
      some = omega (arith, is.some);
      within = omega arith;
      is =
          sym (take-append-drop n whole) ∙ ap (λ l. l ++ drop n whole) taken
          ∙ ap (λ l. take n piece ++ l) (drop-drop n at (take until store) ∙ ap (λ k. drop (at + k) (take until store)) (sym long));
    }

-- and with fewer bytes
pub first_part_within : (store bytes : List ℕ) (at until n : ℕ) → IsFirstPart store at until bytes → n ≤ length bytes
    → part store at until ≡ take n bytes ++ part store (at + n) until
first_part_within store bytes at until n first within =
    let whole = part store at until in
    let rest = part store (at + length bytes) until in
    sym (take-append-drop n whole)
    ∙ ap (λ l. l ++ drop n whole) (ap (take n) first.is ∙ take-append-le n bytes rest within)
    ∙ ap (λ l. take n bytes ++ l) (drop-drop n at (take until store))

-- a code at the head of a piece
pub code_of_piece : (store piece : List ℕ) (at until : ℕ) → IsPiece at store piece → 5 ≤ length piece → at + 5 ≤ until
    → until ≤ length store → part store at until ≡ take 5 piece ++ part store (at + 5) until
code_of_piece store piece at until is long fits inside =
    let n = min (length piece) (until - at) in
    let first = first_part_of store piece at until n is (omega arith) inside refl in
    let some : 5 ≤ n = omega arith in
    let within : 5 ≤ length (take n piece) = omega (arith, length-take n piece) in
    first_part_within store (take n piece) at until 5 first within
    ∙ ap (λ l. l ++ part store (at + 5) until) (take-take 5 n piece some)

-- the runs of a part, up to where one ends
pub part_apart : (store bytes : List ℕ) (at until k : ℕ) → IsFirstPart store at until bytes → k < length bytes
    → (0 < k → get_or bytes (k - 1) 0 ≢ get_or bytes k 0)
    → runs (part store at until) ≡ runs (take k bytes) ++ runs (part store (at + k) until)
part_apart store bytes at until zero first inside differ = ap (λ n. runs (part store n until)) (sym (add-zero at))
part_apart store bytes at until (suc k) first inside differ =
    let whole = part store at until in
    let rest = part store (at + length bytes) until in
    let there = λ (i : ℕ) (below : i < length bytes). ap (λ l. get_or l i 0) first.is ∙ get_or_append_left bytes rest 0 i below in
    let long = ap length first.is ∙ length-append bytes rest in
    let before : suc k - 1 ≡ k = omega arith in
    let apart : get_or whole k 0 ≢ get_or whole (suc k) 0 = λ e. differ (omega arith)
    (ap (λ i. get_or bytes i 0) before ∙ sym (there k (omega arith)) ∙ e ∙ there (suc k) inside) in
    runs_apart k whole (omega (arith, long)) apart
    ∙ ap (λ l. runs l ++ runs (drop (suc k) whole)) (ap (take (suc k)) first.is ∙ take-append-le (suc k) bytes rest (omega arith))
    ∙ ap (λ l. runs (take (suc k) bytes) ++ runs l) (drop-drop (suc k) at (take until store))

-- how often a byte stands in a row, where that ends within the first bytes of a part, and where it may go on behind them
module _ (p : ℕ → Bool) (store bytes : List ℕ) (at until : ℕ) (first : IsFirstPart store at until bytes) where
  both_prefixes : prefix_len p (part store at until) ≡ cond (eqb (prefix_len p bytes) (length bytes))
      (length bytes + prefix_len p (part store (at + length bytes) until)) (prefix_len p bytes)
  both_prefixes = ap (prefix_len p) first.is ∙ prefix_len-append p bytes (part store (at + length bytes) until)

  pub prefix_ends : (n : ℕ) → n ≡ prefix_len p bytes → n < length bytes → prefix_len p (part store at until) ≡ n
  prefix_ends n is short =
      let more = length bytes + prefix_len p (part store (at + length bytes) until) in
      both_prefixes ∙ ap (λ (t : Bool). cond t more (prefix_len p bytes)) (ne_eqb _ (length bytes) (λ e. omega arith)) ∙ sym is

  pub prefix_goes_on : (n : ℕ) → n ≡ prefix_len p bytes → n ≡ length bytes
      → prefix_len p (part store at until) ≡ n + prefix_len p (part store (at + n) until)
  prefix_goes_on n is all =
      let more = length bytes + prefix_len p (part store (at + length bytes) until) in
      both_prefixes ∙ ap (λ (t : Bool). cond t more (prefix_len p bytes)) (eq-eqb _ (length bytes) (sym is ∙ all))
      ∙ ap (λ k. k + prefix_len p (part store (at + k) until)) (sym all)

-- the first run of a part, and what is left
pub part_run : (store : List ℕ) (at until byte n : ℕ) → slice_get store at ≡ Some byte → at < until → until ≤ length store
    → n ≡ prefix_len (λ b. eqb b byte) (part store at until)
    → (0 < n) × (runs (part store at until) ≡ run_of byte n ∷ runs (part store (at + n) until))
part_run store at until byte n is below inside long =
    let whole = part store at until in
    let cut = part_first store at (at + 1) until byte is below inside (omega arith) in
    let some : 0 < length whole = omega (arith, length-part store at until (omega arith) inside) in
    let first = first_run whole byte n some (ap (λ l. get_or l 0 0) cut) long in
    (first.0, first.1 ∙ ap (λ l. run_of byte n ∷ runs l) (drop-drop n at (take until store)))

-- what is printed of runs, and of the run behind them, and then the text of the others
pub text_apart : (old more new : List ℕ) (whole first rest : List ByteRun) (r : ByteRun) → more ≡ old ++ with_commas first
    → new ≡ more ++ (run_text r ++ codes ",") → whole ≡ first ++ r ∷ rest → new ++ with_commas rest ≡ old ++ with_commas whole
text_apart old more new whole first rest r printed behind apart =
    let run = run_text r ++ codes "," in
    ap (λ l. l ++ with_commas rest) (behind ∙ ap (λ l. l ++ run) printed ∙ append_assoc old (with_commas first) run)
    ∙ append_assoc old (with_commas first ++ run) (with_commas rest)
    ∙ ap (λ l. old ++ l) (append_assoc (with_commas first) run (with_commas rest)
    ∙ sym (ap with_commas apart ∙ flat_map-append (λ (q : ByteRun). run_text q ++ codes ",") first (r ∷ rest)))
