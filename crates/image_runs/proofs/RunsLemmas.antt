-- The runs of bytes from left to right, and their text.
use Rattle.std.proofs.Common.{◌≡◌, ◌≢◌, ℕ, zero, suc, ◌+◌, ◌<◌, Bool, true, false, cond, eqb, List, [], ◌∷◌, ◌++◌}
use Rattle.std.proofs.Common.{length, get_or, take, drop, map, codes, refl, sym, ap, ◌∙◌, arith, append-nil}
use Rattle.std.proofs.Common.{append_assoc, one-add, add-one, ◌-◌}
use Rattle.std.specs.List.{prefix_len, flat_map, join_with_byte}
use Rattle.std.specs.Fmt.{digits}
use Rattle.std.proofs.lemmas.List.{take_at, length_push}
use Rattle.std.proofs.lemmas.List.Concat.{flat_map-append}
use Rattle.std.proofs.lemmas.Bool.{eq-eqb, ne_eqb, eqb-true, eqb-false}
use Rattle.image_runs.specs.Runs.{ByteRun, run_of, put_byte, runs, run_text, runs_text}
use Rattle.image_runs.specs.Printing.{with_commas, lone_text}

-- the first of some runs is of this byte
abbrev StartsWithByte : ℕ → List ByteRun → Type 0
StartsWithByte b [] = ⊥
StartsWithByte b (r ∷ rs) = r.byte ≡ b

-- one byte more, and it is the first
put_byte_starts : (b : ℕ) (rs : List ByteRun) → StartsWithByte b (put_byte b rs)
put_byte_starts b [] = refl
put_byte_starts b (r ∷ rs) = by_test (eqb r.byte b)
  where
    by_test : (t : Bool) → StartsWithByte b (cond t (run_of b (suc r.count) ∷ rs) (run_of b 1 ∷ r ∷ rs))
    by_test true = refl
    by_test false = refl

-- one byte more before runs that begin with the same byte, or with another
put_byte-same : (b n : ℕ) (rs : List ByteRun) → put_byte b (run_of b n ∷ rs) ≡ run_of b (suc n) ∷ rs
put_byte-same b n rs = rw (eq-eqb b b refl) refl

put_byte-other : (b c : ℕ) (rs : List ByteRun) → b ≢ c → StartsWithByte c rs → put_byte b rs ≡ run_of b 1 ∷ rs
put_byte-other b c [] other starts = absurd starts
put_byte-other b c (r ∷ rs) other starts = rw (ne_eqb r.byte b (λ e. other (sym e ∙ starts))) refl

-- The first run is as long as its byte stands in a row.
pub runs-cons : (b : ℕ) (bs : List ℕ) → runs (b ∷ bs) ≡ run_of b (suc (prefix_len (λ x. eqb x b) bs))
    ∷ runs (drop (prefix_len (λ x. eqb x b) bs) bs)
runs-cons b [] = refl
runs-cons b (c ∷ cs) = by_test (eqb c b) (λ e. eqb-true c b e) (λ e. eqb-false c b e) (runs-cons b cs)
  where
    by_test : (t : Bool) → (t ≡ true → c ≡ b) → (t ≡ false → c ≢ b)
        → runs (b ∷ cs) ≡ run_of b (suc (prefix_len (λ x. eqb x b) cs)) ∷ runs (drop (prefix_len (λ x. eqb x b) cs) cs)
        → runs (b ∷ c ∷ cs) ≡ run_of b (suc (cond t (1 + prefix_len (λ x. eqb x b) cs) 0))
        ∷ runs (drop (cond t (1 + prefix_len (λ x. eqb x b) cs) 0) (c ∷ cs))
    by_test true same other rest =
        ap (λ x. put_byte b (put_byte x (runs cs))) (same refl) ∙ ap (put_byte b) rest ∙ put_byte-same b _ _
        ∙ ap (λ n. run_of b (suc n) ∷ runs (drop n (c ∷ cs))) (sym (one-add (prefix_len (λ x. eqb x b) cs)))
    by_test false same other rest = put_byte-other b c (runs (c ∷ cs)) (λ e. other refl (sym e)) (put_byte_starts c (runs cs))

-- the run of a byte that stands alone
abbrev lone : ℕ → ByteRun
lone b = run_of b 1

-- Bytes that differ each from the next stand alone.
pub runs-lone : (n : ℕ) (bytes : List ℕ) → n < length bytes → ((k : ℕ) → k < n → get_or bytes k 0 ≢ get_or bytes (suc k) 0)
    → runs bytes ≡ map lone (take n bytes) ++ runs (drop n bytes)
runs-lone zero bytes inside differ = refl
runs-lone (suc n) [] inside differ = absurd (omega arith)
runs-lone (suc n) (b ∷ []) inside differ = absurd (omega arith)
runs-lone (suc n) (b ∷ c ∷ rest) inside differ =
    put_byte-other b c (runs (c ∷ rest)) (differ 0 (omega arith)) (put_byte_starts c (runs rest))
    ∙ ap (λ l. lone b ∷ l) (runs-lone n (c ∷ rest) (omega arith) (λ k below. differ (suc k) (omega arith)))

-- their text is the table's
pub with_commas-lone : (bytes : List ℕ) → with_commas (map lone bytes) ≡ flat_map lone_text bytes
unfolding digits
with_commas-lone [] = refl
with_commas-lone (b ∷ bs) = ap (λ l. lone_text b ++ l) (with_commas-lone bs)

pub with_commas-append : (rs qs : List ByteRun) → with_commas (rs ++ qs) ≡ with_commas rs ++ with_commas qs
with_commas-append = flat_map-append (λ r. run_text r ++ codes ",")

-- ---- what is printed first, and the text of what is left

-- for bytes that stand alone
pub lone_printed : (n : ℕ) (bytes : List ℕ) → n < length bytes → ((k : ℕ) → k < n → get_or bytes k 0 ≢ get_or bytes (k + 1) 0)
    → flat_map lone_text (take n bytes) ++ with_commas (runs (drop n bytes)) ≡ with_commas (runs bytes)
lone_printed n bytes inside differ =
    ap (λ l. l ++ with_commas (runs (drop n bytes))) (sym (with_commas-lone (take n bytes)))
    ∙ sym (with_commas-append (map lone (take n bytes)) (runs (drop n bytes)))
    ∙ ap with_commas (sym (runs-lone n bytes inside (λ k below. rw (← add-one) (differ k below))))

-- for the first run
pub run_printed : (bytes : List ℕ) (b n : ℕ) → 0 < length bytes → get_or bytes 0 0 ≡ b → n ≡ prefix_len (λ x. eqb x b) bytes
    → (0 < n) × ((run_text (run_of b n) ++ codes ",") ++ with_commas (runs (drop n bytes)) ≡ with_commas (runs bytes))
run_printed [] b n some first length = absurd (omega arith)
run_printed (c ∷ cs) b n some first length =
    let more = prefix_len (λ x. eqb x b) cs in
    let count : n ≡ suc more = length ∙ ap (λ (t : Bool). cond t (1 + more) 0) (eq-eqb c b first) ∙ one-add more in
    (omega arith, rw (count, first) (ap with_commas (sym (runs-cons b cs))))

-- ---- the last comma

-- the text of runs, and a comma
joined : (b : ℕ) (rs : List ByteRun) → StartsWithByte b rs → with_commas rs ≡ join_with_byte 44 (map run_text rs) ++ codes ","
joined b [] starts = absurd starts
joined b (r ∷ []) starts = append-nil (run_text r ++ codes ",")
joined b (r ∷ q ∷ qs) starts =
    append_assoc (run_text r) (codes ",") (with_commas (q ∷ qs))
    ∙ ap (λ l. run_text r ++ 44 ∷ l) (joined q.byte (q ∷ qs) refl)
    ∙ sym (append_assoc (run_text r) (44 ∷ join_with_byte 44 (map run_text (q ∷ qs))) (codes ","))

-- What is printed is the text, but for the last comma.
pub runs_text-printed : (old bytes all : List ℕ) → 0 < length bytes → all ≡ old ++ with_commas (runs bytes)
    → take (length all - 1) all ≡ old ++ runs_text bytes
runs_text-printed old [] all some text = absurd (omega arith)
runs_text-printed old (b ∷ bs) all some text =
    let prefix = old ++ runs_text (b ∷ bs) in
    let whole : all ≡ prefix ++ 44 ∷ [] =
    text ∙ ap (λ l. old ++ l) (joined b (runs (b ∷ bs)) (put_byte_starts b (runs bs)))
    ∙ sym (append_assoc old (runs_text (b ∷ bs)) (codes ",")) in
    let long : length prefix ≡ length all - 1 = omega (arith, ap length whole, length_push prefix 44) in
    ap (take (length all - 1)) whole ∙ take_at prefix (44 ∷ []) (length all - 1) long
