-- The runs of a list, how many they are, and their codes.
use mir.Val.{bool_byte}
use Rattle.std.proofs.Common.{◌≡◌, ◌≢◌, ℕ, zero, suc, ◌+◌, ◌*◌, ◌^◌, ◌<◌, ◌≤◌, Bool, true, false, cond, not, eqb, List, [], ◌∷◌, ◌++◌}
use Rattle.std.proofs.Common.{length, get_or, take, drop, refl, sym, ap, subst, ◌∙◌, arith, one-add, length-append}
use Rattle.std.specs.List.{prefix_len}
use Rattle.std.specs.Int.{from_le_bytes}
use mir.Syntax.{w32}
use Rattle.std.proofs.lemmas.Bool.{eq-eqb, ne_eqb, ltb-true}
use Rattle.std.proofs.lemmas.Nat.{from_le_bytes-to_le_bytes_4}
use Rattle.image_runs.specs.Runs.{ByteRun, run_of, put_byte, runs}
use Rattle.image_runs.proofs.RunsLemmas.{runs-cons}
use Rattle.packed_bytes.specs.Packed.{run_code, run_codes, coded_runs, is_shorter, packed}

-- the first run of a list
pub first_run : (list : List ℕ) (b n : ℕ) → 0 < length list → get_or list 0 0 ≡ b → n ≡ prefix_len (λ x. eqb x b) list
    → (0 < n) × (runs list ≡ run_of b n ∷ runs (drop n list))
first_run [] b n some first long = absurd (omega arith)
first_run (c ∷ cs) b n some first long =
    let more = prefix_len (λ x. eqb x b) cs in
    let count : n ≡ suc more = long ∙ ap (λ (t : Bool). cond t (1 + more) 0) (eq-eqb c b first) ∙ one-add more in (
      omega arith,
      subst (λ x. runs (x ∷ cs) ≡ run_of b n ∷ runs (drop n (x ∷ cs))) (sym first)
          (runs-cons b cs ∙ ap (λ k. run_of b k ∷ runs (drop k (b ∷ cs))) (sym count)),
    )

pub some_run : (list : List ℕ) → 0 < length list → 0 < length (runs list)
some_run list some =
    let first = first_run list (get_or list 0 0) (prefix_len (λ x. eqb x (get_or list 0 0)) list) some refl refl in
    omega (arith, ap length first.1)

-- ---- how many runs there are

-- 1 where a byte is another than the one before it
abbrev pub change : ℕ → ℕ → ℕ
change a b = bool_byte (not (eqb b a))

pub bool_byte_most : (t : Bool) → bool_byte t ≤ 1
bool_byte_most true = omega arith
bool_byte_most false = omega arith

-- one byte more in front
count_one_more : (a b : ℕ) (l : List ℕ) → length (runs (a ∷ b ∷ l)) ≡ length (runs (b ∷ l)) + change a b
count_one_more a b l =
    let more = prefix_len (λ x. eqb x b) l in
    ap (λ rs. length (put_byte a rs)) (runs-cons b l) ∙ by_test (suc more) (runs (drop more l)) (eqb b a)
    ∙ sym (ap (λ rs. length rs + change a b) (runs-cons b l))
  where
    by_test : (n : ℕ) (rs : List ByteRun) (t : Bool)
        → length (cond t (run_of a (suc n) ∷ rs) (run_of a 1 ∷ run_of b n ∷ rs)) ≡ length (run_of b n ∷ rs) + bool_byte (not t)
    by_test n rs true = omega arith
    by_test n rs false = omega arith

-- the runs of two parts that have a byte in common
pub count_parts : (n : ℕ) (l : List ℕ) → n < length l
    → suc (length (runs l)) ≡ length (runs (take (suc n) l)) + length (runs (drop n l))
count_parts n [] inside = absurd (omega arith)
count_parts zero (a ∷ l) inside = omega arith
count_parts (suc n) (a ∷ []) inside = absurd (omega arith)
count_parts (suc n) (a ∷ b ∷ l) inside =
    let rest = count_parts n (b ∷ l) (omega arith) in
    omega (arith, rest, count_one_more a b l, count_one_more a b (take n l))

-- one byte more behind
count_more : (i : ℕ) (l : List ℕ) → suc i < length l
    → length (runs (take (suc (suc i)) l)) ≡ length (runs (take (suc i) l)) + change (get_or l i 0) (get_or l (suc i) 0)
count_more i [] inside = absurd (omega arith)
count_more i (a ∷ []) inside = absurd (omega arith)
count_more zero (a ∷ b ∷ l) inside = count_one_more a b []
count_more (suc i) (a ∷ b ∷ l) inside =
    let rest = count_more i (b ∷ l) (omega arith) in
    omega (arith, rest, count_one_more a b (take (suc i) l), count_one_more a b (take i l))

pub count_more_at : (i j k : ℕ) (l : List ℕ) → j ≡ suc i → k ≡ suc j → j < length l
    → length (runs (take k l)) ≡ length (runs (take j l)) + change (get_or l i 0) (get_or l j 0)
count_more_at i j k l next end inside = rw (end, next) (count_more i l (omega arith))

-- ---- where a run ends, two lists have runs of their own

put_byte_front : (b : ℕ) (r : ByteRun) (rs qs : List ByteRun) → put_byte b ((r ∷ rs) ++ qs) ≡ put_byte b (r ∷ rs) ++ qs
put_byte_front b r rs qs = by_test (eqb r.byte b)
  where
    by_test : (t : Bool) → cond t (run_of b (suc r.count) ∷ (rs ++ qs)) (run_of b 1 ∷ r ∷ (rs ++ qs))
        ≡ cond t (run_of b (suc r.count) ∷ rs) (run_of b 1 ∷ r ∷ rs) ++ qs
    by_test true = refl
    by_test false = refl

pub runs_apart : (k : ℕ) (l : List ℕ) → suc k < length l → get_or l k 0 ≢ get_or l (suc k) 0
    → runs l ≡ runs (take (suc k) l) ++ runs (drop (suc k) l)
runs_apart k [] inside differ = absurd (omega arith)
runs_apart k (a ∷ []) inside differ = absurd (omega arith)
runs_apart zero (a ∷ b ∷ l) inside differ =
    runs-cons a (b ∷ l)
    ∙ ap (λ (t : Bool). let n = cond t (1 + prefix_len (λ x. eqb x a) l) 0 in run_of a (suc n) ∷ runs (drop n (b ∷ l)))
    (ne_eqb b a (λ e. differ (sym e)))
runs_apart (suc k) (a ∷ b ∷ l) inside differ =
    let n = prefix_len (λ x. eqb x b) (take k l) in
    let first = runs-cons b (take k l) in
    ap (put_byte a) (runs_apart k (b ∷ l) (omega arith) differ)
    ∙ ap (λ rs. put_byte a (rs ++ runs (drop k l))) first
    ∙ put_byte_front a _ _ (runs (drop k l))
    ∙ ap (λ rs. put_byte a rs ++ runs (drop k l)) (sym first)

-- ---- codes

pub coded_code : (r : ByteRun) (rest : List ℕ) → r.count < 2 ^ 32 → coded_runs (run_code r ++ rest) ≡ r ∷ coded_runs rest
coded_code r rest small = ap (λ n. run_of r.byte n ∷ coded_runs rest) (from_le_bytes-to_le_bytes_4 r.count small)

-- a code is read as its run
pub code_read : (code rest : List ℕ) (n : ℕ) → length code ≡ 5
    → n ≡ from_le_bytes w32 (get_or code 1 0 ∷ get_or code 2 0 ∷ get_or code 3 0 ∷ get_or code 4 0 ∷ [])
    → coded_runs (code ++ rest) ≡ run_of (get_or code 0 0) n ∷ coded_runs rest
code_read [] rest n long is = absurd (omega arith)
code_read (a ∷ []) rest n long is = absurd (omega arith)
code_read (a ∷ b ∷ []) rest n long is = absurd (omega arith)
code_read (a ∷ b ∷ c ∷ []) rest n long is = absurd (omega arith)
code_read (a ∷ b ∷ c ∷ d ∷ []) rest n long is = absurd (omega arith)
code_read (a ∷ b ∷ c ∷ d ∷ e ∷ []) rest n long is = ap (λ k. run_of a k ∷ coded_runs rest) (sym is)
code_read (a ∷ b ∷ c ∷ d ∷ e ∷ f ∷ more) rest n long is = absurd (omega arith)

length-code : (r : ByteRun) → length (run_code r) ≡ 5
length-code r = refl

-- no code is as short
pub coded_short : (kept : List ℕ) → length kept < 5 → coded_runs kept ≡ []
coded_short [] short = refl
coded_short (a ∷ []) short = refl
coded_short (a ∷ b ∷ []) short = refl
coded_short (a ∷ b ∷ c ∷ []) short = refl
coded_short (a ∷ b ∷ c ∷ d ∷ []) short = refl
coded_short (a ∷ b ∷ c ∷ d ∷ e ∷ rest) short = absurd (omega arith)

-- how many bytes the codes are, and what a list is kept as
pub length-codes : (rs : List ByteRun) → length (run_codes rs) ≡ 5 * length rs
length-codes [] = refl
length-codes (r ∷ rs) = omega (arith, length-append (run_code r) (run_codes rs), length-codes rs)

pub packed_runs : (list : List ℕ) → is_shorter list ≡ true
    → (packed list ≡ run_codes (runs list)) × (5 * length (runs list) < length list)
packed_runs list shorter = (ap (λ (b : Bool). cond b (run_codes (runs list)) list) shorter, ltb-true _ _ shorter)

pub packed_plain : (list : List ℕ) → is_shorter list ≡ false → packed list ≡ list
packed_plain list longer = ap (λ (b : Bool). cond b (run_codes (runs list)) list) longer

pub packed_short : (list : List ℕ) → length (packed list) ≤ length list
packed_short list = one (is_shorter list) refl
  where
    one : (b : Bool) → is_shorter list ≡ b → length (packed list) ≤ length list
    one true e = let p = packed_runs list e in omega (arith, p.1, ap length p.0, length-codes (runs list))
    one false e = omega (arith, ap length (packed_plain list e))
