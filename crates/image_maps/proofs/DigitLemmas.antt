-- The digits of a number, and of those that go on with more.
use Rattle.std.proofs.Common.{◌≡◌, ◌≢◌, ◌⊎◌, ℕ, zero, suc, ◌+◌, ◌*◌, ◌/◌, ◌%◌, ◌^◌, ◌<◌, ◌≤◌, max}
use Rattle.std.proofs.Common.{List, [], ◌∷◌, ◌++◌, length, get_or}
use Rattle.std.proofs.Common.{decimal, inl, inr, refl, sym, ap, subst, ◌∙◌, arith, append_assoc, append-nil, length-append}
use Rattle.std.specs.List.{All}
use Rattle.std.proofs.lemmas.Fmt.{decimal_injective, decimal_nonempty, decimal_digit, decimal_step}
use Rattle.std.proofs.lemmas.Fmt.{decimal_by_steps, first_decimal}
use Rattle.std.proofs.lemmas.List.Elements.{All-nil, All-push, All-weaker}
use Rattle.image_maps.specs.Begun.{IsDigit, Reaches, Within, Longer, MayBegin}
use Rattle.image_maps.proofs.Cuts.{Lacks, All-midst, goes_on, last_cut}

pub digits_alone : (n : ℕ) → n < 2 ^ 64 → All IsDigit (decimal n)
digits_alone = decimal_by_steps (λ n ds. All IsDigit ds)
    (λ n one. All-push IsDigit [] (48 + n) (All-nil IsDigit) (omega arith, omega arith))
    (λ n ds more all. All-push IsDigit ds (48 + n % 10) all (omega arith, omega arith))

-- a number's text lacks what is no digit
pub decimal_lacks : (byte n : ℕ) → byte < 48 → n < 2 ^ 64 → Lacks byte (decimal n)
decimal_lacks byte n low small =
    All-weaker IsDigit (λ c. c ≢ byte) (λ c digit is. omega arith) (decimal n) (digits_alone n small)

pub is_digit : (n : ℕ) (front : List ℕ) (byte : ℕ) (back : List ℕ) → n < 2 ^ 64 → decimal n ≡ front ++ byte ∷ back
    → IsDigit byte
is_digit n front byte back small is = All-midst IsDigit front byte back (subst (All IsDigit) is (digits_alone n small))

-- the text of a number with a digit more
pub decimal_longer : (n d : ℕ) → 0 < n → d < 10 → n * 10 + d < 2 ^ 64
    → decimal (n * 10 + d) ≡ decimal n ++ (48 + d) ∷ []
decimal_longer n d some digit small =
    let front : (n * 10 + d) / 10 ≡ n = omega arith in
    let back : (n * 10 + d) % 10 ≡ d = omega arith in
    decimal_step (n * 10 + d) (omega arith) small ∙ ap (λ k. decimal k ++ (48 + (n * 10 + d) % 10) ∷ []) front
    ∙ ap (λ k. decimal n ++ (48 + k) ∷ []) back

-- a number whose text begins with a zero is 0
pub only_zero : (n : ℕ) (more : List ℕ) → n < 2 ^ 64 → decimal n ≡ decimal 0 ++ more → n ≡ 0
only_zero n more small is =
    let zero_first : get_or (decimal n) 0 0 ≡ 48 =
    ap (λ ds. get_or ds 0 0) (is ∙ ap (λ ds. ds ++ more) (decimal_digit 0 (omega arith))) in
    by_cases n small zero_first
  where
    by_cases : (n : ℕ) → n < 2 ^ 64 → get_or (decimal n) 0 0 ≡ 48 → n ≡ 0
    by_cases zero small first = refl
    by_cases (suc k) small first = absurd (omega (arith, first_decimal (suc k) (omega arith) small, first))

-- a number that goes on by a byte is not 0, and the byte is a digit
pub goes_on_by_digit : (n m byte : ℕ) (back : List ℕ) → m < 2 ^ 64 → decimal m ≡ decimal n ++ byte ∷ back
    → IsDigit byte × (0 < n)
goes_on_by_digit n m byte back small is = (is_digit m (decimal n) byte back small is, some n is)
  where
    some : (n : ℕ) → decimal m ≡ decimal n ++ byte ∷ back → 0 < n
    some zero is =
        let same : m ≡ 0 = only_zero m (byte ∷ back) small is in
        let one : length (decimal m) ≡ length (decimal 0) = ap (λ k. length (decimal k)) same in
        absurd (omega (arith, one, ap length is, length-append (decimal 0) (byte ∷ back)))
    some (suc k) is = omega arith

reaches_longer : (n d low high : ℕ) → d < 10 → Reaches n low high → Reaches (n * 10 + d) low high
reaches_longer n d low high digit (Within l h least most) =
    Longer low high (Within (low * 10) (high * 10) (omega arith) (omega arith))
reaches_longer n d low high digit (Longer l h reaches) =
    Longer low high (reaches_longer n d (low * 10) (high * 10) digit reaches)

-- what is cut to the number goes on from its digits
pub reaches : (n m : ℕ) (more : List ℕ) → n < 2 ^ 64 → m < 2 ^ 64 → decimal m ≡ decimal n ++ more → Reaches m n (n + 1)
reaches n m more small low is = (decimal_by_steps Told one step m low low).1 more is
  where
    Told : ℕ → List ℕ → Type 0
    Told m ds = m < 2 ^ 64 → (ds ≡ decimal m) × ((more : List ℕ) → ds ≡ decimal n ++ more → Reaches m n (n + 1))

    itself : (m : ℕ) (more : List ℕ) → m < 2 ^ 64 → decimal m ≡ decimal n ++ more → more ≡ [] → Reaches m n (n + 1)
    itself m more low is none =
        let whole : decimal m ≡ decimal n = is ∙ ap (λ rest. decimal n ++ rest) none ∙ append-nil (decimal n) in
        let same : m ≡ n = decimal_injective m n low small whole in
        Within n (n + 1) (omega arith) (omega arith)

    empty : (more : List ℕ) → length more ≡ 0 → more ≡ []
    empty [] none = refl
    empty (c ∷ more) none = absurd (omega arith)

    one : (m : ℕ) → m < 10 → Told m ((48 + m) ∷ [])
    one m digit low =
        let spelled : (48 + m) ∷ [] ≡ decimal m = sym (decimal_digit m digit) in (
          spelled,
          λ more is. itself m more low (sym spelled ∙ is)
              (empty more (omega (arith, decimal_nonempty n small, length-append (decimal n) more, ap length is))),
        )

    step : (m : ℕ) (ds : List ℕ) → 10 ≤ m → Told (m / 10) ds → Told m (ds ++ ((48 + m % 10) ∷ []))
    step m ds long told low =
        let before = told (omega arith) in
        let spelled : ds ++ ((48 + m % 10) ∷ []) ≡ decimal m =
        ap (λ front. front ++ ((48 + m % 10) ∷ [])) before.0 ∙ sym (decimal_step m long low) in
        (spelled, λ more is. by_cut m ds more low spelled is before.1 (last_cut ds (48 + m % 10) (decimal n) more is))
      where
        by_cut : (m : ℕ) (ds more : List ℕ) → m < 2 ^ 64 → ds ++ ((48 + m % 10) ∷ []) ≡ decimal m
            → ds ++ ((48 + m % 10) ∷ []) ≡ decimal n ++ more
            → ((more : List ℕ) → ds ≡ decimal n ++ more → Reaches (m / 10) n (n + 1))
            → (more ≡ []) ⊎ ((front : List ℕ) × (ds ≡ decimal n ++ front)) → Reaches m n (n + 1)
        by_cut m ds more low spelled is before (inl none) = itself m more low (sym spelled ∙ is) none
        by_cut m ds more low spelled is before (inr (front, cut)) =
            let whole : (m / 10) * 10 + m % 10 ≡ m = omega arith in
            subst (λ k. Reaches k n (n + 1)) whole
            (reaches_longer (m / 10) (m % 10) n (n + 1) (omega arith) (before front cut))

pub begins : (n m low high : ℕ) → 0 < low → m < 2 ^ 64 → Reaches m low high
    → ((k : ℕ) → low ≤ k → k < high → k < 2 ^ 64 → (more : List ℕ) × (decimal k ≡ decimal n ++ more))
    → (more : List ℕ) × (decimal m ≡ decimal n ++ more)
begins n m low high some small (Within l h least most) all = all m least most small
begins n m low high some small (Longer l h reaches) all =
    begins n m (low * 10) (high * 10) (omega arith) small reaches (λ k least most few.
    let front = all (k / 10) (omega arith) (omega arith) (omega arith) in
    let back = (48 + k % 10) ∷ [] in (
      front.0 ++ back,
      decimal_step k (omega arith) few ∙ ap (λ ds. ds ++ back) front.1
          ∙ append_assoc (decimal n) front.0 back,
    ))

-- the numbers that go on from a number that is not 0 are those that reach it
pub may_reach : (n least end : ℕ) → 0 < n → end < 2 ^ 64 → (m : ℕ) × Reaches m n (n + 1) × (least ≤ m) × (m < end)
    → MayBegin n least end
may_reach n least end some few (m, reaches, low, high) = (
  m,
  low,
  high,
  begins n m n (n + 1) some (omega arith) reaches
      (λ k least most small. ([], ap decimal (same k least most) ∙ sym (append-nil (decimal n)))),
)
  where
    same : (k : ℕ) → n ≤ k → k < n + 1 → k ≡ n
    same k least most = omega arith

pub must_reach : (n least end : ℕ) → n < 2 ^ 64 → end < 2 ^ 64 → MayBegin n least end
    → (m : ℕ) × Reaches m n (n + 1) × (least ≤ m) × (m < end)
must_reach n least end small few (m, low, high, (more, is)) = (m, reaches n m more small (omega arith) is, low, high)

-- some number from `low` on and below `high` is one from `least` on and below `end`
pub some_within : (low high least end : ℕ) → low < high → low < end → least < end → least < high
    → (n : ℕ) × Reaches n low high × (least ≤ n) × (n < end)
some_within low high least end order low_in least_in least_below =
    (max low least, Within low high (omega arith) (omega arith), omega arith, omega arith)

-- where all that are not cut are too low, one that is found is cut
pub must_be_longer : (low high least end : ℕ) → high ≤ least → (n : ℕ) × Reaches n low high × (least ≤ n) × (n < end)
    → (n : ℕ) × Reaches n (low * 10) (high * 10) × (least ≤ n) × (n < end)
must_be_longer low high least end below (n, Within l h from to, least_ok, end_ok) = absurd (omega arith)
must_be_longer low high least end below (n, Longer l h reaches, least_ok, end_ok) = (n, reaches, least_ok, end_ok)

pub is_longer : (low high least end : ℕ) → (n : ℕ) × Reaches n (low * 10) (high * 10) × (least ≤ n) × (n < end)
    → (n : ℕ) × Reaches n low high × (least ≤ n) × (n < end)
is_longer low high least end (n, reaches, least_ok, end_ok) = (n, Longer low high reaches, least_ok, end_ok)

-- the digits of 0 go on to no other number
pub zero_begins : (least end : ℕ) → end < 2 ^ 64 → MayBegin 0 least end → (least ≡ 0) × (0 < end)
zero_begins least end small (n, low, high, (more, is)) =
    let zero : n ≡ 0 = only_zero n more (omega arith) is in
    (omega arith, omega arith)

pub zero_may_begin : (least end : ℕ) → least ≡ 0 → 0 < end → MayBegin 0 least end
zero_may_begin least end none some = (0, omega arith, some, ([], sym (append-nil (decimal 0))))

-- a number that is reached is not less
pub not_less : (m low high : ℕ) → Reaches m low high → low ≤ m
not_less m low high (Within l h least most) = least
not_less m low high (Longer l h reaches) = omega (arith, not_less m (low * 10) (high * 10) reaches)

pub at_least : (n m : ℕ) (more : List ℕ) → n < 2 ^ 64 → m < 2 ^ 64 → decimal m ≡ decimal n ++ more → n ≤ m
at_least n m more small low is = not_less m n (n + 1) (reaches n m more small low is)

-- where a number's text stands before another byte, its first byte is a digit
starts : (byte stop : ℕ) (more ds rest : List ℕ) → 0 < length ds → byte ∷ more ≡ ds ++ stop ∷ rest
    → (back : List ℕ) × (ds ≡ byte ∷ back)
starts byte stop more [] rest some is = absurd (omega arith)
starts byte stop more (d ∷ ds) rest some is = (ds, same_first is)
  where
    same_first : {a b : ℕ} {xs ys : List ℕ} → a ∷ xs ≡ b ∷ ys → b ∷ ds ≡ a ∷ ds
    same_first is = cc

pub first_digit_of : (m stop byte : ℕ) (more rest : List ℕ) → m < 2 ^ 64 → byte ∷ more ≡ decimal m ++ stop ∷ rest
    → IsDigit byte
first_digit_of m stop byte more rest small is =
    let found = starts byte stop more (decimal m) rest (decimal_nonempty m small) is in
    is_digit m [] byte found.0 small found.1

pub begins_by : (m stop d : ℕ) (more rest : List ℕ) → m < 2 ^ 64 → d < 10 → (48 + d) ∷ more ≡ decimal m ++ stop ∷ rest
    → (back : List ℕ) × (decimal m ≡ decimal d ++ back)
begins_by m stop d more rest small digit is =
    let found = starts (48 + d) stop more (decimal m) rest (decimal_nonempty m small) is in
    (found.0, found.1 ∙ ap (λ ds. ds ++ found.0) (sym (decimal_digit d digit)))

-- where the text of one number stands before a digit that another number's text has there, the other goes on by it
pub next_digit_of : (n m stop byte : ℕ) (more rest : List ℕ) → n < 2 ^ 64 → m < 2 ^ 64 → stop < 48 → byte ≢ stop
    → decimal n ++ byte ∷ more ≡ decimal m ++ stop ∷ rest → IsDigit byte × (0 < n)
next_digit_of n m stop byte more rest small low apart other is =
    let found = goes_on stop byte (decimal n) more (decimal m) rest (decimal_lacks stop n apart small) other is in
    goes_on_by_digit n m byte found.0 low found.1

pub goes_on_by : (n m stop d : ℕ) (more rest : List ℕ) → n < 2 ^ 36 → m < 2 ^ 64 → stop < 48 → 0 < n → d < 10
    → decimal n ++ (48 + d) ∷ more ≡ decimal m ++ stop ∷ rest
    → (back : List ℕ) × (decimal m ≡ decimal (n * 10 + d) ++ back)
goes_on_by n m stop d more rest small low apart some digit is =
    let lacks = decimal_lacks stop n apart (omega arith) in
    let found = goes_on stop (48 + d) (decimal n) more (decimal m) rest lacks (λ same. omega arith) is in
    let longer : decimal n ++ (48 + d) ∷ [] ≡ decimal (n * 10 + d) = sym (decimal_longer n d some digit (omega arith)) in
    (found.0, found.1 ∙ sym (append_assoc (decimal n) ((48 + d) ∷ []) found.0) ∙ ap (λ ds. ds ++ found.0) longer)
