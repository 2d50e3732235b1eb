-- A line that has begun: what a line of a run that fits has in its place.
use Rattle.std.proofs.Common.{◌≡◌, ◌≢◌, ℕ, zero, suc, ◌+◌, ◌-◌, ◌*◌, ◌^◌, ◌<◌, ◌≤◌, List, [], ◌∷◌, ◌++◌, decimal}
use Rattle.std.proofs.Common.{sym, ap, subst, ◌∙◌, arith, append_assoc}
use Rattle.std.proofs.lemmas.Fmt.{decimal_injective, decimal_digit}
use Rattle.image_maps.specs.Begun.{IsDigit, IsDigitOf, MayBegin}
use Rattle.image_maps.specs.Maps.{line, Fits, BeginsWithLine}
use Rattle.image_maps.specs.declared.span.BlockSpan.{BlockSpan}
use Rattle.image_maps.proofs.Cuts.{one_cut}
use Rattle.image_maps.proofs.DigitLemmas.{decimal_lacks, decimal_longer, only_zero, at_least}
use Rattle.image_maps.proofs.DigitLemmas.{first_digit_of, begins_by, next_digit_of, goes_on_by}

-- a line and what stands behind it, cut at its blank and its end
pub line_cut : (s : BlockSpan) (more : List ℕ) → line s ++ more ≡ decimal s.first ++ 32 ∷ (decimal s.count ++ 10 ∷ more)
line_cut s more =
    append_assoc (decimal s.first) (32 ∷ (decimal s.count ++ 10 ∷ [])) more
    ∙ ap (λ rest. decimal s.first ++ 32 ∷ rest) (append_assoc (decimal s.count) (10 ∷ []) more)

-- ---- nothing was read

pub first_is_digit : (least blocks byte : ℕ) (more : List ℕ) → blocks < 2 ^ 32
    → BeginsWithLine (byte ∷ more) least blocks
    → IsDigit byte
first_is_digit least blocks byte more small (s, fits, (rest, is)) =
    first_digit_of s.first 32 byte more _ (omega (arith, fits.most)) (is ∙ line_cut s rest)

pub first_begins : (least blocks byte d : ℕ) (more : List ℕ) → blocks < 2 ^ 32 → IsDigitOf byte d
    → BeginsWithLine (byte ∷ more) least blocks → MayBegin d least blocks
first_begins least blocks byte d more small digit (s, fits, (rest, is)) =
    let spelled : (48 + d) ∷ more ≡ byte ∷ more = ap (λ b. b ∷ more) (sym digit.1) in (
      s.first,
      fits.least_ok,
      omega (arith, fits.some, fits.most),
      begins_by s.first 32 d more _ (omega (arith, fits.most)) digit.0 (spelled ∙ is ∙ line_cut s rest),
    )

pub digit_text : (byte d : ℕ) → IsDigitOf byte d → decimal d ≡ byte ∷ []
digit_text byte d digit = decimal_digit d digit.0 ∙ ap (λ b. b ∷ []) (sym digit.1)

-- ---- digits of the first block were read

pub behind_first_blank : (least blocks n : ℕ) (more : List ℕ) → blocks < 2 ^ 32 → n < blocks
    → BeginsWithLine (decimal n ++ 32 ∷ more) least blocks → least ≤ n
behind_first_blank least blocks n more small low (s, fits, (rest, is)) =
    let lacks = decimal_lacks 32 n (omega arith) (omega arith) in
    let also = decimal_lacks 32 s.first (omega arith) (omega (arith, fits.most)) in
    let cut = one_cut 32 (decimal n) more (decimal s.first) _ lacks also (is ∙ line_cut s rest) in
    let same : n ≡ s.first = decimal_injective n s.first (omega arith) (omega (arith, fits.most)) cut.0 in
    omega (arith, fits.least_ok)

pub behind_first_digit : (least blocks n byte : ℕ) (more : List ℕ) → blocks < 2 ^ 32 → n < blocks → byte ≢ 32
    → BeginsWithLine (decimal n ++ byte ∷ more) least blocks → IsDigit byte × (0 < n)
behind_first_digit least blocks n byte more small low other (s, fits, (rest, is)) =
    next_digit_of n s.first 32 byte more _ (omega arith) (omega (arith, fits.most)) (omega arith) other
    (is ∙ line_cut s rest)

pub behind_first_begins : (least blocks n byte d : ℕ) (more : List ℕ) → blocks < 2 ^ 32 → n < blocks → 0 < n
    → IsDigitOf byte d → BeginsWithLine (decimal n ++ byte ∷ more) least blocks → MayBegin (n * 10 + d) least blocks
behind_first_begins least blocks n byte d more small low some digit (s, fits, (rest, is)) =
    let spelled : decimal n ++ (48 + d) ∷ more ≡ decimal n ++ byte ∷ more =
    ap (λ b. decimal n ++ b ∷ more) (sym digit.1) in (
      s.first,
      fits.least_ok,
      omega (arith, fits.some, fits.most),
      goes_on_by n s.first 32 d more _ (omega arith) (omega (arith, fits.most)) (omega arith) some digit.0
          (spelled ∙ is ∙ line_cut s rest),
    )

pub longer_text : (n byte d : ℕ) → n < 2 ^ 36 → 0 < n → IsDigitOf byte d → decimal (n * 10 + d) ≡ decimal n ++ byte ∷ []
longer_text n byte d small some digit =
    decimal_longer n d some digit.0 (omega arith) ∙ ap (λ b. decimal n ++ b ∷ []) (sym digit.1)

-- ---- the first block and its blank were read

-- the first block is that of the line, and behind the blank stands its count
pub record CountOf (least blocks first : ℕ) (more : List ℕ) : Type 0 where
  pub span : BlockSpan
  pub fits : Fits least blocks span
  pub same : span.first ≡ first
  pub rest : List ℕ
  pub is : more ≡ decimal span.count ++ 10 ∷ rest

pub count_of : (least blocks first : ℕ) (more : List ℕ) → blocks < 2 ^ 32 → first < blocks
    → BeginsWithLine (decimal first ++ 32 ∷ more) least blocks → CountOf least blocks first more
count_of least blocks first more small low (s, fits, (rest, is)) =
    let lacks = decimal_lacks 32 first (omega arith) (omega arith) in
    let also = decimal_lacks 32 s.first (omega arith) (omega (arith, fits.most)) in
    let cut = one_cut 32 (decimal first) more (decimal s.first) _ lacks also (is ∙ line_cut s rest) in
    record {
      span = s;
      fits = fits;
      same = sym (decimal_injective first s.first (omega arith) (omega (arith, fits.most)) cut.0);
      rest = rest;
      is = cut.1;
    }

pub count_is_digit : (least blocks first byte : ℕ) (more : List ℕ) → blocks < 2 ^ 32 → first < blocks
    → BeginsWithLine ((decimal first ++ 32 ∷ []) ++ byte ∷ more) least blocks → IsDigit byte
count_is_digit least blocks first byte more small low begins =
    let whole = append_assoc (decimal first) (32 ∷ []) (byte ∷ more) in
    let count = count_of least blocks first (byte ∷ more) small low
    (subst (λ text. BeginsWithLine text least blocks) whole begins) in
    first_digit_of count.span.count 10 byte more count.rest (omega (arith, count.fits.most)) count.is

pub count_begins : (least blocks first byte d : ℕ) (more : List ℕ) → blocks < 2 ^ 32 → first < blocks → IsDigitOf byte d
    → BeginsWithLine ((decimal first ++ 32 ∷ []) ++ byte ∷ more) least blocks → (1 ≤ d) × (d ≤ blocks - first)
count_begins least blocks first byte d more small low digit begins =
    let whole = append_assoc (decimal first) (32 ∷ []) (byte ∷ more) in
    let found = count_of least blocks first (byte ∷ more) small low
    (subst (λ text. BeginsWithLine text least blocks) whole begins) in
    let count = found.span.count in
    let spelled : (48 + d) ∷ more ≡ byte ∷ more = ap (λ b. b ∷ more) (sym digit.1) in
    let begun = begins_by count 10 d more found.rest (omega (arith, found.fits.most)) digit.0 (spelled ∙ found.is) in
    let less : d ≤ count = at_least d count begun.0 (omega arith) (omega (arith, found.fits.most)) begun.1 in
    (some d count begun.0 (omega (arith, found.fits.most)) found.fits.some begun.1, omega (arith, found.fits.most, found.same))
  where
    some : (d count : ℕ) (back : List ℕ) → count < 2 ^ 64 → 1 ≤ count → decimal count ≡ decimal d ++ back → 1 ≤ d
    some zero count back small filled is = absurd (omega (arith, only_zero count back small is))
    some (suc d) count back small filled is = omega arith

pub count_text : (first byte d : ℕ) → IsDigitOf byte d
    → decimal first ++ 32 ∷ decimal d ≡ (decimal first ++ 32 ∷ []) ++ byte ∷ []
count_text first byte d digit =
    ap (λ ds. decimal first ++ 32 ∷ ds) (digit_text byte d digit)
    ∙ sym (append_assoc (decimal first) (32 ∷ []) (byte ∷ []))

-- ---- digits of the count were read

pub behind_count_digit : (least blocks first count byte : ℕ) (more : List ℕ) → blocks < 2 ^ 32 → first + count ≤ blocks
    → 1 ≤ count → byte ≢ 10 → BeginsWithLine ((decimal first ++ 32 ∷ decimal count) ++ byte ∷ more) least blocks
    → IsDigit byte
behind_count_digit least blocks first count byte more small most some other begins =
    let whole = append_assoc (decimal first) (32 ∷ decimal count) (byte ∷ more) in
    let found = count_of least blocks first (decimal count ++ byte ∷ more) small (omega arith)
    (subst (λ text. BeginsWithLine text least blocks) whole begins) in
    (next_digit_of count found.span.count 10 byte more found.rest (omega arith) (omega (arith, found.fits.most)) (omega arith)
    other found.is).0

pub behind_count_begins : (least blocks first count byte d : ℕ) (more : List ℕ) → blocks < 2 ^ 32
    → first + count ≤ blocks
    → 1 ≤ count → IsDigitOf byte d → BeginsWithLine ((decimal first ++ 32 ∷ decimal count) ++ byte ∷ more) least blocks
    → count * 10 + d ≤ blocks - first
behind_count_begins least blocks first count byte d more small most some digit begins =
    let whole = append_assoc (decimal first) (32 ∷ decimal count) (byte ∷ more) in
    let found = count_of least blocks first (decimal count ++ byte ∷ more) small (omega arith)
    (subst (λ text. BeginsWithLine text least blocks) whole begins) in
    let spelled : decimal count ++ (48 + d) ∷ more ≡ decimal count ++ byte ∷ more =
    ap (λ b. decimal count ++ b ∷ more) (sym digit.1) in
    let longer = goes_on_by count found.span.count 10 d more found.rest (omega arith) (omega (arith, found.fits.most))
    (omega arith) (omega arith) digit.0 (spelled ∙ found.is) in
    let less : count * 10 + d ≤ found.span.count =
    at_least (count * 10 + d) found.span.count longer.0 (omega arith) (omega (arith, found.fits.most)) longer.1 in
    omega (arith, found.fits.most, found.same)

pub longer_count_text : (first count byte d : ℕ) → count < 2 ^ 36 → 1 ≤ count → IsDigitOf byte d
    → decimal first ++ 32 ∷ decimal (count * 10 + d) ≡ (decimal first ++ 32 ∷ decimal count) ++ byte ∷ []
longer_count_text first count byte d small some digit =
    ap (λ ds. decimal first ++ 32 ∷ ds) (longer_text count byte d small (omega arith) digit)
    ∙ sym (append_assoc (decimal first) (32 ∷ decimal count) (byte ∷ []))
