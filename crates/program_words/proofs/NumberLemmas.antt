-- What is read as a number, and what lies within limits.
use Rattle.std.proofs.Common.{◌≡◌, ◌≢◌, ◌&&◌, ◌==◌, ◌%◌, ◌^◌, ◌<◌, ◌≤◌, ℕ, Bool, true, false, cond, nat_le, nat_lt, Option, Some, None}
use Rattle.std.proofs.Common.{refl, sym, ap, subst, ◌∙◌, arith, decimal}
use Rattle.std.specs.Prelude.{MatchOption}
use Rattle.std.specs.Str.{bytes_eq}
use Rattle.std.specs.Str.Parse.{digits_value}
use Rattle.std.proofs.lemmas.Bool.Decides.{nat_tests}
use Rattle.std.proofs.lemmas.Fmt.{decimal_is_IsNumeral}
use Rattle.std.proofs.lemmas.Slice.Eq.{bytes_eq-Decides}
use Rattle.clap.specs.Words.{Text}
use Rattle.clap.proofs.WalkLemmas.{both}
use Rattle.vol_units.specs.Size.{IsVolumeSize}
use Rattle.program_words.specs.Numbers.{is_size, number_of, size_of, within}

-- a value that is kept where a test holds
pub kept_where : {A : Type 0} (b : Bool) (x y : A) → cond b (Some x) None ≡ Some y → (b ≡ true) × (x ≡ y)
kept_where true x y is = (refl, cc)
kept_where false x y is = cc

-- a decimal text is read as its number
pub number_of-decimal : (text : Text) (n : ℕ) → n < 2 ^ 64 → text ≡ decimal n → number_of text ≡ Some n
number_of-decimal text n small is =
    let value : digits_value 10 text ≡ n = ap (digits_value 10) is ∙ (decimal_is_IsNumeral n small).1 in
    let low : nat_lt (digits_value 10 text) (2 ^ 64) ≡ true = rw value (grind (arith, nat_tests)) in
    let same : bytes_eq text (decimal (digits_value 10 text)) ≡ true =
    (bytes_eq-Decides text (decimal (digits_value 10 text))).1 (is ∙ ap decimal (sym value)) in
    rw (low, same) (ap Some value)

-- what is read as a number is its decimal text
pub decimal-number_of : (text : Text) (n : ℕ) → number_of text ≡ Some n → (n < 2 ^ 64) × (text ≡ decimal n)
decimal-number_of text n is =
    let value = digits_value 10 text in
    let kept = kept_where (nat_lt value (2 ^ 64) && bytes_eq text (decimal value)) value n is in
    let parts = both (nat_lt value (2 ^ 64)) (bytes_eq text (decimal value)) kept.0 in
    (grind (arith, nat_tests), (bytes_eq-Decides text (decimal value)).0 parts.1 ∙ ap decimal kept.1)

-- a text that is that of no number is read as none
pub number_of-none : (text : Text) → ((n : ℕ) → n < 2 ^ 64 → text ≡ decimal n → ⊥) → number_of text ≡ None
number_of-none text none = go (number_of text) (λ n is. let read = decimal-number_of text n is in none n read.0 read.1)
  where
    go : (o : Option ℕ) → ((n : ℕ) → o ≡ Some n → ⊥) → o ≡ None
    go None never = refl
    go (Some n) never = absurd (never n refl)

-- so is whatever a reader of decimal texts gives
pub number_read : (text : Text) (o : Option ℕ) → ((n : ℕ) → o ≡ Some n → n < 2 ^ 64)
    → MatchOption o ((n : ℕ) → n < 2 ^ 64 → text ≢ decimal n) (λ n. text ≡ decimal n) → o ≡ number_of text
number_read text None small read = sym (number_of-none text read)
number_read text (Some n) small read = sym (number_of-decimal text n (small n refl) read)

-- a number that is within limits
pub is_within : (least most n k : ℕ) → within least most n ≡ Some k → (least ≤ k) × (k ≤ most)
is_within least most n k is =
    let kept = kept_where (nat_le least n && nat_le n most) n k is in
    let parts = both (nat_le least n) (nat_le n most) kept.0 in
    (grind (arith, nat_tests), grind (arith, nat_tests))

-- the test for a size tells that it is one
pub size_by_test : (n : ℕ) → is_size n ≡ true → IsVolumeSize n
size_by_test n is =
    let first = both (n % 2097152 == 0) (nat_le 2097152 n && nat_le n 1073741824) is in
    let second = both (nat_le 2097152 n) (nat_le n 1073741824) first.1 in
    record { whole = grind (arith, nat_tests); least = grind (arith, nat_tests); most = grind (arith, nat_tests) }

-- a number that is a size
pub is_of_size : (n k : ℕ) → size_of n ≡ Some k → IsVolumeSize k
is_of_size n k is = let kept = kept_where (is_size n) n k is in subst IsVolumeSize kept.1 (size_by_test n kept.0)
