-- Lemmas on specs/Name.antt.
use Rattle.std.proofs.Common.{◌≡◌, ℕ, ◌+◌, ◌/◌, ◌%◌, ◌^◌, ◌<◌, ◌≤◌, true, List, [], ◌∷◌, ◌++◌, length, get_or, codes}
use Rattle.std.proofs.Common.{inl, inr, ⊎_elim, refl, sym, ap, subst, ◌∙◌, arith, rules, length-append}
use Rattle.std.specs.Char.{is_ascii_digit}
use Rattle.std.specs.Fmt.{decimal}
use Rattle.std.specs.List.{list_all}
use Rattle.std.specs.Str.{IsAscii, IsUtf8}
use Rattle.std.specs.Str.Parse.{digits_value}
use Rattle.std.proofs.lemmas.Bool.{and_parts, and_from, cases_eq}
use Rattle.std.proofs.lemmas.List.Folds.{list_all-append}
use Rattle.std.proofs.lemmas.Bool.Decides.{nat_tests}
use Rattle.std.proofs.lemmas.Fmt.{decimal-digits_value, digits_decimal, length-decimal-le, decimal_nonempty}
use Rattle.std.proofs.lemmas.Fmt.{first_decimal, decimal_digit, decimal_step}
use Rattle.std.proofs.lemmas.Str.{IsUtf8-from_ascii}
use Rattle.std.proofs.lemmas.Str.Ascii.{IsAscii-nil, IsAscii-cons}
use Rattle.std.proofs.lemmas.Str.Parse.{IsNumeralModel, numerals_by_value, digits_value_short}
use Rattle.vol_units.specs.Name.{is_name_byte, IsName, IsNumber, IsSysName, IsOwnName, IsNameOfLayer, sys_name}

-- a byte of a name is ASCII
name_byte_lt : (c : ℕ) → is_name_byte c ≡ true → c < 128
name_byte_lt c h = grind (arith, nat_tests)

-- bytes of names are ASCII
IsAscii-name_bytes : (bs : List ℕ) → list_all is_name_byte bs ≡ true → IsAscii bs
IsAscii-name_bytes [] h = IsAscii-nil
IsAscii-name_bytes (c ∷ cs) h =
    let parts = and_parts (is_name_byte c) (list_all is_name_byte cs) h in
    IsAscii-cons c cs (name_byte_lt c parts.0) (IsAscii-name_bytes cs parts.1)

-- a name is a text
pub IsUtf8-name : (name : List ℕ) → IsName name → IsUtf8 name
IsUtf8-name name n = IsUtf8-from_ascii name (IsAscii-name_bytes name n.bytes)

-- one to ten digits, of which the first is no zero but where it is all
pub record IsPlainNumeral (text : List ℕ) : Type 0 where
  pub some : 0 < length text
  pub most : length text ≤ 10
  pub lead : get_or text 0 0 ≡ 48 → length text ≡ 1
  pub digits : list_all is_ascii_digit text ≡ true

-- the test for digits is that of `parse`
numerals : IsNumeralModel (λ ds. list_all is_ascii_digit ds ≡ true) (digits_value 10)
numerals = numerals_by_value (λ ds. list_all is_ascii_digit ds ≡ true) (search rules)

-- such digits are the decimal text of their value
pub IsNumber-from_digits : (text : List ℕ) → IsPlainNumeral text → IsNumber text
IsNumber-from_digits text p =
    let low : digits_value 10 text < 10 ^ 10 = digits_value_short numerals text 10 p.digits p.most in
    (digits_value 10 text, low, sym (decimal-digits_value numerals text p.digits p.some p.lead (omega arith)))

-- the decimal text of a number of at most ten digits is such digits
IsPlainNumeral-decimal : (number : ℕ) → number < 10 ^ 10 → IsPlainNumeral (decimal number)
IsPlainNumeral-decimal number low = record {
  some = decimal_nonempty number (omega arith);
  most = length-decimal-le 10 number (omega arith) low (omega arith);
  lead = λ zero_first.
      ⊎_elim
      (λ none. ap (λ n. length (decimal n)) none ∙ ap length (decimal_digit 0 (omega arith)))
      (λ some. let first = first_decimal number (omega arith) (omega arith) in absurd (omega arith))
      (cases_eq number 0);
  digits = digits_decimal numerals number (omega arith);
}

pub IsPlainNumeral-from_number : (text : List ℕ) → IsNumber text → IsPlainNumeral text
IsPlainNumeral-from_number text n = subst IsPlainNumeral (sym n.2) (IsPlainNumeral-decimal n.0 n.1)

-- digits are bytes of names
name_byte-digit : (c : ℕ) → is_ascii_digit c ≡ true → is_name_byte c ≡ true
name_byte-digit c h = grind (arith, nat_tests)

name_bytes-digits : (cs : List ℕ) → list_all is_ascii_digit cs ≡ true → list_all is_name_byte cs ≡ true
name_bytes-digits [] h = refl
name_bytes-digits (c ∷ cs) h =
    let parts = and_parts (is_ascii_digit c) (list_all is_ascii_digit cs) h in
    and_from (is_name_byte c) (list_all is_name_byte cs) (name_byte-digit c parts.0) (name_bytes-digits cs parts.1)

-- the zero alone is a number
pub IsNumber-zero : (text : List ℕ) → get_or text 0 0 ≡ 48 → length text ≡ 1 → IsNumber text
IsNumber-zero [] zero one = absurd (omega arith)
IsNumber-zero (c ∷ []) zero one = (0, omega arith, ap (λ d. d ∷ []) zero ∙ sym (decimal_digit 0 (omega arith)))
IsNumber-zero (c ∷ d ∷ more) zero one = absurd (omega arith)

-- the engine's own names are names
IsName-of_number : (number : ℕ) → number < 2 ^ 64 → IsName (sys_name number)
IsName-of_number number low =
    let few : length (decimal number) ≤ 20 = length-decimal-le 20 number (omega arith) (omega arith) low in
    record {
      some = omega arith;
      most = omega (arith, few);
      bytes = list_all-append is_name_byte (codes "sys-") (decimal number)
          ∙ name_bytes-digits (decimal number) (digits_decimal numerals number low);
    }

pub IsName-own : (name : List ℕ) → IsOwnName name → IsName name
IsName-own name s = subst IsName (sym s.2) (IsName-of_number s.0 s.1)

-- one of at most ten digits is one of them
pub IsOwnName-sys : (name : List ℕ) → IsSysName name → IsOwnName name
IsOwnName-sys name s = (s.0, omega (arith, s.1), s.2)

-- and so are those of all layers
pub IsName-layer : (name : List ℕ) → IsNameOfLayer name → IsName name
IsName-layer name (inl user) = user.spelled
IsName-layer name (inr own) = IsName-own name own

-- a decimal text grows by its last digit
pub decimal_more : (number : ℕ) → 10 ≤ number → number < 2 ^ 64 → decimal number ≡ decimal (number / 10) ++ ((48 + number % 10) ∷ [])
decimal_more number more low = decimal_step number more (omega arith)

pub length-decimal_more : (number : ℕ) → 10 ≤ number → number < 2 ^ 64 → length (decimal number) ≡ length (decimal (number / 10)) + 1
length-decimal_more number more low =
    ap length (decimal_more number more low) ∙ length-append (decimal (number / 10)) ((48 + number % 10) ∷ [])

pub length-decimal_u64 : (number : ℕ) → number < 2 ^ 64 → length (decimal number) ≤ 20
length-decimal_u64 number low = length-decimal-le 20 number (omega arith) (omega (arith, low)) low

pub ruleset decimals = (decimal_digit, decimal_more, length-decimal_more, length-decimal_u64)
