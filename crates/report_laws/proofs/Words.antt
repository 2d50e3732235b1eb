-- A text of words, each with a byte behind it that is in no word, tells its first word and what is behind it.
use Rattle.std.proofs.Common.{◌≡◌, ℕ, suc, zero, ◌+◌, ◌*◌, ◌/◌, ◌%◌, ◌<◌, ◌≤◌, Bool, true, false, cond, eqb, ℤ, pos, negsuc}
use Rattle.std.proofs.Common.{List, [], ◌∷◌, ◌++◌, get_or, map, refl, arith}
use Rattle.std.specs.List.{AllByRecursion, list_all, join_with_byte}
use Rattle.std.specs.Fmt.{decimal, signed_decimal, digits, digits_onto, digit_glyph}
use Rattle.std.proofs.lemmas.Bool.{and_parts}
use Rattle.std.proofs.lemmas.Bool.Decides.{nat_tests}
use Rattle.image_runs.specs.Runs.{ByteRun, runs, run_text, runs_text}
use Rattle.vol_units.specs.Name.{is_name_byte, IsName}

-- bytes above the space
abbrev pub IsWord : List ℕ → Type 0
IsWord word = AllByRecursion (λ b. 32 < b) word

-- the space and the line feed are in no word
pub space : 32 ≤ 32
space = omega arith

pub line_end : 10 ≤ 32
line_end = omega arith

-- two texts have one first word, with the same byte behind it, and the same behind that
pub record IsCut (u v : List ℕ) (s t : ℕ) (xs ys : List ℕ) : Type 0 where
  pub word : u ≡ v
  pub stop : s ≡ t
  pub rest : xs ≡ ys

pub cut : (u v : List ℕ) (s t : ℕ) (xs ys : List ℕ) → IsWord u → IsWord v → s ≤ 32 → t ≤ 32
    → u ++ s ∷ xs ≡ v ++ t ∷ ys → IsCut u v s t xs ys
cut [] [] s t xs ys a b p q e = record { word = refl; stop = cc; rest = cc }
cut [] (d ∷ ds) s t xs ys a b p q e = let same : s ≡ d = cc in absurd (omega (arith, b.0))
cut (c ∷ cs) [] s t xs ys a b p q e = let same : c ≡ t = cc in absurd (omega (arith, a.0))
cut (c ∷ cs) (d ∷ ds) s t xs ys a b p q e =
    let same : c ≡ d = cc in
    let more : cs ++ s ∷ xs ≡ ds ++ t ∷ ys = cc in
    let behind = cut cs ds s t xs ys a.1 b.1 p q more in
    let tail : cs ≡ ds = behind.word in
    record { word = cc; stop = behind.stop; rest = behind.rest }

pub IsWord-append : (u v : List ℕ) → IsWord u → IsWord v → IsWord (u ++ v)
IsWord-append [] v a b = b
IsWord-append (c ∷ cs) v a b = (a.0, IsWord-append cs v a.1 b)

-- what holds of the ten digits holds of each byte of a decimal text
module _ (P : ℕ → Type 0) (ten : (d : ℕ) → d < 10 → P (digit_glyph false d)) where
  each_onto : (k n : ℕ) (acc : List ℕ) → AllByRecursion P acc → AllByRecursion P (digits_onto k 10 false n acc)
  each_onto zero n acc ok = ok
  each_onto (suc k) n acc ok = by_test (eqb (n / 10) 0) (each_onto k (n / 10) (digit_glyph false (n % 10) ∷ acc) more)
    where
      more : AllByRecursion P (digit_glyph false (n % 10) ∷ acc)
      more = (ten (n % 10) (omega arith), ok)

      by_test : (t : Bool) → AllByRecursion P (digits_onto k 10 false (n / 10) (digit_glyph false (n % 10) ∷ acc))
          → AllByRecursion P (cond t (digit_glyph false (n % 10) ∷ acc)
          (digits_onto k 10 false (n / 10) (digit_glyph false (n % 10) ∷ acc)))
      by_test true longer = more
      by_test false longer = longer

  each_digit : (n : ℕ) → AllByRecursion P (decimal n)
  unfolding digits
  each_digit n = each_onto 64 n [] tt

-- hexadecimal digits are above the space
glyph_word : (d : ℕ) → 32 < digit_glyph false d
glyph_word d = grind (arith, nat_tests)

-- and decimal digits are below the letters
glyph_low : (d : ℕ) → d < 10 → digit_glyph false d < 97
glyph_low d small = grind (arith, nat_tests)

pub IsWord-decimal : (n : ℕ) → IsWord (decimal n)
IsWord-decimal n = each_digit (λ b. 32 < b) (λ d small. glyph_word d) n

pub decimal_low : (n : ℕ) → AllByRecursion (λ b. b < 97) (decimal n)
decimal_low n = each_digit (λ b. b < 97) glyph_low n

pub IsWord-signed : (z : ℤ) → IsWord (signed_decimal z)
IsWord-signed (pos n) = IsWord-decimal n
IsWord-signed (negsuc n) = (omega arith, IsWord-decimal (suc n))

name_byte_word : (b : ℕ) → is_name_byte b ≡ true → 32 < b
name_byte_word b h = grind (arith, nat_tests)

name_bytes_word : (bs : List ℕ) → list_all is_name_byte bs ≡ true → IsWord bs
name_bytes_word [] h = tt
name_bytes_word (b ∷ bs) h =
    let parts = and_parts (is_name_byte b) (list_all is_name_byte bs) h in
    (name_byte_word b parts.0, name_bytes_word bs parts.1)

pub IsWord-name : (name : List ℕ) → IsName name → IsWord name
IsWord-name name is = name_bytes_word name is.bytes

run_word : (r : ByteRun) → IsWord (run_text r)
run_word r = (glyph_word (r.byte / 16), (glyph_word (r.byte % 16), (omega arith, IsWord-decimal r.count)))

joined_word : (rs : List ByteRun) → IsWord (join_with_byte 44 (map run_text rs))
joined_word [] = tt
joined_word (r ∷ []) = run_word r
joined_word (r ∷ q ∷ qs) =
    IsWord-append (run_text r) (44 ∷ join_with_byte 44 (map run_text (q ∷ qs))) (run_word r) (omega arith, joined_word (q ∷ qs))

pub IsWord-runs : (bytes : List ℕ) → IsWord (runs_text bytes)
IsWord-runs [] = (omega arith, tt)
IsWord-runs (b ∷ bs) = joined_word (runs (b ∷ bs))

-- the first three bytes as one number
abbrev pub three : List ℕ → ℕ
three text = get_or text 0 0 + 256 * get_or text 1 0 + 65536 * get_or text 2 0
