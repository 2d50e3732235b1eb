-- The digest of bytes: the first half of their SHA-512 (FIPS 180-4) as hexadecimal digits, as backupstore takes it.
use Rattle.std.specs.Prelude.{◌≡◌, ℕ, Bool, true, ◌||◌, List, length, take}
use Rattle.std.specs.Char.{is_ascii_digit}
use Rattle.std.specs.Int.{is_in_range}
use Rattle.std.specs.List.{list_all}
use Rattle.sha2.specs.Sha512.{sha512}
use Rattle.hex.specs.Hex.{encode_lower}

-- how many digits a digest has
abbrev pub digest_digits : ℕ
digest_digits = 64

unfoldable pub digest_text : List ℕ → List ℕ
digest_text bytes = take digest_digits (encode_lower (sha512 bytes))

-- 0 to 9, or a to f
abbrev pub is_lower_digit : ℕ → Bool
is_lower_digit c = is_ascii_digit c || is_in_range 97 102 c

-- a text that looks as a digest does: 64 hexadecimal digits in lower case
pub record IsDigest (text : List ℕ) : Type 0 where
  pub size : length text ≡ digest_digits
  pub digits : list_all is_lower_digit text ≡ true
