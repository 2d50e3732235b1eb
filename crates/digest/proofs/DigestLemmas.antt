-- The text of a hash has digits in lower case alone.
use Rattle.std.proofs.Common.{◌≡◌, ℕ, zero, suc, ◌/◌, ◌%◌, ◌<◌, Bool, true, List, [], ◌∷◌, length, take, get_or, slice_index}
use Rattle.std.proofs.Common.{refl, arith}
use Rattle.std.specs.List.{list_all}
use Rattle.std.proofs.lemmas.Bool.{and_parts, and_from}
use Rattle.hex.specs.Hex.{encode_with, lower_digits, IsBytes}
use Rattle.digest.specs.Digest.{is_lower_digit}

list_all-at : (p : ℕ → Bool) (xs : List ℕ) (i : ℕ) → list_all p xs ≡ true → i < length xs → p (get_or xs i 0) ≡ true
list_all-at p [] i all within = absurd (omega arith)
list_all-at p (x ∷ xs) zero all within = (and_parts (p x) (list_all p xs) all).0
list_all-at p (x ∷ xs) (suc i) all within =
    list_all-at p xs i (and_parts (p x) (list_all p xs) all).1 (omega arith)

lower_at : (x : ℕ) → x < 16 → is_lower_digit (slice_index lower_digits x) ≡ true
lower_at x low = list_all-at is_lower_digit lower_digits x refl low

pub encode_lower_digits : (bytes : List ℕ) → IsBytes bytes → list_all is_lower_digit (encode_with lower_digits bytes) ≡ true
unfolding encode_with
encode_lower_digits [] bytes = refl
encode_lower_digits (b ∷ rest) bytes =
    let low : b < 256 = bytes 0 in
    and_from (is_lower_digit (slice_index lower_digits (b / 16))) _ (lower_at (b / 16) (omega arith))
    (and_from (is_lower_digit (slice_index lower_digits (b % 16))) _ (lower_at (b % 16) (omega arith))
    (encode_lower_digits rest (λ i. bytes (suc i))))

pub list_all-take : (p : ℕ → Bool) (n : ℕ) (xs : List ℕ) → list_all p xs ≡ true → list_all p (take n xs) ≡ true
list_all-take p zero xs all = refl
list_all-take p (suc n) [] all = refl
list_all-take p (suc n) (x ∷ xs) all =
    let parts = and_parts (p x) (list_all p xs) all in
    and_from (p x) (list_all p (take n xs)) parts.0 (list_all-take p n xs parts.1)
