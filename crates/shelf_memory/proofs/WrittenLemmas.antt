-- Bytes that are put over a file.
use Rattle.std.proofs.Common.{◌≡◌, ℕ, ◌+◌, ◌-◌, ◌≤◌, List, [], ◌∷◌, ◌++◌, length, take, drop, replicate, Some, zero, suc}
use Rattle.std.proofs.Common.{refl, sym, ap, ◌∙◌, arith, append-nil, length-append, length-drop}
use Rattle.std.proofs.Math.Seq.{take-append_seam}
use Rattle.std.proofs.lemmas.List.{take-replicate, drop-replicate, length-replicate, length-take}
use Rattle.shelf_traits.specs.Files.{stretched, written}

take-any : (n : ℕ) (xs ys : List ℕ) → take n (xs ++ ys) ≡ take n xs ++ take (n - length xs) ys
take-any zero [] ys = refl
take-any (suc n) [] ys = ap (λ k. take k ys) (all n)
  where
    all : (n : ℕ) → suc n ≡ suc n - 0
    all n = omega arith
take-any zero (x ∷ xs) ys = ap (λ k. take k ys) (none xs)
  where
    none : (xs : List ℕ) → 0 ≡ 0 - length (x ∷ xs)
    none xs = omega arith
take-any (suc n) (x ∷ xs) ys = ap (λ rest. x ∷ rest) (take-any n xs ys ∙ ap (λ k. take n xs ++ take k ys) (one n xs))
  where
    one : (n : ℕ) (xs : List ℕ) → n - length xs ≡ suc n - length (x ∷ xs)
    one n xs = omega arith

drop-any : (n : ℕ) (xs ys : List ℕ) → drop n (xs ++ ys) ≡ drop n xs ++ drop (n - length xs) ys
drop-any zero [] ys = refl
drop-any (suc n) [] ys = ap (λ k. drop k ys) (all n)
  where
    all : (n : ℕ) → suc n ≡ suc n - 0
    all n = omega arith
drop-any zero (x ∷ xs) ys = ap (λ k. x ∷ (xs ++ drop k ys)) (none xs)
  where
    none : (xs : List ℕ) → 0 ≡ 0 - length (x ∷ xs)
    none xs = omega arith
drop-any (suc n) (x ∷ xs) ys = drop-any n xs ys ∙ ap (λ k. drop n xs ++ drop k ys) (one n xs)
  where
    one : (n : ℕ) (xs : List ℕ) → n - length xs ≡ suc n - length (x ∷ xs)
    one n xs = omega arith

-- what stands before a place, once there are zeros behind
front : (old : List ℕ) (at len : ℕ) → at ≤ len
    → take at (stretched old len) ≡ take at old ++ replicate (at - length old) 0
front old at len less =
    take-any at old (replicate (len - length old) 0)
    ∙ ap (λ zeros. take at old ++ zeros) (take-replicate (at - length old) (len - length old) 0 (omega arith))

-- what stands behind the last byte of the longer file
back : (old : List ℕ) (len : ℕ) → drop len (stretched old len) ≡ drop len old
back old len =
    drop-any len old (replicate (len - length old) 0)
    ∙ ap (λ zeros. drop len old ++ zeros) (drop-replicate (len - length old) (len - length old) 0)
    ∙ ap (λ k. drop len old ++ replicate k 0) (none (len - length old)) ∙ append-nil (drop len old)
  where
    none : (k : ℕ) → k - k ≡ 0
    none k = omega arith

-- bytes over a file that was made long enough are what is written
pub put_over : (old bytes : List ℕ) (at : ℕ)
    → take at (stretched old (at + length bytes)) ++ bytes ++ drop (at + length bytes) (stretched old (at + length bytes))
    ≡ written (Some old) at bytes
put_over old bytes at =
    let len = at + length bytes in
    ap (λ before. before ++ bytes ++ drop len (stretched old len))
    (front old at len (omega arith) ∙ sym (front old at at (omega arith)))
    ∙ ap (λ behind. take at (stretched old at) ++ bytes ++ behind) (back old len)

is_long : (old : List ℕ) (len : ℕ) → len ≤ length (stretched old len)
is_long old len =
    omega (arith, length-append old (replicate (len - length old) 0), length-replicate {A = ℕ} (len - length old) 0)

-- a vector whose slice was written over
pub write_back : (len at : ℕ) (old items slice new bytes : List ℕ) → len ≡ length items → slice ≡ items
    → items ≡ stretched old (at + length bytes) → new ≡ take at slice ++ bytes ++ drop (at + length bytes) slice
    → take len (new ++ drop (length new) items) ≡ written (Some old) at bytes
write_back len at old items slice new bytes all same long is =
    let end = at + length bytes in
    let room : end ≤ length items = omega (arith, is_long old end, ap length long) in
    let slice_length : length slice ≡ length items = ap length same in
    let size : length new ≡ len = omega (
      arith,
      ap length is,
      length-append (take at slice ++ bytes) (drop end slice),
      length-append (take at slice) bytes,
      length-take at slice,
      length-drop end slice,
    ) in
    ap (λ k. take k (new ++ drop (length new) items)) (sym size) ∙ take-append_seam new (drop (length new) items) ∙ is
    ∙ ap (λ held. take at held ++ bytes ++ drop end held) (same ∙ long) ∙ put_over old bytes at
