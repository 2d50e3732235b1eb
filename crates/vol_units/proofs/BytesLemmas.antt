-- Lemmas on specs/Bytes.antt.
use Rattle.std.proofs.Common.{◌≡◌, ℕ, ◌+◌, ◌-◌, ◌≤◌, List, ◌++◌, length, take, drop, sym, ap, ◌∙◌, arith}
use Rattle.std.proofs.Common.{append_assoc, length-append, length-drop}
use Rattle.std.proofs.lemmas.List.{length-replicate, length-take-le, drop-drop, drop-take, take-append-drop, take-take}
use Rattle.std.proofs.Math.Seq.{take-append_seam, drop-append-add}
use Rattle.vol_units.specs.Bytes.{zeros, bytes_at, with_bytes_at}

pub length-zeros : (n : ℕ) → length (zeros n) ≡ n
unfolding zeros
length-zeros n = length-replicate n 0

-- a write within the disk keeps its size
pub length-with_bytes_at : (disk : List ℕ) (at : ℕ) (bytes : List ℕ) → at + length bytes ≤ length disk
    → length (with_bytes_at disk at bytes) ≡ length disk
length-with_bytes_at disk at bytes inside =
    let front : length (take at disk) ≡ at = length-take-le at disk (omega arith) in
    let rest = drop (at + length bytes) disk in
    omega (
      arith,
      front,
      length-append (take at disk ++ bytes) rest,
      length-append (take at disk) bytes,
      length-drop (at + length bytes) disk,
    )

-- what was written, and behind it the same bytes as before
with_bytes_at-front : (disk : List ℕ) (at : ℕ) (bytes : List ℕ) → at + length bytes ≤ length disk
    → take (at + length bytes) (with_bytes_at disk at bytes) ≡ take at disk ++ bytes
with_bytes_at-front disk at bytes inside =
    let front : length (take at disk) ≡ at = length-take-le at disk (omega arith) in
    let long : length (take at disk ++ bytes) ≡ at + length bytes = omega (arith, front, length-append (take at disk) bytes) in
    ap (λ n. take n (with_bytes_at disk at bytes)) (sym long)
    ∙ take-append_seam (take at disk ++ bytes) (drop (at + length bytes) disk)

with_bytes_at-rest : (disk : List ℕ) (at : ℕ) (bytes : List ℕ) (more : ℕ) → at + length bytes ≤ length disk
    → drop (at + length bytes + more) (with_bytes_at disk at bytes) ≡ drop (at + length bytes + more) disk
with_bytes_at-rest disk at bytes more inside =
    let end = at + length bytes in
    let front : length (take at disk) ≡ at = length-take-le at disk (omega arith) in
    let long : length (take at disk ++ bytes) ≡ end = omega (arith, front, length-append (take at disk) bytes) in
    ap (λ n. drop (n + more) (with_bytes_at disk at bytes)) (sym long)
    ∙ drop-append-add (take at disk ++ bytes) (drop end disk) more
    ∙ drop-drop more end disk

-- bytes written right behind others are one write
pub with_bytes_at-append : (disk : List ℕ) (at : ℕ) (bytes more : List ℕ) (place : ℕ) → at + length bytes ≤ length disk
    → place ≡ at + length bytes → with_bytes_at (with_bytes_at disk at bytes) place more ≡ with_bytes_at disk at
    (bytes ++ more)
with_bytes_at-append disk at bytes more place inside here =
    let mid = with_bytes_at disk at bytes in
    let end = at + length bytes in
    let long : end + length more ≡ at + length (bytes ++ more) = omega (arith, length-append bytes more) in
    ap (λ n. with_bytes_at mid n more) here
    ∙ ap (λ l. l ++ more ++ drop (end + length more) mid) (with_bytes_at-front disk at bytes inside)
    ∙ ap (λ r. (take at disk ++ bytes) ++ more ++ r) (with_bytes_at-rest disk at bytes (length more) inside)
    ∙ ap (λ n. ((take at disk ++ bytes) ++ more) ++ drop n disk) long
    ∙ ap (λ l. l ++ drop (at + length (bytes ++ more)) disk) (append_assoc (take at disk) bytes more)

-- a list up to a place, and what stands from there up to the next
pub take-slice : (xs : List ℕ) (i k : ℕ) → take i xs ++ take k (drop i xs) ≡ take (i + k) xs
take-slice xs i k =
    ap (λ l. l ++ take k (drop i xs)) (sym (take-take i (i + k) xs (omega arith)))
    ∙ ap (λ r. take i (take (i + k) xs) ++ r) (sym (drop-take i k xs))
    ∙ take-append-drop i (take (i + k) xs)

-- a part of a part
pub take-within : (xs : List ℕ) (place start count size : ℕ) → start + count ≤ size
    → take count (drop start (take size (drop place xs))) ≡ take count (drop (place + start) xs)
take-within xs place start count size room =
    let parts : start + (size - start) ≡ size = omega arith in
    ap (λ n. take count (drop start (take n (drop place xs)))) (sym parts)
    ∙ ap (take count) (drop-take start (size - start) (drop place xs))
    ∙ take-take count (size - start) (drop start (drop place xs)) (omega arith)
    ∙ ap (take count) (drop-drop start place xs)

-- the bytes up to a place, and those from there on
pub bytes_at-append : (disk : List ℕ) (at n more place : ℕ) → place ≡ at + n
    → bytes_at disk at n ++ bytes_at disk place more ≡ bytes_at disk at (n + more)
bytes_at-append disk at n more place here =
    let first : at + n - at ≡ n = omega arith in
    let second : place + more - place ≡ more = omega arith in
    let both : n + more ≡ at + (n + more) - at = omega arith in
    ap (λ k. take k (drop at disk) ++ bytes_at disk place more) first
    ∙ ap (λ k. take n (drop at disk) ++ take k (drop place disk)) second
    ∙ ap (λ p. take n (drop at disk) ++ take more (drop p disk)) here
    ∙ ap (λ l. take n (drop at disk) ++ take more l) (sym (drop-drop n at disk))
    ∙ take-slice (drop at disk) n more
    ∙ ap (λ k. take k (drop at disk)) both
