-- Two disks that are the same from one place to another, and what is read and written of them.
use Rattle.std.proofs.Common.{◌≡◌, ◌⊎◌, ℕ, ◌+◌, ◌-◌, ◌<◌, ◌≤◌, List, ◌++◌, length, get_or, take, drop, sym, ap, ◌∙◌, arith, ⊎_elim}
use Rattle.std.proofs.lemmas.Bool.{cases_lt}
use Rattle.std.proofs.lemmas.List.{length-append, length-drop, length-take-le, ext_get_or}
use Rattle.std.proofs.lemmas.List.{get_or_append_left, get_or-append_right, get_or-take, get_or-drop}
use Rattle.volume_model.specs.Disk.{bytes_at, with_bytes_at}

-- they have the same bytes from `low` up to `high`
abbrev pub Agree : ℕ → ℕ → List ℕ → List ℕ → Type 0
Agree low high disk other = (i : ℕ) → low ≤ i → i < high → get_or disk i 0 ≡ get_or other i 0

-- ---- a byte of a disk that was written

-- one before those that were written
before_write : (disk bytes : List ℕ) (at i : ℕ) → at + length bytes ≤ length disk → i < at
    → get_or (with_bytes_at disk at bytes) i 0 ≡ get_or disk i 0
before_write disk bytes at i fits low =
    let front : length (take at disk) ≡ at = length-take-le at disk (omega arith) in
    let long : length (take at disk ++ bytes) ≡ at + length bytes = omega (arith, front, length-append (take at disk) bytes) in
    get_or_append_left (take at disk ++ bytes) (drop (at + length bytes) disk) 0 i (omega (arith, long, low))
    ∙ get_or_append_left (take at disk) bytes 0 i (omega (arith, front, low))
    ∙ get_or-take at disk i 0 low

-- one that was written
within_write : (disk bytes : List ℕ) (at i : ℕ) → at + length bytes ≤ length disk → at ≤ i → i < at + length bytes
    → get_or (with_bytes_at disk at bytes) i 0 ≡ get_or bytes (i - at) 0
within_write disk bytes at i fits from low =
    let front : length (take at disk) ≡ at = length-take-le at disk (omega arith) in
    let long : length (take at disk ++ bytes) ≡ at + length bytes = omega (arith, front, length-append (take at disk) bytes) in
    get_or_append_left (take at disk ++ bytes) (drop (at + length bytes) disk) 0 i (omega (arith, long, low))
    ∙ get_or-append_right (take at disk) bytes at i 0 front from

-- one behind them
behind_write : (disk bytes : List ℕ) (at i : ℕ) → at + length bytes ≤ length disk → at + length bytes ≤ i
    → get_or (with_bytes_at disk at bytes) i 0 ≡ get_or disk i 0
behind_write disk bytes at i fits from =
    let front : length (take at disk) ≡ at = length-take-le at disk (omega arith) in
    let end = at + length bytes in
    let long : length (take at disk ++ bytes) ≡ end = omega (arith, front, length-append (take at disk) bytes) in
    let there : end + (i - end) ≡ i = omega (arith, from) in
    get_or-append_right (take at disk ++ bytes) (drop end disk) end i 0 long from
    ∙ get_or-drop end disk (i - end) 0 ∙ ap (λ n. get_or disk n 0) there

-- ---- two of them

-- what is written to both leaves them the same
pub agree_write : (low high at : ℕ) (bytes disk other : List ℕ) → at + length bytes ≤ length disk → at + length bytes ≤ length other
    → Agree low high disk other → Agree low high (with_bytes_at disk at bytes) (with_bytes_at other at bytes)
agree_write low high at bytes disk other fits fits_too agree i from to = ⊎_elim
    (λ first. before_write disk bytes at i fits first ∙ agree i from to ∙ sym (before_write other bytes at i fits_too first))
    (λ later. ⊎_elim
    (λ inside. within_write disk bytes at i fits later inside ∙ sym (within_write other bytes at i fits_too later inside))
    (λ last. behind_write disk bytes at i fits last ∙ agree i from to ∙ sym (behind_write other bytes at i fits_too last))
    (cases_lt i (at + length bytes)))
    (cases_lt i at)

-- and so does what is written to one elsewhere
pub agree_apart : (low high at : ℕ) (bytes disk other : List ℕ) → at + length bytes ≤ length disk
    → (at + length bytes ≤ low) ⊎ (high ≤ at) → Agree low high disk other → Agree low high (with_bytes_at disk at bytes) other
agree_apart low high at bytes disk other fits apart agree i from to = ⊎_elim
    (λ first. behind_write disk bytes at i fits (omega (arith, first, from)) ∙ agree i from to)
    (λ last. before_write disk bytes at i fits (omega (arith, last, to)) ∙ agree i from to)
    apart

-- a byte of a range
range_byte : (disk : List ℕ) (at count i : ℕ) → i < count → get_or (take count (drop at disk)) i 0 ≡ get_or disk (at + i) 0
range_byte disk at count i low = get_or-take count (drop at disk) i 0 low ∙ get_or-drop at disk i 0

-- its length
range_length : (disk : List ℕ) (at count : ℕ) → at + count ≤ length disk → length (take count (drop at disk)) ≡ count
range_length disk at count fits = length-take-le count (drop at disk) (omega (arith, length-drop at disk, fits))

-- what is read of both is the same
pub agree_read : (low high at count : ℕ) (disk other : List ℕ) → low ≤ at → at + count ≤ high → high ≤ length disk → high ≤ length other
    → Agree low high disk other → bytes_at disk at count ≡ bytes_at other at count
agree_read low high at count disk other from to fits fits_too agree =
    let n : at + count - at ≡ count = omega arith in
    let long : length (take count (drop at disk)) ≡ count = range_length disk at count (omega (arith, to, fits)) in
    let long_too : length (take count (drop at other)) ≡ count = range_length other at count (omega (arith, to, fits_too)) in
    ap (λ k. take k (drop at disk)) n
    ∙ ext_get_or 0 (take count (drop at disk)) (take count (drop at other)) (long ∙ sym long_too)
    (λ i low_i. let inside : i < count = omega (arith, long, low_i) in
    range_byte disk at count i inside ∙ agree (at + i) (omega (arith, from)) (omega (arith, to, inside))
    ∙ sym (range_byte other at count i inside))
    ∙ ap (λ k. take k (drop at other)) (sym n)
