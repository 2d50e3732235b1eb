-- What a write leaves at each byte of a disk.
use Rattle.std.proofs.Common.{◌≡◌, ℕ, ◌+◌, ◌-◌, ◌<◌, ◌≤◌, List, length, get_or, sym, ◌∙◌, ⊎_elim, arith}
use Rattle.std.proofs.lemmas.List.{places, length-append, length-take, length-drop, ext_get_or}
use Rattle.std.proofs.lemmas.Bool.{cases_lt}
use Rattle.std.specs.List.{slice_range}
use Rattle.vol_units.specs.Bytes.{bytes_at, with_bytes_at}

pub length-put : (disk : List ℕ) (from : ℕ) (blocks : List ℕ) → from + length blocks ≤ length disk
    → length (with_bytes_at disk from blocks) ≡ length disk
length-put disk from blocks h = grind (arith, length-append, length-take, length-drop)

pub get_or-put_in : (disk : List ℕ) (from : ℕ) (blocks : List ℕ) (k d : ℕ) → from + length blocks ≤ length disk → from ≤ k
    → k < from + length blocks → get_or (with_bytes_at disk from blocks) k d ≡ get_or blocks (k - from) d
get_or-put_in disk from blocks k d h a b = grind (arith, places)

pub get_or-put_below : (disk : List ℕ) (from : ℕ) (blocks : List ℕ) (k d : ℕ) → from + length blocks ≤ length disk
    → k < from → get_or (with_bytes_at disk from blocks) k d ≡ get_or disk k d
get_or-put_below disk from blocks k d h a = grind (arith, places)

pub get_or-put_above : (disk : List ℕ) (from : ℕ) (blocks : List ℕ) (k d : ℕ) → from + length blocks ≤ length disk
    → from + length blocks ≤ k → get_or (with_bytes_at disk from blocks) k d ≡ get_or disk k d
get_or-put_above disk from blocks k d h a = grind (arith, places)

-- a block outside the range that was written
pub get_or-put_out : (disk : List ℕ) (from : ℕ) (blocks : List ℕ) (k d : ℕ) → from + length blocks ≤ length disk
    → (from ≤ k → from + length blocks ≤ k) → get_or (with_bytes_at disk from blocks) k d ≡ get_or disk k d
get_or-put_out disk from blocks k d h out =
    ⊎_elim
    (λ l. get_or-put_below disk from blocks k d h l)
    (λ l. get_or-put_above disk from blocks k d h (out l))
    (cases_lt k from)

pub get_or-slice_range : (disk : List ℕ) (from until k d : ℕ) → until ≤ length disk → from + k < until
    → get_or (slice_range disk from until) k d ≡ get_or disk (from + k) d
get_or-slice_range disk from until k d h a = grind (arith, places)

pub length-slice_range : (disk : List ℕ) (from until : ℕ) → until ≤ length disk → length (slice_range disk from until) ≡ until - from
length-slice_range disk from until h = grind (arith, length-take, length-drop)

pub same_ranges : (xs ys : List ℕ) (from until : ℕ) → until ≤ length xs → until ≤ length ys
    → ((k : ℕ) → from ≤ k → k < until → get_or xs k 0 ≡ get_or ys k 0)
    → slice_range xs from until ≡ slice_range ys from until
same_ranges xs ys from until h i same =
    ext_get_or 0 (slice_range xs from until) (slice_range ys from until)
    (omega (arith, length-slice_range xs from until h, length-slice_range ys from until i))
    (λ k l. let in' : from + k < until = omega (arith, length-slice_range xs from until h) in
    get_or-slice_range xs from until k 0 h in' ∙ same (from + k) (omega arith) in' ∙ sym (get_or-slice_range ys from until k 0 i in'))

-- n bytes from a place on, of two disks that have the same there
pub same_bytes_at : (xs ys : List ℕ) (at n : ℕ) → at + n ≤ length xs → at + n ≤ length ys
    → ((k : ℕ) → at ≤ k → k < at + n → get_or xs k 0 ≡ get_or ys k 0) → bytes_at xs at n ≡ bytes_at ys at n
same_bytes_at xs ys at n h i same = same_ranges xs ys at (at + n) h i same

pub length-bytes_at : (disk : List ℕ) (at n : ℕ) → at + n ≤ length disk → length (bytes_at disk at n) ≡ n
length-bytes_at disk at n h = omega (arith, length-slice_range disk at (at + n) h)

pub get_or-bytes_at : (disk : List ℕ) (at n k : ℕ) → at + n ≤ length disk → k < n → get_or (bytes_at disk at n) k 0 ≡ get_or disk (at + k) 0
get_or-bytes_at disk at n k h l = get_or-slice_range disk at (at + n) k 0 h (omega arith)
