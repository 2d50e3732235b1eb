-- Bytes that are written over a part of a block.
use Rattle.std.proofs.Common.{◌≡◌, ◌∙◌, ℕ, ◌+◌, ◌-◌, ◌≤◌, List, ◌++◌, ◌*◌, length, take, drop, slice_range}
use Rattle.std.proofs.Common.{sym, ap, arith, append_assoc, length-drop}
use Rattle.std.proofs.lemmas.List.{length-take-le, drop-drop, drop-take, take-take, take-append-drop}
use Rattle.vol_units.specs.Bytes.{bytes_at, with_bytes_at}
use Rattle.vol_units.proofs.BytesLemmas.{bytes_at-append, length-with_bytes_at, take-slice, take-within, with_bytes_at-append}

-- so many bytes from a place on
pub bytes_at-take : (disk : List ℕ) (at n : ℕ) → bytes_at disk at n ≡ take n (drop at disk)
bytes_at-take disk at n =
    let count : at + n - at ≡ n = omega arith in
    ap (λ k. take k (drop at disk)) count

-- how many there are
pub length-bytes_at : (disk : List ℕ) (at n : ℕ) → at + n ≤ length disk → length (bytes_at disk at n) ≡ n
length-bytes_at disk at n inside =
    ap length (bytes_at-take disk at n) ∙ length-take-le n (drop at disk) (omega (arith, length-drop at disk))

-- what stands behind a part of the first so many
behind_part : (xs : List ℕ) (i n : ℕ) → i ≤ n → drop i (take n xs) ++ drop n xs ≡ drop i xs
behind_part xs i n within =
    let parts : i + (n - i) ≡ n = omega arith in
    ap (λ k. drop i (take k xs) ++ drop n xs) (sym parts)
    ∙ ap (λ l. l ++ drop n xs) (drop-take i (n - i) xs)
    ∙ ap (λ k. take (n - i) (drop i xs) ++ drop k xs) (sym parts)
    ∙ ap (λ l. take (n - i) (drop i xs) ++ l) (sym (drop-drop (n - i) i xs))
    ∙ take-append-drop (n - i) (drop i xs)

-- three parts between two others
regroup : (a b c d e : List ℕ) → (a ++ ((b ++ c) ++ d)) ++ e ≡ ((a ++ b) ++ c) ++ (d ++ e)
regroup a b c d e = simp append_assoc

-- writing over a part of a block is writing the block with that part written over
pub over_part : (disk : List ℕ) (at n start : ℕ) (bytes : List ℕ) → at + n ≤ length disk → start + length bytes ≤ n
    → with_bytes_at disk at (with_bytes_at (bytes_at disk at n) start bytes) ≡ with_bytes_at disk (at + start) bytes
over_part disk at n start bytes inside part =
    let block = bytes_at disk at n in
    let end = start + length bytes in
    let cut = drop at disk in
    let long = length-bytes_at disk at n inside in
    let whole : length (with_bytes_at block start bytes) ≡ n =
    length-with_bytes_at block start bytes (omega (arith, long)) ∙ long in
    let front : take at disk ++ take start block ≡ take (at + start) disk =
    ap (λ l. take at disk ++ take start l) (bytes_at-take disk at n)
    ∙ ap (λ l. take at disk ++ l) (take-take start n cut (omega arith))
    ∙ take-slice disk at start in
    let back : drop end block ++ drop (at + n) disk ≡ drop (at + start + length bytes) disk =
    let ends : at + end ≡ at + start + length bytes = omega arith in
    ap (λ l. drop end l ++ drop (at + n) disk) (bytes_at-take disk at n)
    ∙ ap (λ l. drop end (take n cut) ++ l) (sym (drop-drop n at disk))
    ∙ behind_part cut end n part ∙ drop-drop end at disk ∙ ap (λ k. drop k disk) ends in
    ap (λ k. (take at disk ++ with_bytes_at block start bytes) ++ drop (at + k) disk) whole
    ∙ regroup (take at disk) (take start block) bytes (drop end block) (drop (at + n) disk)
    ∙ ap (λ l. (l ++ bytes) ++ (drop end block ++ drop (at + n) disk)) front
    ∙ ap (λ l. (take (at + start) disk ++ bytes) ++ l) back

-- a part of a block is what the disk has there
pub part_of_block : (disk : List ℕ) (block start count place : ℕ) → start + count ≤ 4096 → place ≡ block * 4096 + start
    → slice_range (bytes_at disk (block * 4096) 4096) start (start + count) ≡ bytes_at disk place count
part_of_block disk block start count place part here =
    bytes_at-take (bytes_at disk (block * 4096) 4096) start count
    ∙ ap (λ l. take count (drop start l)) (bytes_at-take disk (block * 4096) 4096)
    ∙ take-within disk (block * 4096) start count 4096 part
    ∙ sym (ap (λ k. bytes_at disk k count) here ∙ bytes_at-take disk (block * 4096 + start) count)

-- bytes that were appended, and the next part
pub one_part_more : (had now part disk : List ℕ) (at done count place : ℕ) → now ≡ had ++ bytes_at disk at done
    → part ≡ bytes_at disk place count → place ≡ at + done → now ++ part ≡ had ++ bytes_at disk at (done + count)
one_part_more had now part disk at done count place so_far is here =
    ap (λ l. l ++ part) so_far ∙ append_assoc had (bytes_at disk at done) part
    ∙ ap (λ l. had ++ (bytes_at disk at done ++ l)) is
    ∙ ap (λ l. had ++ l) (bytes_at-append disk at done count place here)

-- bytes that were written, and the next part
pub one_write_more : (disk now new bytes : List ℕ) (at done count place : ℕ) → at + length bytes ≤ length disk
    → done + count ≤ length bytes → now ≡ with_bytes_at disk at (take done bytes)
    → new ≡ with_bytes_at now place (slice_range bytes done (done + count)) → place ≡ at + done
    → new ≡ with_bytes_at disk at (take (done + count) bytes)
one_write_more disk now new bytes at done count place inside within so_far is here =
    let long : length (take done bytes) ≡ done = length-take-le done bytes (omega arith) in
    let part : slice_range bytes done (done + count) ≡ take count (drop done bytes) = bytes_at-take bytes done count in
    is ∙ ap (λ l. with_bytes_at now place l) part
    ∙ ap (λ l. with_bytes_at l place (take count (drop done bytes))) so_far
    ∙ with_bytes_at-append disk at (take done bytes) (take count (drop done bytes)) place (omega arith) (omega arith)
    ∙ ap (with_bytes_at disk at) (take-slice bytes done count)
