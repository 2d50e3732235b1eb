-- Lemmas on specs/Disk.antt: what a block that changes does to the disk.
use Rattle.std.proofs.Common.{◌≡◌, ◌≢◌, ⊎_elim, ℕ, zero, suc, ◌+◌, ◌-◌, ◌*◌, ◌/◌, ◌%◌, ◌<◌, ◌≤◌, List, ◌++◌, length}
use Rattle.std.proofs.Common.{take, drop, replicate, Option, Some, None, is_some, Bool, true, Result, Ok, Err, OnOk}
use Rattle.std.proofs.Common.{OnErr, sym, refl, ap, ◌∙◌, subst, arith, zero-mul, append_assoc, append-nil}
use Rattle.std.proofs.Common.{length-append, slice_range}
use Rattle.std.proofs.lemmas.Bool.{cases_eq, false≢true}
use Rattle.std.specs.Option.{option_map}
use Rattle.std.proofs.lemmas.List.{take-append-le, drop-append-le, drop_all, replicate-append-replicate, length-take-le}
use Rattle.std.proofs.Math.Seq.{take-append_seam, take-append-add, drop-append-add, drop-append_seam}
use Rattle.vol_units.specs.Bytes.{zeros, with_bytes_at}
use Rattle.vol_units.proofs.BytesLemmas.{length-zeros}
use Rattle.sparse_image.specs.Disk.{bytes_of, joined, disk_of}
use Rattle.sparse_image.specs.Image.{Tables, block_at, IsEmpty, MakesPages, ChangesBlock}
use Rattle.sparse_image.specs.Whole.{IsImage}

pub joined-same : (f g : ℕ → List ℕ) (n : ℕ) → ((k : ℕ) → k < n → g k ≡ f k) → joined g n ≡ joined f n
unfolding joined
joined-same f g zero same = refl
joined-same f g (suc n) same =
    ap (λ xs. xs ++ g n) (joined-same f g n (λ k h. same k (omega arith))) ∙ ap (λ ys. joined f n ++ ys) (same n (omega arith))

pub length-joined : (f : ℕ → List ℕ) (n : ℕ) → ((k : ℕ) → length (f k) ≡ 4096) → length (joined f n) ≡ n * 4096
unfolding joined
length-joined f zero whole = refl
length-joined f (suc n) whole =
    omega (arith, length-append (joined f n) (f n), length-joined f n whole, whole n)

-- others in the place of the last part, and of an earlier one
last_part : (xs ys zs : List ℕ) (m : ℕ) → length xs ≡ m → length ys ≡ 4096
    → xs ++ zs ≡ take m (xs ++ ys) ++ zs ++ drop (m + 4096) (xs ++ ys)
last_part xs ys zs m len whole =
    sym (append-nil (xs ++ zs))
    ∙ ap (λ r. xs ++ zs ++ r) (sym (drop_all (m + 4096) (xs ++ ys) (omega (arith, length-append xs ys))))
    ∙ ap (λ l. l ++ zs ++ drop (m + 4096) (xs ++ ys)) (sym (ap (λ k. take k (xs ++ ys)) (sym len) ∙ take-append_seam xs ys))

earlier_part : (xs ys zs : List ℕ) (a b : ℕ) → a ≤ length xs → b ≤ length xs
    → (take a xs ++ zs ++ drop b xs) ++ ys ≡ take a (xs ++ ys) ++ zs ++ drop b (xs ++ ys)
earlier_part xs ys zs a b low high =
    append_assoc (take a xs ++ zs) (drop b xs) ys
    ∙ ap (λ r. take a xs ++ zs ++ r) (sym (drop-append-le b xs ys high))
    ∙ ap (λ l. l ++ zs ++ drop b (xs ++ ys)) (sym (take-append-le a xs ys low))

-- where one list changes, just its part of the whole does
pub joined-changed : (f g : ℕ → List ℕ) (n i : ℕ) → i < n → ((k : ℕ) → length (f k) ≡ 4096) → ((k : ℕ) → k ≢ i → g k ≡ f k)
    → joined g n ≡ take (i * 4096) (joined f n) ++ g i ++ drop (i * 4096 + 4096) (joined f n)
unfolding joined
joined-changed f g zero i inside whole others = absurd (omega arith)
joined-changed f g (suc n) i inside whole others =
    let len = length-joined f n whole in
    ⊎_elim
    (λ last.
    ap (λ xs. xs ++ g n) (joined-same f g n (λ k h. others k (omega arith)))
    ∙ ap (λ ys. joined f n ++ ys) (ap g (sym last))
    ∙ last_part (joined f n) (f n) (g i) (i * 4096) (omega arith) (whole n))
    (λ earlier.
    ap (λ xs. xs ++ g n) (joined-changed f g n i (omega arith) whole others)
    ∙ ap (λ ys. (take (i * 4096) (joined f n) ++ g i ++ drop (i * 4096 + 4096) (joined f n)) ++ ys) (others n (omega arith))
    ∙ earlier_part (joined f n) (f n) (g i) (i * 4096) (i * 4096 + 4096) (omega arith) (omega arith))
    (cases_eq i n)

-- bytes written over a part are written over the whole
with_bytes_at-within : (xs ys zs bytes : List ℕ) (start : ℕ) → start + length bytes ≤ length ys
    → xs ++ with_bytes_at ys start bytes ++ zs ≡ with_bytes_at (xs ++ ys ++ zs) (length xs + start) bytes
with_bytes_at-within xs ys zs bytes start room =
    let end = start + length bytes in
    let whole = append_assoc xs ys zs in
    let front : take (length xs + start) (xs ++ ys ++ zs) ≡ xs ++ take start ys =
    ap (take (length xs + start)) whole ∙ take-append-add xs (ys ++ zs) start
    ∙ ap (λ t. xs ++ t) (take-append-le start ys zs (omega arith)) in
    let same : length xs + start + length bytes ≡ length xs + end = omega arith in
    let rest : drop (length xs + start + length bytes) (xs ++ ys ++ zs) ≡ drop end ys ++ zs =
    ap (λ n. drop n (xs ++ ys ++ zs)) same ∙ ap (drop (length xs + end)) whole ∙ drop-append-add xs (ys ++ zs) end
    ∙ drop-append-le end ys zs room in
    append_assoc xs (take start ys ++ bytes ++ drop end ys) zs
    ∙ ap (λ r. xs ++ r) (append_assoc (take start ys ++ bytes) (drop end ys) zs ∙ append_assoc (take start ys) bytes (drop end ys ++ zs))
    ∙ sym (append_assoc xs (take start ys) (bytes ++ (drop end ys ++ zs)))
    ∙ sym (append_assoc (xs ++ take start ys) bytes (drop end ys ++ zs))
    ∙ sym (ap (λ l. l ++ bytes ++ (drop end ys ++ zs)) front)
    ∙ sym (ap (λ r. take (length xs + start) (xs ++ ys ++ zs) ++ bytes ++ r) rest)

length-bytes_of : (block : Option (List ℕ)) → ((b : List ℕ) → block ≡ Some b → length b ≡ 4096) → length (bytes_of block) ≡ 4096
length-bytes_of None whole = length-zeros 4096
length-bytes_of (Some b) whole = whole b refl

-- each block of an image reads as 4,096 bytes
pub length-block : (image : Tables) → IsImage image → (block : ℕ) → length (bytes_of (block_at image block)) ≡ 4096
unfolding block_at
length-block image i block = length-bytes_of (block_at image block) ((i.tables (block / 512)).blocks (block % 512))

pub length-disk_of : (image : Tables) → IsImage image → length (disk_of image) ≡ length image * 2097152
unfolding disk_of
length-disk_of image i =
    omega (arith, length-joined (λ block. bytes_of (block_at image block)) (length image * 512) (length-block image i))

-- images with the same blocks are the same disk
pub disk_of-same : (old new : Tables) → length new ≡ length old → ((block : ℕ) → block_at new block ≡ block_at old block)
    → disk_of new ≡ disk_of old
unfolding disk_of
disk_of-same old new count same =
    ap (λ n. joined (λ block. bytes_of (block_at new block)) (n * 512)) count
    ∙ joined-same (λ block. bytes_of (block_at old block)) (λ block. bytes_of (block_at new block)) (length old * 512)
    (λ block h. ap bytes_of (same block))

-- whether pages are made or memory ran out, the disk stays
pub disk_of-makes : {T E : Type 0} (r : Result T E) (old new : Tables) (wanted : ℕ → Bool)
    → OnOk r (MakesPages old new wanted) → OnErr r (new ≡ old) → disk_of new ≡ disk_of old
disk_of-makes (Ok x) old new wanted makes same = disk_of-same old new makes.count makes.blocks
disk_of-makes (Err e) old new wanted makes same = ap disk_of same

-- where a block changes, just its bytes do
disk_of-changes : (old new : Tables) (block : ℕ) (after : Option (List ℕ)) → IsImage old → ChangesBlock old new block after
    → block / 512 < length old → disk_of new ≡ take (block * 4096) (disk_of old) ++ bytes_of after
    ++ drop (block * 4096 + 4096) (disk_of old)
unfolding disk_of
disk_of-changes old new block after image s inside =
    ap (λ n. joined (λ k. bytes_of (block_at new k)) (n * 512)) s.count
    ∙ joined-changed (λ k. bytes_of (block_at old k)) (λ k. bytes_of (block_at new k)) (length old * 512) block
    (omega arith) (length-block old image) (λ k ne. ap bytes_of (s.others k ne))
    ∙ ap (λ b. take (block * 4096) (disk_of old) ++ bytes_of b ++ drop (block * 4096 + 4096) (disk_of old)) s.here

-- a disk is what stands before a block, the block, and what stands behind it
pub disk_of-split : (image : Tables) (block : ℕ) → IsImage image → block / 512 < length image
    → disk_of image ≡ take (block * 4096) (disk_of image) ++ bytes_of (block_at image block)
    ++ drop (block * 4096 + 4096) (disk_of image)
disk_of-split image block i inside =
    disk_of-changes image image block (block_at image block) i record
    { count = refl; here = refl; others = λ _ _. refl; pages = λ _. refl } inside

pub disk_of-put : (old new : Tables) (block : ℕ) (b : List ℕ) → IsImage old → ChangesBlock old new block (Some b)
    → block / 512 < length old → length b ≡ 4096 → disk_of new ≡ with_bytes_at (disk_of old) (block * 4096) b
disk_of-put old new block b image s inside whole =
    disk_of-changes old new block (Some b) image s inside
    ∙ ap (λ n. take (block * 4096) (disk_of old) ++ b ++ drop (block * 4096 + n) (disk_of old)) (sym whole)

disk_of-overwrite_some : (old new : Tables) (block : ℕ) (b : List ℕ) (start : ℕ) (bytes : List ℕ) → IsImage old
    → block_at old block ≡ Some b → ChangesBlock old new block (Some (with_bytes_at b start bytes))
    → block / 512 < length old → start + length bytes ≤ 4096
    → disk_of new ≡ with_bytes_at (disk_of old) (block * 4096 + start) bytes
disk_of-overwrite_some old new block b start bytes image there s inside room =
    let front = take (block * 4096) (disk_of old) in
    let rest = drop (block * 4096 + 4096) (disk_of old) in
    let whole : length b ≡ 4096 = ap (λ o. length (bytes_of o)) (sym there) ∙ length-block old image block in
    let before : length front ≡ block * 4096 =
    length-take-le (block * 4096) (disk_of old) (omega (arith, length-disk_of old image)) in
    disk_of-changes old new block (Some (with_bytes_at b start bytes)) image s inside
    ∙ with_bytes_at-within front b rest bytes start (omega arith)
    ∙ ap (λ n. with_bytes_at (front ++ b ++ rest) (n + start) bytes) before
    ∙ ap (λ d. with_bytes_at d (block * 4096 + start) bytes)
    (ap (λ o. front ++ bytes_of o ++ rest) (sym there) ∙ sym (disk_of-split old block image inside))

-- what is there is some block
some_block : (o : Option (List ℕ)) → is_some o ≡ true → (b : List ℕ) × (o ≡ Some b)
some_block None there = absurd (false≢true there)
some_block (Some b) there = (b, refl)

-- bytes written over part of a block are written over that part of the disk
pub disk_of-overwrite : (old new : Tables) (block start : ℕ) (bytes : List ℕ) → IsImage old
    → ChangesBlock old new block (option_map (λ b. with_bytes_at b start bytes) (block_at old block))
    → is_some (block_at old block) ≡ true → block / 512 < length old → start + length bytes ≤ 4096
    → disk_of new ≡ with_bytes_at (disk_of old) (block * 4096 + start) bytes
disk_of-overwrite old new block start bytes image s there inside room =
    let found = some_block (block_at old block) there in
    disk_of-overwrite_some old new block found.0 start bytes image found.1
    (subst (λ o. ChangesBlock old new block (option_map (λ b. with_bytes_at b start bytes) o)) found.1 s) inside room

-- a part of a list that is known by what stands before it
part_at : (all xs ys zs : List ℕ) (at : ℕ) → all ≡ xs ++ ys ++ zs → length xs ≡ at → length ys ≡ 4096 → slice_range all at (at + 4096) ≡ ys
part_at all xs ys zs at parts before whole =
    let long : at + 4096 - at ≡ 4096 = omega arith in
    ap (λ n. take n (drop at all)) long
    ∙ ap (λ l. take 4096 (drop at l)) (parts ∙ append_assoc xs ys zs)
    ∙ ap (λ n. take 4096 (drop n (xs ++ (ys ++ zs)))) (sym before)
    ∙ ap (take 4096) (drop-append_seam xs (ys ++ zs))
    ∙ ap (λ n. take n (ys ++ zs)) (sym whole)
    ∙ take-append_seam ys zs

-- what a block reads as stands at its place of the disk
pub disk_of-block : (image : Tables) (block : ℕ) → IsImage image → block / 512 < length image
    → slice_range (disk_of image) (block * 4096) (block * 4096 + 4096) ≡ bytes_of (block_at image block)
disk_of-block image block i inside =
    part_at (disk_of image) (take (block * 4096) (disk_of image)) (bytes_of (block_at image block))
    (drop (block * 4096 + 4096) (disk_of image)) (block * 4096)
    (disk_of-split image block i inside)
    (length-take-le (block * 4096) (disk_of image) (omega (arith, length-disk_of image i)))
    (length-block image i block)

joined-zeros : (f : ℕ → List ℕ) (each n : ℕ) → ((k : ℕ) → f k ≡ zeros each) → joined f n ≡ zeros (n * each)
unfolding zeros joined
joined-zeros f each zero same = ap (λ n. replicate n 0) (sym (zero-mul each))
joined-zeros f each (suc n) same =
    ap (λ xs. xs ++ f n) (joined-zeros f each n same)
    ∙ ap (λ ys. zeros (n * each) ++ ys) (same n)
    ∙ replicate-append-replicate (n * each) each 0
    ∙ ap (λ m. replicate m 0) (omega arith)

-- an image without blocks is a disk of zeros
pub disk_of-empty : (image : Tables) (page_count : ℕ) → IsEmpty image page_count → disk_of image ≡ zeros (page_count * 2097152)
unfolding disk_of
disk_of-empty image page_count e =
    let long : length image * 512 * 4096 ≡ page_count * 2097152 = omega (arith, e.count) in
    joined-zeros (λ block. bytes_of (block_at image block)) 4096 (length image * 512) (λ block. ap bytes_of (e.blocks block))
    ∙ ap zeros long
