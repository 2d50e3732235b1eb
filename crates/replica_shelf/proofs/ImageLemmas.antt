-- One block more in an image.
use Rattle.std.proofs.Common.{◌≡◌, ◌⊎◌, inl, inr, ⊎_elim, ℕ, ◌+◌, ◌-◌, ◌*◌, ◌<◌, ◌≤◌, Bool, true, false, List, ◌++◌, length}
use Rattle.std.proofs.Common.{take, drop, replicate, Option, Some, None, refl, sym, ap, subst, ◌∙◌, arith, append_assoc}
use Rattle.std.proofs.Common.{length-append, length-take-le, length-drop, zero-add, Result, Ok, Err, OnOk}
use Rattle.std.proofs.lemmas.List.{take-append-le, take-replicate, drop-replicate, length-replicate, drop-drop, get_or_past}
use Rattle.std.proofs.Math.Seq.{take-append_seam, drop-append-add}
use Rattle.shelf_traits.specs.Files.{Files, Both, Becomes, written, resized}
use Rattle.vol_units.specs.Bytes.{zeros, bytes_at, with_bytes_at}
use Rattle.vol_units.proofs.BytesLemmas.{length-with_bytes_at, take-within}
use Rattle.replica_node.specs.Node.{has_own}
use Rattle.replica_node.specs.Held.{block_of}
use Rattle.replica_node.proofs.ReadLemmas.{part_at}
use Rattle.folder_names.specs.Files.{Folder}
use Rattle.replica_shelf.specs.Saving.{IsImageOf, HoldsBelow, IsNextOwn, PutsBlock}
use Rattle.replica_shelf.proofs.CallLemmas.{both_then}

-- within a file, writing is writing over
written_is : (bytes b : List ℕ) (at : ℕ) → at ≤ length bytes → written (Some bytes) at b ≡ with_bytes_at bytes at b
written_is bytes b at inside =
    ap (λ front. front ++ b ++ drop (at + length b) bytes) (take-append-le at bytes (replicate (at - length bytes) 0) inside)

-- what stands before stays
before_is : (bytes b : List ℕ) (at place n : ℕ) → place + n ≤ at → at ≤ length bytes
    → bytes_at (with_bytes_at bytes at b) place n ≡ bytes_at bytes place n
before_is bytes b at place n inside short =
    let rest = drop (at + length b) bytes in
    front (with_bytes_at bytes at b) at place n inside
    ∙ ap (λ l. take n (drop place l)) (ap (take at) (append_assoc (take at bytes) b rest)
    ∙ ap (λ k. take k (take at bytes ++ (b ++ rest))) (sym (length-take-le at bytes short))
    ∙ take-append_seam (take at bytes) (b ++ rest))
    ∙ sym (front bytes at place n inside)
  where
    front : (xs : List ℕ) (at place n : ℕ) → place + n ≤ at → bytes_at xs place n ≡ take n (drop place (take at xs))
    front xs at place n inside =
        let size : place + n - place ≡ n = omega arith in
        ap (λ k. take k (drop place xs)) size
        ∙ sym (take-within xs 0 place n at inside ∙ ap (λ p. take n (drop p xs)) (zero-add place))

-- what stands behind stays
behind_is : (bytes b : List ℕ) (at place n : ℕ) → at + length b ≤ place → at + length b ≤ length bytes
    → bytes_at (with_bytes_at bytes at b) place n ≡ bytes_at bytes place n
behind_is bytes b at place n behind inside =
    let end = at + length b in
    let low : at ≤ length bytes = omega arith in
    let long : length (take at bytes ++ b) ≡ end =
    omega (arith, length-append (take at bytes) b, length-take-le at bytes low) in
    let far : end + (place - end) ≡ place = omega arith in
    ap (λ l. take (place + n - place) l)
    (ap (λ p. drop p (with_bytes_at bytes at b)) (sym far)
    ∙ ap (λ p. drop (p + (place - end)) (with_bytes_at bytes at b)) (sym long)
    ∙ drop-append-add (take at bytes ++ b) (drop end bytes) (place - end)
    ∙ drop-drop (place - end) end bytes
    ∙ ap (λ p. drop p bytes) far)

block_size : (block : ℕ) → block * 4096 + 4096 - block * 4096 ≡ 4096
block_size block = omega arith

-- ---- an image without a block

holds_none : (folder : Folder) (image disk : List ℕ) (own : List Bool) (count len : ℕ) (old : Option (List ℕ)) → old ≡ None
    → count ≡ length own → count * 4096 ≡ length disk → len ≡ length disk
    → folder image ≡ Some (resized old len) → HoldsBelow folder image disk own 0
unfolding zeros
holds_none folder image disk own count len old none blocks size is there = record {
  bytes = replicate len 0;
  there = there ∙ ap Some (ap (λ o. resized o len) none ∙ ap (λ n. take len (replicate n 0)) all_of_it
      ∙ take-replicate len len 0 (omega arith));
  whole = length-replicate len 0 ∙ is;
  blocks = λ k less. absurd (omega (arith, less));
  bare = λ k less why. zeros_at k (omega (arith, less, blocks, size, is));
}
  where
    all_of_it : len - 0 ≡ len
    all_of_it = omega arith

    zeros_at : (k : ℕ) → k * 4096 + 4096 ≤ len → block_of (replicate len 0) k ≡ zeros 4096
    zeros_at k fits =
        ap (λ n. take n (drop (k * 4096) (replicate len 0))) (block_size k)
        ∙ ap (take 4096) (drop-replicate (k * 4096) len 0)
        ∙ take-replicate 4096 (len - k * 4096) 0 (omega arith)

-- what is removed, and then made of that length
pub empty_is : {T E : Type 0} (r : Result T E) (shelf : ℕ) (image disk : List ℕ) (own : List Bool) (count len : ℕ) (a b c : Option Files)
    → count ≡ length own → count * 4096 ≡ length disk → len ≡ length disk → Both a b (Becomes shelf image None)
    → OnOk r (Both b c (λ old new. Becomes shelf image (Some (resized (old shelf image) len)) old new))
    → OnOk r (Both a c (λ old new. HoldsBelow (new shelf) image disk own 0))
empty_is (Err e) shelf image disk own count len a b c blocks size is gone made = tt
empty_is (Ok v) shelf image disk own count len a b c blocks size is gone made =
    both_then a b c _ _ _ gone made
    (λ x y z none there. holds_none (z shelf) image disk own count len (y shelf image) none.here blocks size is there.here)

-- ---- one block more

pub holds_more : (shelf : ℕ) (image disk : List ℕ) (own : List Bool) (block : ℕ) (y z : Files) → block * 4096 + 4096 ≤ length disk
    → HoldsBelow (y shelf) image disk own block → PutsBlock shelf image disk own block y z
    → HoldsBelow (z shelf) image disk own (block + 1)
holds_more shelf image disk own block y z inside h put = by_own (has_own own block) refl
  where
    by_order : (k : ℕ) → k < block + 1 → (k ≡ block) ⊎ (k < block)
    by_order k less = grind arith

    true_false : true ≡ false → ⊥
    true_false e = cc

    by_own : (t : Bool) → has_own own block ≡ t → HoldsBelow (z shelf) image disk own (block + 1)
    by_own false e = record {
      bytes = h.bytes;
      there = put.absent e shelf image ∙ h.there;
      whole = h.whole;
      blocks = λ k less has. ⊎_elim
          (λ (same : k ≡ block). absurd (true_false (sym has ∙ ap (λ i. has_own own i) same ∙ e)))
          (λ (older : k < block). h.blocks k older has) (by_order k less);
      bare = λ k less why. h.bare k less (⊎_elim
          (λ (later : block + 1 ≤ k). inl (omega (arith, later))) (λ (none : has_own own k ≡ false). inr none) why);
    }
    by_own true e =
        let b = block_of disk block in
        let at = block * 4096 in
        let full : length b ≡ 4096 = length_block in
        let long : length h.bytes ≡ length disk = h.whole in
        let fits : at + length b ≤ length h.bytes = omega arith in
        let low : at ≤ length h.bytes = omega arith in
        record {
          bytes = with_bytes_at h.bytes at b;
          there = (put.put e).here ∙ ap (λ o. Some (written o at b)) h.there ∙ ap Some (written_is h.bytes b at low);
          whole = length-with_bytes_at h.bytes at b fits ∙ long;
          blocks = λ k less has. ⊎_elim
              (λ (same : k ≡ block). subst (λ i. block_of (with_bytes_at h.bytes at b) i ≡ block_of disk i) (sym same)
              (part_at (with_bytes_at h.bytes at b) (take at h.bytes) b (drop (at + length b) h.bytes) at 4096 refl
              (length-take-le at h.bytes low) full))
              (λ (older : k < block). before_is h.bytes b at (k * 4096) 4096 (omega arith) low ∙ h.blocks k older has)
              (by_order k less);
          bare = λ k less why. ⊎_elim
              (λ (later : block < k). behind_is h.bytes b at (k * 4096) 4096 (omega (arith, full, later)) fits
              ∙ h.bare k less (inl (omega (arith, later))))
              (λ (older : (k < block) × (has_own own k ≡ false)). before_is h.bytes b at (k * 4096) 4096 (omega (arith, older.0)) low
              ∙ h.bare k less (inr older.1))
              (apart k why);
        }
      where
        length_block : length (block_of disk block) ≡ 4096
        length_block =
            ap (λ n. length (take n (drop (block * 4096) disk))) (block_size block)
            ∙ length-take-le 4096 (drop (block * 4096) disk) (omega (arith, length-drop (block * 4096) disk))

        apart : (k : ℕ) → (block + 1 ≤ k) ⊎ (has_own own k ≡ false) → (block < k) ⊎ ((k < block) × (has_own own k ≡ false))
        apart k (inl later) = inl (omega (arith, later))
        apart k (inr none) = by_side (three k)
          where
            three : (k : ℕ) → (block < k) ⊎ ((k ≡ block) ⊎ (k < block))
            three k = grind arith

            by_side : (block < k) ⊎ ((k ≡ block) ⊎ (k < block)) → (block < k) ⊎ ((k < block) × (has_own own k ≡ false))
            by_side (inl later) = inl later
            by_side (inr (inl same)) = absurd (true_false (sym e ∙ ap (λ i. has_own own i) (sym same) ∙ none))
            by_side (inr (inr older)) = inr (older, none)

-- there is none up to the next
pub holds_on : (folder : Folder) (image disk : List ℕ) (own : List Bool) (from next : ℕ) → IsNextOwn own from next
    → HoldsBelow folder image disk own from → HoldsBelow folder image disk own next
holds_on folder image disk own from next n h = record {
  bytes = h.bytes;
  there = h.there;
  whole = h.whole;
  blocks = λ k less has. ⊎_elim
      (λ (older : k < from). h.blocks k older has)
      (λ (later : from ≤ k). absurd (true_false (sym has ∙ n.none k later less))) (by_order k);
  bare = λ k less why. h.bare k less (⊎_elim
      (λ (later : next ≤ k). inl (omega (arith, later, n.least))) (λ (none : has_own own k ≡ false). inr none) why);
}
  where
    by_order : (k : ℕ) → (k < from) ⊎ (from ≤ k)
    by_order k = grind arith

    true_false : true ≡ false → ⊥
    true_false e = cc

-- all blocks
pub image_is : (folder : Folder) (image disk : List ℕ) (own : List Bool) (block : ℕ) → length own ≤ block
    → HoldsBelow folder image disk own block → IsImageOf folder image disk own
image_is folder image disk own block all h = record {
  bytes = h.bytes;
  there = h.there;
  whole = h.whole;
  blocks = λ k has. h.blocks k (omega (arith, all, within own k has)) has;
  bare = λ k less none. h.bare k less (inr none);
}
  where
    within : (own : List Bool) (k : ℕ) → has_own own k ≡ true → k < length own
    within own k has =
        ⊎_elim (λ (less : k < length own). less)
        (λ (past : length own ≤ k). absurd (true_false (sym has ∙ get_or_past own k false past))) (by_order own k)
      where
        true_false : true ≡ false → ⊥
        true_false e = cc

        by_order : (own : List Bool) (k : ℕ) → (k < length own) ⊎ (length own ≤ k)
        by_order own k = grind arith
