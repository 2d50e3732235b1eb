-- The disk of a backup is the disk that it was made of.
use Rattle.std.proofs.Common.{◌≡◌, ℕ, suc, ◌+◌, ◌*◌, ◌-◌, ◌<◌, ◌≤◌, Bool, true, false, true≢false, ◌&&◌, List, [], ◌∷◌, ◌++◌}
use Rattle.std.proofs.Common.{length, drop, get_or, replicate, Option, None, Some, refl, sym, ap, ap₂, subst, ◌∙◌}
use Rattle.std.proofs.Common.{arith, rules, length-take, length-drop}
use Rattle.std.proofs.lemmas.List.{at_drop_all}
use Rattle.std.proofs.lemmas.List.Folds.{drop_split}
use Rattle.std.specs.Prelude.{◌==◌, unwrap_or, flat_map}
use Rattle.std.specs.List.{slice_range}
use Rattle.vol_units.specs.Bytes.{zeros}
use Rattle.digest.specs.Digest.{digest_text}
use Rattle.target_traits.specs.Objects.{Objects}
use Rattle.backup_units.specs.Backups.{page_of, page_at, listed_of, listed_at, HoldsPage, IsWhole, IsBackup}
use Rattle.backup_units.specs.Blocks.{page_bytes, is_zeros}
use Rattle.backup_make.specs.Made.{IsDisk}
use Rattle.backup_make.proofs.KeptLemmas.{listed_zeros, listed_some}

abbrev Listed : Type 0
Listed = List (Option (List ℕ))

both : (a b : Bool) → (a && b) ≡ true → (a ≡ true) × (b ≡ true)
both true b h = (refl, h)
both false b h = absurd (true≢false (sym h))

is_zero : (b : ℕ) → (b == 0) ≡ true → b ≡ 0
is_zero b h = search rules

all_replicate : (bytes : List ℕ) → is_zeros bytes ≡ true → bytes ≡ replicate (length bytes) 0
all_replicate [] h = refl
all_replicate (b ∷ bs) h =
    let p = both (b == 0) (is_zeros bs) h in ap₂ (λ (x : ℕ) (xs : List ℕ). x ∷ xs) (is_zero b p.0) (all_replicate bs p.1)

all_zeros : (bytes : List ℕ) → is_zeros bytes ≡ true → bytes ≡ zeros (length bytes)
unfolding zeros
all_zeros bytes h = all_replicate bytes h

-- pieces of n bytes, one after another, are what they are pieces of
tiles : (n : ℕ) (f : Option (List ℕ) → List ℕ) (disk : List ℕ) (listed : Listed) (at : ℕ)
    → length disk ≡ at + length listed * n
    → ((k : ℕ) → k < length listed → f (get_or listed k None) ≡ slice_range disk (at + k * n) (at + k * n + n))
    → flat_map f listed ≡ drop at disk
tiles n f disk [] at size piece = sym (at_drop_all (λ (xs : List ℕ). xs) disk at (omega (arith, size)))
tiles n f disk (x ∷ more) at size piece =
    let first : at + 0 * n ≡ at = omega arith in
    let rest = λ (k : ℕ) (low : k < length more).
    piece (suc k) (omega (arith, low)) ∙ ap (λ m. slice_range disk m (m + n)) (next k) in
    ap₂ (λ (xs ys : List ℕ). xs ++ ys) (piece 0 (omega arith) ∙ ap (λ m. slice_range disk m (m + n)) first)
    (tiles n f disk more (at + n) (omega (arith, size)) rest)
    ∙ sym (drop_split disk at (at + n) (omega arith))
  where
    next : (k : ℕ) → at + suc k * n ≡ at + n + k * n
    next k = omega arith

-- a page that is kept
page_shown : (objects : Objects) (volume : List ℕ) (entry : Option (List ℕ)) (bytes : List ℕ) → entry ≡ listed_of bytes
    → HoldsPage objects volume bytes → length bytes ≡ page_bytes
    → (page_of objects volume entry ≡ bytes) × IsWhole objects volume entry
page_shown objects volume entry bytes is held size = by_test (is_zeros bytes) refl
  where
    by_test : (b : Bool) → is_zeros bytes ≡ b → (page_of objects volume entry ≡ bytes) × IsWhole objects volume entry
    by_test true all =
        let none : entry ≡ None = is ∙ sym (listed_zeros bytes all) in (
          ap (page_of objects volume) none ∙ sym (all_zeros bytes all ∙ ap zeros size),
          subst (IsWhole objects volume) (sym none) tt,
        )
    by_test false some =
        let there : entry ≡ Some (digest_text bytes) = is ∙ sym (listed_some bytes (digest_text bytes) some refl) in
        let block = held some in (
          ap (page_of objects volume) there ∙ ap (λ o. unwrap_or o []) block.there,
          subst (IsWhole objects volume) (sym there) (bytes, block),
        )

page_size : (disk : List ℕ) (at n : ℕ) → at + n ≤ length disk → length (slice_range disk at (at + n)) ≡ n
page_size disk at n within = omega (arith, length-take (at + n - at) (drop at disk), length-drop at disk)

pub is_disk : (objects : Objects) (volume disk : List ℕ) (listed : Listed) → IsBackup true objects volume disk listed
    → IsDisk objects volume disk listed
is_disk objects volume disk listed is = record {
  whole = λ page low. (shown page low).1;
  bytes = tiles page_bytes (page_of objects volume) disk listed 0 (omega (arith, is.size))
      (λ k low. (shown k low).0 ∙ ap (λ m. slice_range disk m (m + page_bytes)) (from_zero (k * page_bytes)));
}
  where
    from_zero : (m : ℕ) → m ≡ 0 + m
    from_zero m = omega arith

    shown : (page : ℕ) → page < length listed
        → (page_of objects volume (listed_at listed page) ≡ page_at disk page) × IsWhole objects volume (listed_at listed page)
    shown page low =
        let kept = is.pages page low in
        page_shown objects volume (listed_at listed page) (page_at disk page) kept.entry (kept.held refl)
        (page_size disk (page * page_bytes) page_bytes (omega (arith, is.size, low)))
