-- A list, written and read.
use Rattle.std.proofs.Common.{◌≡◌, ◌≢◌, ℕ, zero, suc, ◌+◌, ◌*◌, ◌/◌, ◌%◌, ◌<◌, ◌≤◌, true, false}
use Rattle.std.proofs.Common.{List, [], ◌∷◌, map, length, get_or, Option, None, Some, All}
use Rattle.std.proofs.Common.{refl, ap, ◌∙◌, arith, rules}
use Rattle.std.proofs.lemmas.Bool.{ne_eqb, eq-eqb}
use Rattle.std.proofs.lemmas.List.{ext_get_or}
use Rattle.std.proofs.lemmas.List.Elements.{All-nil, All-cons}
use Rattle.std.proofs.lemmas.List.FromFn.{length-map-range_with_len, get_or-map-range_with_len}
use Rattle.std.proofs.lemmas.List.Kept.{AllPairs-cons}
use Rattle.std.specs.Prelude.{◌==◌, nat_lt}
use Rattle.std.specs.List.{list_all}
use Rattle.serde_json.specs.Data.{items_depth}
use Rattle.serde_json.specs.View.{items_of}
use Rattle.serde_json.specs.Written.{items_have_float}
use Rattle.serde_json.proofs.OnLiterals.{serde_json_on_literals}
use Rattle.digest.specs.Digest.{IsDigest}
use Rattle.backup_config.specs.BackupCfgs.{block_data}
use Rattle.backup_config.specs.Kinds.{block_in, and_blocks, blocks_of}
use Rattle.backup_config.specs.Lists.{listed_from, AreOnce, checksum_at, pages_of, AreEntries}
use Rattle.backup_config.specs.declared.list.ListedBlock.{ListedBlock}

abbrev Listed : Type 0
Listed = List (Option (List ℕ))

-- ---- the pages

-- a page before the first is not listed
none_before : (blocks : Listed) (p q : ℕ) → p < q → checksum_at (listed_from q blocks) p ≡ None
unfolding listed_from checksum_at
none_before [] p q low = refl
none_before (None ∷ more) p q low = none_before more p (q + 1) (omega arith)
none_before (Some c ∷ more) p q low = rw (ne_eqb q p (λ e. omega (arith, e))) (none_before more p (q + 1) (omega arith))

listed_at : (blocks : Listed) (p i : ℕ) → checksum_at (listed_from p blocks) (p + i) ≡ get_or blocks i None
unfolding listed_from checksum_at
listed_at [] p i = refl
listed_at (None ∷ more) p zero = none_before more (p + 0) (p + 1) (omega arith)
listed_at (None ∷ more) p (suc i) =
    ap (checksum_at (listed_from (p + 1) more)) (omega arith) ∙ listed_at more (p + 1) i
listed_at (Some c ∷ more) p zero = rw (eq-eqb p (p + 0) (omega arith)) refl
listed_at (Some c ∷ more) p (suc i) =
    rw (ne_eqb p (p + suc i) (λ e. omega (arith, e))) (ap (checksum_at (listed_from (p + 1) more)) (omega arith) ∙ listed_at more (p + 1) i)

pub pages_back : (blocks : Listed) → pages_of (length blocks) (listed_from 0 blocks) ≡ blocks
pages_back blocks =
    let size : length (pages_of (length blocks) (listed_from 0 blocks)) ≡ length blocks =
    length-map-range_with_len (checksum_at (listed_from 0 blocks)) 0 (length blocks) in
    ext_get_or None (pages_of (length blocks) (listed_from 0 blocks)) blocks size
    (λ i low.
    let within : i < length blocks = omega (arith, low, size) in
    get_or-map-range_with_len (checksum_at (listed_from 0 blocks)) 0 (length blocks) i (0 + i) None within refl ∙ listed_at blocks 0 i)

-- ---- none twice

-- a page before the first is that of none
abbrev IsOther : ℕ → ListedBlock → Type 0
IsOther p o = p ≢ o.page

later : (blocks : Listed) (p q : ℕ) → p < q → All (IsOther p) (listed_from q blocks)
unfolding listed_from
later [] p q low = All-nil (IsOther p)
later (None ∷ more) p q low = later more p (q + 1) (omega arith)
later (Some x ∷ more) p q low =
    All-cons (IsOther p) (record { page = q; checksum = x }) (listed_from (q + 1) more) (λ e. omega (arith, e, low))
    (later more p (q + 1) (omega arith))

pub once_listed : (blocks : Listed) (p : ℕ) → AreOnce (listed_from p blocks)
unfolding listed_from
once_listed [] p = λ i j d before within. absurd (omega (arith, within))
once_listed (None ∷ more) p = once_listed more (p + 1)
once_listed (Some c ∷ more) p =
    AllPairs-cons (λ (a b : ListedBlock). a.page ≢ b.page) (record { page = p; checksum = c }) (listed_from (p + 1) more)
    (later more p (p + 1) (omega arith)) (once_listed more (p + 1))

-- ---- within the disk

below : (p n : ℕ) → p < n → nat_lt p n ≡ true
below p n low = search (rules, arith)

pub within_listed : (blocks : Listed) (p n : ℕ) → p + length blocks ≤ n
    → list_all (λ (b : ListedBlock). nat_lt b.page n) (listed_from p blocks) ≡ true
unfolding listed_from
within_listed [] p n low = refl
within_listed (None ∷ more) p n low = within_listed more (p + 1) n (omega arith)
within_listed (Some c ∷ more) p n low = rw (below p n (omega arith), within_listed more (p + 1) n (omega arith)) refl

-- ---- the blocks

block_back : (b : ListedBlock) → IsDigest b.checksum → block_in (block_data b) ≡ Some b
unfolding serde_json_on_literals
block_back b good = rw (ap (λ n. n == 64) good.size, good.digits, whole b.page, back b.page) refl
  where
    whole : (n : ℕ) → (n * 2097152 % 2097152 == 0) ≡ true
    whole n = search (rules, arith)

    back : (n : ℕ) → n * 2097152 / 2097152 ≡ n
    back n = omega arith

pub blocks_back : (blocks : Listed) (p : ℕ) → AreEntries blocks
    → blocks_of (items_of (map block_data (listed_from p blocks))) ≡ Some (listed_from p blocks)
unfolding listed_from blocks_of
blocks_back [] p good = refl
blocks_back (None ∷ more) p good = blocks_back more (p + 1) (λ k low. good (suc k) (omega (arith, low)))
blocks_back (Some c ∷ more) p good =
    let b : ListedBlock = record { page = p; checksum = c } in
    ap (λ o. and_blocks o (blocks_of (items_of (map block_data (listed_from (p + 1) more))))) (block_back b (good 0 (omega arith)))
    ∙ ap (and_blocks (Some b)) (blocks_back more (p + 1) (λ k low. good (suc k) (omega (arith, low))))

pub shallow : (blocks : List ListedBlock) → items_depth (items_of (map block_data blocks)) ≤ 1
shallow [] = omega arith
shallow (b ∷ more) = omega (arith, shallow more)

pub no_float : (blocks : List ListedBlock) → items_have_float (items_of (map block_data blocks)) ≡ false
no_float [] = refl
no_float (b ∷ more) = no_float more
