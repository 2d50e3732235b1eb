-- From where a backup starts every page is kept that does not have to be read.
use Rattle.std.proofs.Common.{◌≡◌, ◌⊎◌, ℕ, zero, suc, ◌*◌, ◌<◌, ◌≤◌, Bool, true, true≢false, List, [], ◌∷◌, length, get_or, replicate}
use Rattle.std.proofs.Common.{Option, None, Some, inl, inr, ⊎_elim, refl, sym, ap, subst, ◌∙◌, arith}
use Rattle.vol_units.specs.Bytes.{zeros}
use Rattle.target_traits.specs.Objects.{Objects}
use Rattle.backup_units.specs.Backups.{page_at, listed_of, listed_at, IsKept, IsBackup, HoldsPage}
use Rattle.backup_units.specs.Blocks.{page_bytes, is_zeros}
use Rattle.backup_make.specs.Giving.{Copies, CoversDisk, Drops}
use Rattle.backup_make.specs.Making.{KeptElse, IsBaseIf, IsStart, listed_in}
use Rattle.backup_make.specs.declared.giver.Pages.{Pages}
use Rattle.backup_make.specs.declared.giver.Pages.TheVariants.{All, Above}
use Rattle.backup_make.proofs.KeptLemmas.{listed_zeros}

abbrev Listed : Type 0
Listed = List (Option (List ℕ))

replicate_zeros : (n : ℕ) → is_zeros (replicate n 0) ≡ true
replicate_zeros zero = refl
replicate_zeros (suc n) = replicate_zeros n

are_zeros : (n : ℕ) → is_zeros (zeros n) ≡ true
unfolding zeros
are_zeros n = replicate_zeros n

-- a page of zeros, of which nothing is listed
zero_kept : (tells : Bool) (objects : Objects) (volume disk : List ℕ) (listed : Listed) (page : ℕ)
    → page_at disk page ≡ zeros page_bytes → listed_at listed page ≡ None → IsKept tells objects volume disk listed page
zero_kept tells objects volume disk listed page blank none =
    let all : is_zeros (page_at disk page) ≡ true = ap is_zeros blank ∙ are_zeros page_bytes in
    record {
      entry = none ∙ listed_zeros (page_at disk page) all;
      held = λ t some. absurd (true≢false (sym all ∙ some));
    }

past_end : (xs : Listed) (i : ℕ) → length xs ≤ i → get_or xs i None ≡ None
past_end [] zero past = refl
past_end [] (suc i) past = refl
past_end (x ∷ xs) zero past = absurd (omega arith)
past_end (x ∷ xs) (suc i) past = past_end xs i (omega arith)

-- a base that is live had its copy before
still : (o : Option (List ℕ)) (n : Option (List ℕ)) (disk : List ℕ) → (n ≡ o) ⊎ (n ≡ None) → n ≡ Some disk → o ≡ Some disk
still o n disk (inl same) is = sym same ∙ is
still o n disk (inr none) is = absurd (differ (sym none ∙ is))
  where
    differ : {A : Type 0} {x : A} → None ≡ Some x → ⊥
    differ e = cc

split : (a b : ℕ) → (a < b) ⊎ (b ≤ a)
split zero zero = inr (omega arith)
split zero (suc b) = inl (omega arith)
split (suc a) zero = inr (omega arith)
split (suc a) (suc b) = ⊎_elim (λ h. inl (omega (arith, h))) (λ h. inr (omega (arith, h))) (split a b)

-- a page as in the base's copy, and what the base lists of it
base_kept : (tells : Bool) (objects : Objects) (volume disk old : List ℕ) (base listed : Listed) (page : ℕ)
    → IsBackup tells objects volume old base → listed_at listed page ≡ listed_at base page
    → (page * page_bytes < length old → page_at disk page ≡ page_at old page)
    → (length old ≤ page * page_bytes → page_at disk page ≡ zeros page_bytes)
    → IsKept tells objects volume disk listed page
base_kept tells objects volume disk old base listed page is same within past =
    ⊎_elim
    (λ low.
    let bytes = within (omega (arith, is.size, low)) in
    let kept = is.pages page low in
    record {
      entry = same ∙ kept.entry ∙ ap listed_of (sym bytes);
      held = λ t. subst (λ b. HoldsPage objects volume b) (sym bytes) (kept.held t);
    })
    (λ high. zero_kept tells objects volume disk listed page (past (omega (arith, is.size, high))) (same ∙ past_end base page high))
    (split page (length base))

pub start_kept : (tells : Bool) (objects : Objects) (volume disk : List ℕ) (old new : Copies) (name : Option (List ℕ))
    (base : Option Listed) (pages : Pages) (count : ℕ) (listed : Listed) → length disk ≡ count * page_bytes
    → IsStart pages base count listed → Drops name old new → IsBaseIf tells objects volume old name base
    → CoversDisk new name disk pages → KeptElse tells objects volume disk listed 0 (listed_in pages)
start_kept tells objects volume disk old new name base (All pages) count listed size start drops is covers page low none =
    zero_kept tells objects volume disk listed page
    (covers.1 page (omega (arith, start.size, size, low)) none) (start.entries page (omega (arith, start.size, low)))
start_kept tells objects volume disk old new None base (Above pages) count listed size start drops is covers page low none =
    absurd covers
start_kept tells objects volume disk old new (Some name) None (Above pages) count listed size start drops is covers page low none =
    absurd is
start_kept tells objects volume disk old new (Some name) (Some base) (Above pages) count listed size start drops is covers page low
    none =
    let copy = covers.1.0 in
    let there = covers.1.1 in
    let of_base = covers.1.2 page (omega (arith, start.size, size, low)) none in
    base_kept tells objects volume disk copy base listed page (is copy (still (old name) (new name) copy drops there))
    (start.entries page (omega (arith, start.size, low))) of_base.0 of_base.1
