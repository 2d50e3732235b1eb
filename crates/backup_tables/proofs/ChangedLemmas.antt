-- A list of the pages in which two copies differ, one page longer.
use Rattle.std.proofs.Common.{◌≡◌, ◌≢◌, ℕ, ◌+◌, ◌-◌, ◌*◌, ◌<◌, ◌≤◌, List, [], ◌∷◌, ◌++◌, length, get_or, take, replicate}
use Rattle.std.proofs.Common.{refl, ap, sym, ◌∙◌, arith, length-append, ⊎_elim}
use Rattle.std.proofs.Common.{Result, Ok, Err, IfOk}
use Rattle.std.specs.List.{slice_range}
use Rattle.vol_units.specs.Bytes.{zeros}
use Rattle.backup_units.specs.Blocks.{page_bytes}
use Rattle.std.proofs.Math.ListN.{get_or-append}
use Rattle.std.proofs.Math.Seq.{get_or-append_seam}
use Rattle.std.proofs.lemmas.Bool.{cases_eq}
use Rattle.std.proofs.lemmas.List.{drop-replicate, take-replicate, length-replicate}
use Rattle.backup_units.specs.Backups.{page_at}
use Rattle.backup_make.specs.Giving.{Else, IsNotFrom}

-- the pages below that one are as in the other copy, but for those in the list
abbrev pub AreSame : List ℕ → List ℕ → List ℕ → ℕ → Type 0
AreSame disk old pages count = (k : ℕ) → k < count → IsNotFrom 0 pages k → page_at disk k ≡ page_at old k

-- each page in the list is below that one
abbrev pub AreBelow : List ℕ → ℕ → Type 0
AreBelow pages count = (i : ℕ) → i < length pages → get_or pages i 0 < count

pub same_pushed : (disk old pages : List ℕ) (page : ℕ) → AreSame disk old pages page → AreSame disk old (pages ++ page ∷ []) (page + 1)
same_pushed disk old pages page same k low none =
    let apart : k ≢ page = λ e.
    none (length pages) (omega arith) (omega (arith, length-append pages (page ∷ []))) (get_or-append_seam pages page [] 0 ∙ sym e) in
    same k (omega (arith, low, apart)) (λ i from past e.
    none i from (omega (arith, past, length-append pages (page ∷ []))) (get_or-append pages (page ∷ []) 0 i past ∙ e))

pub same_next : (disk old pages : List ℕ) (page : ℕ) → page_at disk page ≡ page_at old page → AreSame disk old pages page
    → AreSame disk old pages (page + 1)
same_next disk old pages page here same k low none =
    ⊎_elim (λ e. ap (page_at disk) e ∙ here ∙ sym (ap (page_at old) e)) (λ apart. same k (omega (arith, low, apart)) none)
    (cases_eq k page)

pub below_pushed : (pages : List ℕ) (page : ℕ) → AreBelow pages page → AreBelow (pages ++ page ∷ []) (page + 1)
below_pushed pages page below i low =
    ⊎_elim (λ e. omega (arith, ap (λ n. get_or (pages ++ page ∷ []) n 0) e, get_or-append_seam pages page [] 0))
    (λ apart.
    let past : i < length pages = omega (arith, low, apart, length-append pages (page ∷ [])) in
    omega (arith, get_or-append pages (page ∷ []) 0 i past, below i past))
    (cases_eq i (length pages))

pub below_next : (pages : List ℕ) (page : ℕ) → AreBelow pages page → AreBelow pages (page + 1)
below_next pages page below i low = omega (arith, below i low)

-- a page of a disk of zeros
piece : (n a m : ℕ) → a + m ≤ n → slice_range {X = ℕ} (replicate n 0) a (a + m) ≡ replicate m 0
piece n a m within =
    ap (take (a + m - a)) (drop-replicate a n 0) ∙ take-replicate (a + m - a) (n - a) 0 (omega arith)
    ∙ ap (λ k. replicate k 0) (omega arith)

pub blank_page : (n page : ℕ) → page * page_bytes + page_bytes ≤ n → page_at (zeros n) page ≡ zeros page_bytes
unfolding zeros
blank_page n page within = piece n (page * page_bytes) page_bytes within

pub zeros_are : (n : ℕ) → replicate n 0 ≡ zeros n
unfolding zeros
zeros_are n = refl

pub zeros_length : (n : ℕ) → length (zeros n) ≡ n
unfolding zeros
zeros_length n = length-replicate n 0

pub else_zeros : (disk blank pages : List ℕ) (count : ℕ) → blank ≡ zeros (length disk) → length disk ≡ count * page_bytes
    → Else pages disk (λ page bytes. bytes ≡ page_at blank page) → Else pages disk (λ _ bytes. bytes ≡ zeros page_bytes)
else_zeros disk blank pages count is size same page low none =
    same page low none ∙ ap (λ b. page_at b page) is ∙ blank_page (length disk) page (omega (arith, size, low))

pub weaker : {T E : Type 0} (P Q : T → Type 0) (r : Result T E) → ((x : T) → P x → Q x) → IfOk r P → IfOk r Q
weaker P Q (Ok x) f h = f x h
weaker P Q (Err e) f h = tt
