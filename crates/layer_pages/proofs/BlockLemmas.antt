-- A page is made of its blocks.
use Rattle.std.proofs.Common.{◌≡◌, ℕ, zero, suc, ◌+◌, ◌-◌, ◌*◌, ◌/◌, ◌<◌, List, [], ◌++◌, take, drop, refl, sym, ap, ◌∙◌, arith}
use Rattle.std.proofs.lemmas.List.{replicate-append-replicate}
use Rattle.vol_units.specs.Bytes.{zeros, bytes_at}
use Rattle.vol_units.proofs.BytesLemmas.{bytes_at-append}
use Rattle.replica_node.specs.Held.{block_of}
use Rattle.layer_pages.specs.Pages.{page_of}

empty_run : (x : List ℕ) (at : ℕ) → bytes_at x at 0 ≡ []
empty_run x at = let none : at + 0 - at ≡ 0 = omega arith in ap (λ m. take m (drop at x)) none

one_more : (x : List ℕ) (first n : ℕ)
    → bytes_at x (first * 4096) (n * 4096) ++ block_of x (first + n) ≡ bytes_at x (first * 4096) (suc n * 4096)
one_more x first n =
    let next : n * 4096 + 4096 ≡ suc n * 4096 = omega arith in
    bytes_at-append x (first * 4096) (n * 4096) 4096 ((first + n) * 4096) (omega arith) ∙ ap (bytes_at x (first * 4096)) next

same_run : (x y : List ℕ) (first n : ℕ) → ((i : ℕ) → i < n → block_of x (first + i) ≡ block_of y (first + i))
    → bytes_at x (first * 4096) (n * 4096) ≡ bytes_at y (first * 4096) (n * 4096)
same_run x y first zero same = empty_run x (first * 4096) ∙ sym (empty_run y (first * 4096))
same_run x y first (suc n) same =
    sym (one_more x first n)
    ∙ ap (λ l. l ++ block_of x (first + n)) (same_run x y first n (λ i less. same i (omega (arith, less))))
    ∙ ap (λ l. bytes_at y (first * 4096) (n * 4096) ++ l) (same n (omega arith))
    ∙ one_more y first n

no_zeros : zeros 0 ≡ []
unfolding zeros
no_zeros = refl

zeros_more : (m n : ℕ) → zeros m ++ zeros n ≡ zeros (m + n)
unfolding zeros
zeros_more m n = replicate-append-replicate m n 0

zero_run : (x : List ℕ) (first n : ℕ) → ((i : ℕ) → i < n → block_of x (first + i) ≡ zeros 4096)
    → bytes_at x (first * 4096) (n * 4096) ≡ zeros (n * 4096)
zero_run x first zero same = empty_run x (first * 4096) ∙ sym no_zeros
zero_run x first (suc n) same =
    let next : n * 4096 + 4096 ≡ suc n * 4096 = omega arith in
    sym (one_more x first n)
    ∙ ap (λ l. l ++ block_of x (first + n)) (zero_run x first n (λ i less. same i (omega (arith, less))))
    ∙ ap (λ l. zeros (n * 4096) ++ l) (same n (omega arith))
    ∙ zeros_more (n * 4096) 4096 ∙ ap zeros next

page_start : (page : ℕ) → page * 2097152 ≡ page * 512 * 4096
page_start page = omega arith

-- two disks that have the same blocks of a page have the same page
pub same_page : (x y : List ℕ) (page : ℕ) → ((block : ℕ) → block / 512 ≡ page → block_of x block ≡ block_of y block)
    → page_of x page ≡ page_of y page
same_page x y page same =
    ap (λ at. bytes_at x at 2097152) (page_start page)
    ∙ same_run x y (page * 512) 512 (λ i less. same (page * 512 + i) (omega (arith, less)))
    ∙ ap (λ at. bytes_at y at 2097152) (sym (page_start page))

-- and one that has zeros there has a page of zeros
pub zero_page : (x : List ℕ) (page : ℕ) → ((block : ℕ) → block / 512 ≡ page → block_of x block ≡ zeros 4096)
    → page_of x page ≡ zeros 2097152
zero_page x page same =
    ap (λ at. bytes_at x at 2097152) (page_start page)
    ∙ zero_run x (page * 512) 512 (λ i less. same (page * 512 + i) (omega (arith, less)))
