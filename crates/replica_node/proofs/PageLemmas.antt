-- A page of a disk that reads otherwise.
use Rattle.std.proofs.Common.{◌≡◌, ◌≢◌, ℕ, zero, suc, ◌+◌, ◌-◌, ◌*◌, ◌/◌, ◌<◌, ◌≤◌, List, ◌++◌, length, take, drop}
use Rattle.std.proofs.Common.{sym, refl, ap, ◌∙◌, arith, append_assoc, append-nil}
use Rattle.std.proofs.Math.Seq.{take-append_seam, drop-append_seam, drop-append-add}
use Rattle.vol_units.specs.Bytes.{bytes_at, with_bytes_at}
use Rattle.sparse_image.specs.Disk.{joined}
use Rattle.sparse_image.proofs.DiskLemmas.{joined-same, length-joined}
use Rattle.replica_node.specs.Fold.{with_page_of}
use Rattle.replica_node.proofs.ReadLemmas.{part_at}

-- the lists of the numbers below a sum, cut
joined-cut : (f : ℕ → List ℕ) (a b : ℕ) → joined f (a + b) ≡ joined f a ++ joined (λ k. f (a + k)) b
unfolding joined
joined-cut f a zero =
    let none : a + 0 ≡ a = omega arith in
    ap (joined f) none ∙ sym (append-nil (joined f a))
joined-cut f a (suc b) =
    let more : a + suc b ≡ suc (a + b) = omega arith in
    ap (joined f) more ∙ ap (λ l. l ++ f (a + b)) (joined-cut f a b) ∙ append_assoc (joined f a) (joined (λ k. f (a + k)) b) (f (a + b))

-- a part between two others is put over the same part
part_put : (xs ys zs us vs ws : List ℕ) (at size : ℕ) → length xs ≡ at → length us ≡ at → length ys ≡ size → length vs ≡ size
    → with_bytes_at (xs ++ ys ++ zs) at (bytes_at (us ++ vs ++ ws) at size) ≡ xs ++ vs ++ zs
part_put xs ys zs us vs ws at size x u y v =
    let long : at + length vs ≡ length xs + length ys = omega (arith, x, y, v) in
    let front : take at (xs ++ ys ++ zs) ≡ xs =
    ap (take at) (append_assoc xs ys zs) ∙ ap (λ n. take n (xs ++ (ys ++ zs))) (sym x) ∙ take-append_seam xs (ys ++ zs) in
    let back : drop (at + length vs) (xs ++ ys ++ zs) ≡ zs =
    ap (λ n. drop n (xs ++ ys ++ zs)) long ∙ ap (drop (length xs + length ys)) (append_assoc xs ys zs)
    ∙ drop-append-add xs (ys ++ zs) (length ys) ∙ drop-append_seam ys zs in
    ap (with_bytes_at (xs ++ ys ++ zs) at) (part_at (us ++ vs ++ ws) us vs ws at size refl u v)
    ∙ ap (λ l. l ++ vs ++ drop (at + length vs) (xs ++ ys ++ zs)) front
    ∙ ap (λ l. xs ++ vs ++ l) back

-- which page a block is of
in_page : (page k : ℕ) → k < 512 → (page * 512 + k) / 512 ≡ page
in_page page k h = omega arith

before_page : (page k : ℕ) → k < page * 512 → k / 512 ≢ page
before_page page k h = λ e. omega arith

behind_page : (page k : ℕ) → page * 512 + 512 ≤ k → k / 512 ≢ page
behind_page page k h = λ e. omega arith

-- blocks that are those of g in a page, and those of f elsewhere, are f's disk with that page of g's
pub joined-page : (f g h : ℕ → List ℕ) (count page : ℕ) → page * 512 + 512 ≤ count → ((k : ℕ) → length (f k) ≡ 4096)
    → ((k : ℕ) → length (g k) ≡ 4096)
    → ((k : ℕ) → k / 512 ≡ page → h k ≡ g k) → ((k : ℕ) → k / 512 ≢ page → h k ≡ f k)
    → joined h count ≡ with_page_of page (joined g count) (joined f count)
joined-page f g h count page room whole_f whole_g inside outside =
    let first = page * 512 in
    let rest = count - (first + 512) in
    let all : count ≡ first + 512 + rest = omega arith in
    let part = λ (u : ℕ → List ℕ). joined (λ k. u (first + k)) 512 in
    let back = λ (u : ℕ → List ℕ). joined (λ k. u (first + 512 + k)) rest in
    let cut : (u : ℕ → List ℕ) → joined u count ≡ joined u first ++ part u ++ back u =
    λ u. ap (joined u) all ∙ joined-cut u (first + 512) rest ∙ ap (λ l. l ++ back u) (joined-cut u first 512) in
    let size : 512 * 4096 ≡ 2097152 = refl in
    let bytes : first * 4096 ≡ page * 2097152 = omega arith in
    cut h
    ∙ ap (λ l. l ++ part h ++ back h) (joined-same f h first (λ k b. outside k (before_page page k b)))
    ∙ ap (λ l. joined f first ++ l ++ back h)
    (joined-same (λ k. g (first + k)) (λ k. h (first + k)) 512 (λ k b. inside (first + k) (in_page page k b)))
    ∙ ap (λ l. joined f first ++ part g ++ l) (joined-same (λ k. f (first + 512 + k)) (λ k. h (first + 512 + k)) rest
    (λ k b. outside (first + 512 + k) (behind_page page (first + 512 + k) (omega arith))))
    ∙ sym (part_put (joined f first) (part f) (back f) (joined g first) (part g) (back g) (page * 2097152) 2097152
    (length-joined f first whole_f ∙ bytes) (length-joined g first whole_g ∙ bytes)
    (length-joined (λ k. f (first + k)) 512 (λ k. whole_f (first + k)) ∙ size)
    (length-joined (λ k. g (first + k)) 512 (λ k. whole_g (first + k)) ∙ size))
    ∙ ap (λ l. with_page_of page l (joined f first ++ part f ++ back f)) (sym (cut g))
    ∙ ap (with_page_of page (joined g count)) (sym (cut f))
