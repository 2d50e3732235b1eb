-- Bits, as what is listed.
use Rattle.std.proofs.Common.{◌≡◌, ⊎_elim, ◌⊎◌, inl, inr, ℕ, zero, suc, ◌+◌, ◌*◌, ◌/◌, ◌%◌, ◌<◌, Bool, true, false}
use Rattle.std.proofs.Common.{nat_lt, List, [], ◌∷◌, length, replicate, get_or, set, get_or-set_other, refl, sym, ap}
use Rattle.std.proofs.Common.{◌∙◌, arith, cond}
use Rattle.std.specs.Prelude.{◌&&◌, Contains}
use Rattle.std.specs.Str.{bytes_eq}
use Rattle.std.proofs.lemmas.Bool.{cases_eq, cases_lt, false≢true}
use Rattle.std.proofs.lemmas.Bool.Decides.{nat_tests}
use Rattle.std.proofs.lemmas.List.{get_or-replicate, get_or_past, length-replicate}
use Rattle.std.proofs.lemmas.Nat.{div-mul-add, mod-mul-add}
use Rattle.std.proofs.lemmas.Slice.Eq.{bytes_eq-Decides}
use Rattle.open_rebuild.specs.Rebuild.{HasNoPage, ListsPage, IsAllCopied}
use Rattle.open_rebuild.specs.Listed.{flag_at, AreListed, IsSought, place_of, is_listed_in}

and_both : (a b : Bool) → (a && b) ≡ true → (a ≡ true) × (b ≡ true)
and_both true b e = (refl, e)
and_both false b e = absurd (false≢true e)

no_bit : (n place : ℕ) → flag_at (replicate n false) place ≡ false
no_bit n place = ⊎_elim
    (λ l. get_or-replicate n place false false l)
    (λ l. get_or_past (replicate n false) place false (omega (arith, length-replicate {A = Bool} n false, l)))
    (cases_lt place n)

pub sought_none : (n : ℕ) → IsSought (replicate n false) 0
sought_none n = record { within = omega arith; before = λ place h. absurd (omega (arith, h)); left = λ _. no_bit n 0 }

-- none is listed at first
pub none_listed : (frozen : List (List ℕ)) (pages n : ℕ) → HasNoPage (is_listed_in frozen pages (replicate n false))
none_listed frozen pages n name page e =
    false≢true (sym (no_bit n (place_of frozen name * pages + page))
    ∙ (and_both (nat_lt page pages) (flag_at (replicate n false) (place_of frozen name * pages + page)) e).1)

-- a bit that is there after one was set
bit_after : (bits : List Bool) (p q : ℕ) → flag_at (set bits p true) q ≡ true → (flag_at bits q ≡ true) ⊎ (q ≡ p)
bit_after bits p q e = ⊎_elim (λ same. inr same) (λ other. inl (sym (get_or-set_other bits p q true false other) ∙ e)) (cases_eq q p)

-- a name is told by its place
place_told : (frozen : List (List ℕ)) (a b : List ℕ) → place_of frozen a < length frozen → place_of frozen a ≡ place_of frozen b → a ≡ b
unfolding place_of
place_told [] a b h e = absurd (omega (arith, h))
place_told (x ∷ xs) a b h e = go (bytes_eq a x) (bytes_eq b x) refl refl (λ k f. place_told xs a b k f) h e
  where
    go : (p q : Bool) → bytes_eq a x ≡ p → bytes_eq b x ≡ q → (place_of xs a < length xs → place_of xs a ≡ place_of xs b → a ≡ b)
        → cond p 0 (suc (place_of xs a)) < length (x ∷ xs) → cond p 0 (suc (place_of xs a)) ≡ cond q 0 (suc (place_of xs b)) → a ≡ b
    go true true is_a is_b rest k f = (bytes_eq-Decides a x).0 is_a ∙ sym ((bytes_eq-Decides b x).0 is_b)
    go true false is_a is_b rest k f = absurd (omega (arith, f))
    go false true is_a is_b rest k f = absurd (omega (arith, f))
    go false false is_a is_b rest k f = rest (omega (arith, k)) (omega (arith, f))

-- a name that is there has a place
pub placed : (frozen : List (List ℕ)) (name : List ℕ) → Contains frozen name → place_of frozen name < length frozen
unfolding place_of
placed [] name c = absurd (omega (arith, c.1))
placed (x ∷ xs) name c = go (bytes_eq name x) refl (λ d. placed xs name d)
  where
    later : bytes_eq name x ≡ false → (i : ℕ) → i < length (x ∷ xs) → get_or (x ∷ xs) i name ≡ name → Contains xs name
    later other zero h e = absurd (false≢true (sym other ∙ (bytes_eq-Decides name x).1 (sym e)))
    later other (suc i) h e = (i, omega (arith, h), e)

    go : (b : Bool) → bytes_eq name x ≡ b → (Contains xs name → place_of xs name < length xs)
        → cond b 0 (suc (place_of xs name)) < length (x ∷ xs)
    go true is rest = omega arith
    go false is rest = omega (arith, rest (later is c.0 c.1 c.2))

same_place : (pages a b p q : ℕ) → p < pages → q < pages → a * pages + p ≡ b * pages + q → (a ≡ b) × (p ≡ q)
same_place pages a b p q h k e = (
  sym (div-mul-add a pages p h) ∙ ap (λ n. n / pages) e ∙ div-mul-add b pages q k,
  sym (mod-mul-add a pages p h) ∙ ap (λ n. n % pages) e ∙ mod-mul-add b pages q k,
)

-- the page at the place of its layer is listed, and no other
pub page_listed : (frozen : List (List ℕ)) (pages : ℕ) (bits : List Bool) (name : List ℕ) (page : ℕ) → Contains frozen name → page < pages
    → ListsPage (is_listed_in frozen pages bits) (is_listed_in frozen pages (set bits (place_of frozen name * pages + page) true)) name page
page_listed frozen pages bits name page there inside other p e =
    let both = and_both (nat_lt p pages)
    (flag_at (set bits (place_of frozen name * pages + page) true) (place_of frozen other * pages + p)) e in
    let within : p < pages = grind (arith, nat_tests, both.0) in
    ⊎_elim
    (λ was. inl (ap (λ b. b && flag_at bits (place_of frozen other * pages + p)) both.0 ∙ was))
    (λ here.
    let same = same_place pages (place_of frozen other) (place_of frozen name) p page within inside here in
    inr (sym (place_told frozen name other (placed frozen name there) (sym same.0)), same.1))
    (bit_after bits (place_of frozen name * pages + page) (place_of frozen other * pages + p) both.1)

one_more : (b n : ℕ) → suc b * n ≡ n + b * n
one_more b n = omega arith

within_pages : (a b n p : ℕ) → a < b → p < n → a * n + p < b * n
within_pages a zero n p h k = absurd (omega (arith, h))
within_pages a (suc b) n p h k = ⊎_elim
    (λ l. omega (arith, within_pages a b n p l k, one_more b n))
    (λ g. let same : a ≡ b = omega (arith, h, g) in omega (arith, k, one_more b n, ap (λ m. m * n) same))
    (cases_lt a b)

-- once all bits are set, each page of each layer is listed
pub all_listed : (frozen : List (List ℕ)) (pages count : ℕ) (bits : List Bool) → count ≡ pages * 512
    → length bits ≡ length frozen * pages → AreListed bits (length bits)
    → IsAllCopied count frozen (is_listed_in frozen pages bits)
all_listed frozen pages count bits size long all name block there inside =
    let page : block / 512 < pages = omega (arith, size, inside) in
    let place : place_of frozen name * pages + block / 512 < length bits =
    omega (
      arith,
      long,
      within_pages (place_of frozen name) (length frozen) pages (block / 512) (placed frozen name there)
          page,
    ) in
    let is : nat_lt (block / 512) pages ≡ true = grind (arith, nat_tests, page) in
    ap (λ b. b && flag_at bits (place_of frozen name * pages + block / 512)) is ∙ all (place_of frozen name * pages + block / 512) place
