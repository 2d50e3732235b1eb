-- Names in the order of bytes, each once.
use Rattle.std.proofs.Common.{◌≡◌, ⊎_elim, ◌⊎◌, inl, inr, ℕ, zero, suc, ◌+◌, ◌-◌, ◌<◌, ◌≤◌, Bool, true, false, cond}
use Rattle.std.proofs.Common.{List, [], ◌∷◌, ◌++◌, length, take, get_or, refl, sym, ap, subst, ◌∙◌, arith}
use Rattle.std.specs.Prelude.{◌↔◌, Contains}
use Rattle.std.specs.Cmp.Lexicographic.{slice_cmp, nat_list_cmp_total}
use Rattle.std.specs.List.{insert}
use Rattle.std.specs.List.Sorted.{IsNonDecreasingBy, IsPartitionPoint}
use Rattle.std.specs.Ordering.{nat_cmp, is_lt, ordering_index, ordering_reverse}
use Rattle.std.specs.Str.{bytes_eq}
use Rattle.std.specs.declared.cmp.Ordering.TheVariants.{Less, Equal, Greater}
use Rattle.std.proofs.Math.Seq.{take-suc}
use Rattle.std.proofs.lemmas.Bool.{cases_eq, cases_lt, false≢true}
use Rattle.std.proofs.lemmas.List.{get_or_default}
use Rattle.std.proofs.lemmas.List.Edits.{length-insert, get_or-insert_at, get_or-insert_below, get_or-insert_above}
use Rattle.std.proofs.lemmas.List.Sorted.{Contains-permutation, IsPermutation-insert, IsPermutation-sym}
use Rattle.std.proofs.lemmas.List.Sorted.{IsPermutation-to_front, searchable_from_sorted}
use Rattle.std.proofs.lemmas.Map.Lookups.{exact_bytes}
use Rattle.std.proofs.lemmas.Slice.Eq.{bytes_eq-Decides}
use Rattle.volume_model.specs.Purge.{is_before}
use Rattle.volume_model.proofs.PurgeLemmas.{before_itself, before_trans}
use Rattle.open_rebuild.specs.Listed.{place_of}
use Rattle.open_rebuild.specs.Frozen.{AreFrozen, IsInByteOrder, AddsName}
use Rattle.open_rebuild.proofs.PlaceLemmas.{place_at}

-- ---- places

-- a name that is not among them has the place behind the last
pub place_there : (names : List (List ℕ)) (name : List ℕ) → place_of names name < length names → Contains names name
unfolding place_of
place_there [] name h = absurd (omega (arith, h))
place_there (x ∷ xs) name h = go (bytes_eq name x) refl (place_there xs name) h
  where
    go : (b : Bool) → bytes_eq name x ≡ b → (place_of xs name < length xs → Contains xs name)
        → cond b 0 (suc (place_of xs name)) < length (x ∷ xs) → Contains (x ∷ xs) name
    go true is rest k = (0, omega arith, sym ((bytes_eq-Decides name x).0 is))
    go false is rest k = let c = rest (omega (arith, k)) in (suc c.0, omega (arith, c.1), c.2)

-- in order each name's place is where it stands
pub place_in_order : (names : List (List ℕ)) (i : ℕ) → i < length names → IsInByteOrder names → place_of names (get_or names i []) ≡ i
place_in_order names i h order =
    place_at names (get_or names i []) i h
    (λ k l e. false≢true (sym (before_itself (get_or names i [])) ∙ subst (λ n. is_before n (get_or names i []) ≡ true) e (order k i l h)))
    refl

-- ---- one name more

-- a name that is there already
pub added_found : (names : List (List ℕ)) (name : List ℕ) (i : ℕ) → i < length names
    → slice_cmp nat_cmp (get_or names i []) name ≡ Equal → IsInByteOrder names → AddsName names names name
added_found names name i h e order = record {
  names = λ n. (λ c. (suc c.0, omega (arith, c.1), c.2), λ c. with_it n c.0 c.1 c.2);
  order = order;
  few = omega arith;
}
  where
    same : get_or names i [] ≡ name
    same = exact_bytes (get_or names i []) name e

    with_it : (n : List ℕ) (k : ℕ) → k < length (name ∷ names) → get_or (name ∷ names) k n ≡ n → Contains names n
    with_it n zero l f = (i, h, get_or_default names i n [] h ∙ same ∙ f)
    with_it n (suc k) l f = (k, omega (arith, l), f)

-- what an inserted name makes of a place
at_place : (names : List (List ℕ)) (i : ℕ) (name : List ℕ) (k : ℕ) → i ≤ length names
    → ((k < i) × (get_or (insert names i name) k [] ≡ get_or names k []))
    ⊎ (((k ≡ i) × (get_or (insert names i name) k [] ≡ name))
    ⊎ ((i < k) × (get_or (insert names i name) k [] ≡ get_or names (k - 1) [])))
at_place names i name k l =
    ⊎_elim
    (λ b. inl (b, get_or-insert_below names i name [] k b l))
    (λ g. ⊎_elim
    (λ e. inr (inl (e, ap (λ j. get_or (insert names i name) j []) e ∙ get_or-insert_at names i name [] l)))
    (λ n. let a : i < k = omega (arith, g, n) in
    inr (inr (
      a,
      ap (λ j. get_or (insert names i name) j []) (omega (arith, a))
          ∙ get_or-insert_above names i name [] (k - 1) (omega (arith, a)) l,
    )))
    (cases_eq k i))
    (cases_lt k i)

greater : (a b : List ℕ) → slice_cmp nat_cmp a b ≡ Greater → is_before b a ≡ true
greater a b e = ap is_lt (nat_list_cmp_total.antisymm b a ∙ ap ordering_reverse e)

-- and one that is not
pub added_new : (names : List (List ℕ)) (name : List ℕ) (i : ℕ) → i ≤ length names
    → ((k : ℕ) → k < i → slice_cmp nat_cmp (get_or names k []) name ≡ Less)
    → ((k : ℕ) → i ≤ k → k < length names → slice_cmp nat_cmp (get_or names k []) name ≡ Greater) → IsInByteOrder names
    → AddsName names (insert names i name) name
added_new names name i l less more order = record {
  names = λ n. (
    λ c. Contains-permutation (insert names i name) (name ∷ names) n
        (IsPermutation-sym (name ∷ names) (insert names i name) (IsPermutation-insert names i name)) c,
    λ c. Contains-permutation (name ∷ names) (insert names i name) n (IsPermutation-insert names i name) c,
  );
  order = λ a b lt within. go a b lt (omega (arith, within, long)) (at_place names i name a l) (at_place names i name b l);
  few = omega (arith, long);
}
  where
    long : length (insert names i name) ≡ length names + 1
    long = length-insert names i name l

    both : (a b x y : List ℕ) → a ≡ x → b ≡ y → is_before x y ≡ true → is_before a b ≡ true
    both a b x y p q r = ap (λ n. is_before n b) p ∙ ap (is_before x) q ∙ r

    go : (a b : ℕ) → a < b → b < length names + 1
        → ((a < i) × (get_or (insert names i name) a [] ≡ get_or names a []))
        ⊎ (((a ≡ i) × (get_or (insert names i name) a [] ≡ name))
        ⊎ ((i < a) × (get_or (insert names i name) a [] ≡ get_or names (a - 1) [])))
        → ((b < i) × (get_or (insert names i name) b [] ≡ get_or names b []))
        ⊎ (((b ≡ i) × (get_or (insert names i name) b [] ≡ name))
        ⊎ ((i < b) × (get_or (insert names i name) b [] ≡ get_or names (b - 1) [])))
        → is_before (get_or (insert names i name) a []) (get_or (insert names i name) b []) ≡ true
    go a b lt w (inl p) (inl q) = both _ _ _ _ p.1 q.1 (order a b lt (omega (arith, q.0, l)))
    go a b lt w (inl p) (inr (inl q)) = both _ _ _ _ p.1 q.1 (ap is_lt (less a p.0))
    go a b lt w (inl p) (inr (inr q)) = both _ _ _ _ p.1 q.1 (order a (b - 1) (omega (arith, p.0, q.0)) (omega (arith, w, q.0)))
    go a b lt w (inr (inl p)) (inl q) = absurd (omega (arith, lt, p.0, q.0))
    go a b lt w (inr (inl p)) (inr (inl q)) = absurd (omega (arith, lt, p.0, q.0))
    go a b lt w (inr (inl p)) (inr (inr q)) =
        both _ _ _ _ p.1 q.1 (greater (get_or names (b - 1) []) name
        (more (b - 1) (omega (arith, q.0)) (omega (arith, w, q.0))))
    go a b lt w (inr (inr p)) (inl q) = absurd (omega (arith, lt, p.0, q.0))
    go a b lt w (inr (inr p)) (inr (inl q)) = absurd (omega (arith, lt, p.0, q.0))
    go a b lt w (inr (inr p)) (inr (inr q)) = both _ _ _ _ p.1 q.1 (order (a - 1) (b - 1) (omega (arith, lt, p.0)) (omega (arith, w, q.0)))

-- ---- where a search finds none

not_back : (a b : List ℕ) → is_before a b ≡ true → is_before b a ≡ false
not_back a b e = go (is_before b a) refl
  where
    go : (x : Bool) → is_before b a ≡ x → is_before b a ≡ false
    go true f = absurd (false≢true (sym (before_itself a) ∙ before_trans a b a e f))
    go false f = f

rises : (names : List (List ℕ)) (name : List ℕ) → IsInByteOrder names
    → IsNonDecreasingBy (λ y. ordering_index (slice_cmp nat_cmp y name)) names
rises names name order = searchable_from_sorted nat_list_cmp_total (λ n. n) names name
    (λ k d _ l. not_back (get_or names k d) (get_or names (k + 1) d)
    (subst (λ n. is_before n (get_or names (k + 1) d) ≡ true) (get_or_default names k [] d (omega (arith, l)))
    (subst (λ n. is_before (get_or names k []) n ≡ true) (get_or_default names (k + 1) [] d l) (order k (k + 1) (omega arith) l))))

pub searched_new : (names : List (List ℕ)) (name : List ℕ) (i : ℕ) → i ≤ length names
    → (IsNonDecreasingBy (λ y. ordering_index (slice_cmp nat_cmp y name)) names
    → IsPartitionPoint (λ y. slice_cmp nat_cmp y name ≡ Less) (λ y. slice_cmp nat_cmp y name ≡ Greater) names i)
    → IsInByteOrder names → AddsName names (insert names i name) name
searched_new names name i l found order =
    let point = found (rises names name order) in
    added_new names name i l (λ k h. point.0 k [] (omega arith) h) (λ k g h. point.1 k [] g h) order

-- ---- the names of a list, and one more

pub added_next : (layers old new : List (List ℕ)) (name : List ℕ) → ((n : List ℕ) → Contains old n ↔ Contains layers n)
    → AddsName old new name
    → (n : List ℕ) → Contains new n ↔ Contains (layers ++ name ∷ []) n
added_next layers old new name same adds n = (
  λ c. Contains-permutation (name ∷ layers) (layers ++ name ∷ []) n
      (IsPermutation-sym (layers ++ name ∷ []) (name ∷ layers) (IsPermutation-to_front layers name))
      (behind old layers (λ d. (same n).0 d) ((adds.names n).0 c)),
  λ c. (adds.names n).1 (behind layers old (λ d. (same n).1 d)
      (Contains-permutation (layers ++ name ∷ []) (name ∷ layers) n (IsPermutation-to_front layers name) c)),
)
  where
    behind : (xs ys : List (List ℕ)) → (Contains xs n → Contains ys n) → Contains (name ∷ xs) n → Contains (name ∷ ys) n
    behind xs ys f c = go c.0 c.1 c.2
      where
        go : (k : ℕ) → k < length (name ∷ xs) → get_or (name ∷ xs) k n ≡ n → Contains (name ∷ ys) n
        go zero l e = (0, omega arith, e)
        go (suc k) l e = let d = f (k, omega (arith, l), e) in (suc d.0, omega (arith, d.1), d.2)

pub added_own : (layers old new : List (List ℕ)) (own : List ℕ) → ((n : List ℕ) → Contains old n ↔ Contains layers n)
    → AddsName old new own → AreFrozen layers own new
added_own layers old new own same adds n =
    let to = added_next layers old new own same adds n in (
      λ c. Contains-permutation (layers ++ own ∷ []) (own ∷ layers) n (IsPermutation-to_front layers own) (to.0 c),
      λ c. to.1 (Contains-permutation (own ∷ layers) (layers ++ own ∷ []) n
          (IsPermutation-sym (layers ++ own ∷ []) (own ∷ layers) (IsPermutation-to_front layers own)) c),
    )

-- of the first so many, and the next
pub added_read : (layers old new : List (List ℕ)) (i : ℕ) (name : List ℕ) → i < length layers → name ≡ get_or layers i name
    → ((n : List ℕ) → Contains old n ↔ Contains (take i layers) n) → AddsName old new name
    → (n : List ℕ) → Contains new n ↔ Contains (take (i + 1) layers) n
added_read layers old new i name h is same adds =
    subst (λ (ns : List (List ℕ)). (n : List ℕ) → Contains new n ↔ Contains ns n)
    (ap (λ n. take i layers ++ n ∷ []) is ∙ sym (take-suc layers i name h) ∙ ap (λ k. take k layers) more)
    (added_next (take i layers) old new name same adds)
  where
    more : suc i ≡ i + 1
    more = omega arith
