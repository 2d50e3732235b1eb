-- Where a name is among names that rise, and which snapshot an image is.
use Rattle.std.proofs.Common.{◌≡◌, ℕ, zero, suc, ◌+◌, ◌<◌, ◌≤◌, true, List, [], ◌∷◌, ◌++◌, length, map, get_or, Option, Some, None}
use Rattle.std.proofs.Common.{HoldsAt, refl, sym, ap, subst, ◌∙◌, arith, add-one, ⊎_elim, inl, inr}
use Rattle.std.specs.Prelude.{Contains, MatchOption}
use Rattle.std.specs.Cmp.Lexicographic.{slice_cmp}
use Rattle.std.specs.Ordering.{nat_cmp, is_lt, ordering_index, ordering_reverse}
use Rattle.std.specs.List.Sorted.{IsNonDecreasingBy, IsPartitionPoint}
use Rattle.std.specs.declared.cmp.Ordering.{Ordering}
use Rattle.std.specs.declared.cmp.Ordering.TheVariants as order
use Rattle.std.proofs.lemmas.Bool.{cases_lt, cases_eq, cases_order, false≢true}
use Rattle.std.proofs.lemmas.Cmp.{nat_list_cmp_total}
use Rattle.std.proofs.lemmas.List.{get_or-map, get_or_default, get_or_append_left, get_or_push, length_push, length-map}
use Rattle.std.proofs.lemmas.List.Elements.{Contains-get_or}
use Rattle.std.proofs.lemmas.Map.Lookups.{exact_bytes}
use Rattle.volume_model.specs.Purge.{is_before}
use Rattle.volume_model.proofs.PurgeLemmas.{before_trans, before_itself}
use Rattle.chain_meta.specs.ImageNames.{IsSnapshotFile, snapshot_file}
use Rattle.chain_meta.specs.declared.disk_meta.DiskMeta.{DiskMeta}
use Rattle.folder_names.proofs.NameLemmas.{snapshots_differ}
use Rattle.folder_checks.specs.Snapshots.{AreRising, AreSnapshotMetas, name_at, told_at, metas_of}
use Rattle.folder_layers.specs.Layers.{HasImage}
use Rattle.folder_checks.specs.declared.parts.ImageParts.{ImageParts}
use Rattle.folder_layers.specs.Parents.{IsParentOf, parent_at, AreParentsBelow}

-- ---- names that rise

-- an earlier one comes before a later one
pub rising_far : (names : List (List ℕ)) → AreRising names → (i j : ℕ) → i < j → j < length names
    → is_before (name_at names i) (name_at names j) ≡ true
rising_far names up i zero before within = absurd (omega arith)
rising_far names up i (suc j) before within = ⊎_elim
    (λ (same : i ≡ j). ap (λ k. is_before (name_at names k) (name_at names (suc j))) same ∙ next)
    (λ (other : i ≡ j → ⊥). before_trans (name_at names i) (name_at names j) (name_at names (suc j))
    (rising_far names up i j (omega arith) (omega arith)) next)
    (cases_eq i j)
  where
    next : is_before (name_at names j) (name_at names (suc j)) ≡ true
    next = subst (λ k. is_before (name_at names j) (name_at names k) ≡ true) (add-one j) (up j (omega arith))

-- no name is at two places
pub one_place : (names : List (List ℕ)) → AreRising names → (i j : ℕ) → i < length names → j < length names
    → name_at names i ≡ name_at names j → i ≡ j
one_place names up i j in_i in_j same = elim (cases_order i j) [
  | inl e ↦ e
  | inr other ↦ elim other [
    | inl less ↦ absurd (no_less i j less in_j same)
    | inr more ↦ absurd (no_less j i more in_i (sym same))
  ]
]
  where
    no_less : (i j : ℕ) → i < j → j < length names → name_at names i ≡ name_at names j → ⊥
    no_less i j less within e = false≢true (sym (before_itself (name_at names j))
        ∙ (ap (λ n. is_before n (name_at names j)) (sym e) ∙ rising_far names up i j less within))

-- ---- a search

-- before that place each of these comes before the name, and from there on behind it
abbrev IsParted : {X : Type 0} → (X → List ℕ) → List X → List ℕ → ℕ → Type 0
IsParted text xs name place =
    IsPartitionPoint (λ x. slice_cmp nat_cmp (text x) name ≡ order.Less) (λ x. slice_cmp nat_cmp (text x) name ≡ order.Greater) xs place

greater_index : (a b : List ℕ) → is_before b a ≡ true → slice_cmp nat_cmp a b ≡ order.Greater
greater_index a b before = go (slice_cmp nat_cmp b a) refl
  where
    go : (o : Ordering) → slice_cmp nat_cmp b a ≡ o → slice_cmp nat_cmp a b ≡ order.Greater
    go order.Less e = nat_list_cmp_total.antisymm a b ∙ ap ordering_reverse e
    go order.Equal e = absurd (false≢true (sym (ap is_lt e) ∙ before))
    go order.Greater e = absurd (false≢true (sym (ap is_lt e) ∙ before))

-- how a later name compares is no less
later_index : (a b name : List ℕ) → is_before a b ≡ true
    → ordering_index (slice_cmp nat_cmp a name) ≤ ordering_index (slice_cmp nat_cmp b name)
later_index a b name before = go (slice_cmp nat_cmp a name) refl
  where
    rest : is_before name b ≡ true → ordering_index (slice_cmp nat_cmp a name) ≤ ordering_index (slice_cmp nat_cmp b name)
    rest over = subst (λ o. ordering_index (slice_cmp nat_cmp a name) ≤ ordering_index o) (sym (greater_index b name over))
        (most (slice_cmp nat_cmp a name))
      where
        most : (o : Ordering) → ordering_index o ≤ 2
        most order.Less = omega arith
        most order.Equal = omega arith
        most order.Greater = omega arith

    go : (o : Ordering) → slice_cmp nat_cmp a name ≡ o
        → ordering_index (slice_cmp nat_cmp a name) ≤ ordering_index (slice_cmp nat_cmp b name)
    go order.Less e = omega (arith, ap ordering_index e)
    go order.Equal e = rest (ap (λ n. is_before n b) (sym (exact_bytes a name e)) ∙ before)
    go order.Greater e =
        rest (before_trans name a b (ap is_lt (nat_list_cmp_total.antisymm name a ∙ ap ordering_reverse e)) before)

-- a name is neither less nor greater than itself
not_less : (a name : List ℕ) → a ≡ name → slice_cmp nat_cmp a name ≡ order.Less → ⊥
not_less a name is less = false≢true (sym (before_itself name) ∙ (ap (λ n. is_before n name) (sym is) ∙ ap is_lt less))

not_greater : (a name : List ℕ) → a ≡ name → slice_cmp nat_cmp a name ≡ order.Greater → ⊥
not_greater a name is greater = false≢true (sym (before_itself name)
    ∙ (ap (is_before name) (sym is) ∙ ap is_lt (nat_list_cmp_total.antisymm name a ∙ ap ordering_reverse greater)))

some_of : {X : Type 0} (xs : List X) (place : ℕ) → place < length xs → X
some_of [] place within = absurd (omega arith)
some_of (x ∷ xs) place within = x

module _ {X : Type 0} (text : X → List ℕ) (xs : List X) (name : List ℕ) where
  rises : AreRising (map text xs) → IsNonDecreasingBy (λ x. ordering_index (slice_cmp nat_cmp (text x) name)) xs
  rises up i j d le lt = ⊎_elim
      (λ (same : i ≡ j). omega (arith, ap (λ k. ordering_index (slice_cmp nat_cmp (text (get_or xs k d)) name)) same))
      (λ (other : i ≡ j → ⊥). later_index (text (get_or xs i d)) (text (get_or xs j d)) name
      (ap (λ n. is_before n (text (get_or xs j d))) (sym (get_or-map text xs i d [] (omega arith)))
      ∙ (ap (is_before (name_at (map text xs) i)) (sym (get_or-map text xs j d [] lt))
      ∙ rising_far (map text xs) up i j (omega arith) (omega (arith, length-map xs text)))))
      (cases_eq i j)

  -- what a search finds has that name
  pub found_name : (place : ℕ) → place < length xs → HoldsAt (λ x. slice_cmp nat_cmp (text x) name ≡ order.Equal) xs place
      → name_at (map text xs) place ≡ name
  found_name place within here =
      let some = some_of xs place within in
      get_or-map text xs place some [] within ∙ exact_bytes (text (get_or xs place some)) name (here some)

  -- where it finds none there is none
  pub found_none : (place : ℕ)
      → (IsNonDecreasingBy (λ x. ordering_index (slice_cmp nat_cmp (text x) name)) xs → IsParted text xs name place)
      → AreRising (map text xs) → Contains (map text xs) name → ⊥
  found_none place parted up has =
      let within : has.0 < length xs = omega (arith, has.1, length-map xs text) in
      let some = some_of xs has.0 within in
      let is : text (get_or xs has.0 some) ≡ name = sym (get_or-map text xs has.0 some name within) ∙ has.2 in
      let parts = parted (rises up) in
      elim (cases_lt has.0 place) [
        | inl less ↦ not_less _ name is (parts.0 has.0 some (omega arith) less)
        | inr more ↦ not_greater _ name is (parts.1 has.0 some more within)
      ]

-- ---- snapshots and their images

module _ (names : List (List ℕ)) (metas : List DiskMeta) (listed : AreSnapshotMetas names metas) where
  -- an image of one is at a place
  pub image_place : (image : List ℕ) → HasImage metas image → (k : ℕ) × (k < length metas) × ((told_at metas k).name ≡ image)
  image_place image has = let m = has.0 in let there = has.1 in
      (there.0, there.1, ap (λ (x : DiskMeta). x.name) (get_or_default metas there.0 _ m there.1 ∙ there.2) ∙ has.2)

  pub place_image : (k : ℕ) → k < length metas → HasImage metas (told_at metas k).name
  place_image k within = (told_at metas k, (k, within, get_or_default metas k _ _ within), refl)

  -- an image is of one place
  pub one_image_place : (i j : ℕ) → i < length metas → j < length metas → (told_at metas i).name ≡ (told_at metas j).name → i ≡ j
  one_image_place i j in_i in_j same = one_place names listed.rising i j (omega (arith, listed.count)) (omega (arith, listed.count))
      (snapshots_differ _ _ (sym (listed.named i (omega (arith, listed.count))) ∙ (same ∙ listed.named j (omega (arith, listed.count)))))

  -- ---- a parent

  pub parent_other : (layer : DiskMeta) (p : List ℕ) → layer.parent ≡ Some p → ((name : List ℕ) → IsSnapshotFile name p → ⊥)
      → IsParentOf metas layer None
  parent_other layer p is other image one has =
      let at = image_place image has in
      let same : image ≡ p = cc in
      other (name_at names at.0) (
        listed.spelled _ (Contains-get_or names at.0 [] (omega (arith, listed.count, at.1))),
        sym same ∙ (sym at.2 ∙ listed.named at.0 (omega (arith, listed.count, at.1))),
      )

  parent_missing : (layer : DiskMeta) (p name : List ℕ) → layer.parent ≡ Some p → IsSnapshotFile name p
      → (Contains names name → ⊥) → IsParentOf metas layer None
  parent_missing layer p name is file missing image one has =
      let at = image_place image has in
      let same : image ≡ p = cc in
      let within : at.0 < length names = omega (arith, listed.count, at.1) in
      let named : name_at names at.0 ≡ name = snapshots_differ _ _ (sym (listed.named at.0 within) ∙ (at.2 ∙ (same ∙ file.1))) in
      missing (at.0, within, get_or_default names at.0 name [] within ∙ named)

  parent_found : (layer : DiskMeta) (p name : List ℕ) (place : ℕ) → layer.parent ≡ Some p → IsSnapshotFile name p
      → place < length names → name_at names place ≡ name → IsParentOf metas layer (Some place)
  parent_found layer p name place is file within named = (
    omega (arith, listed.count),
    is ∙ ap Some (file.1 ∙ sym (listed.named place within ∙ ap snapshot_file named)),
  )

  -- what a search among so many names finds
  pub parent_by : (layer : DiskMeta) (p name : List ℕ) (many : ℕ) → many ≡ length names → layer.parent ≡ Some p
      → IsSnapshotFile name p → (found : Option ℕ)
      → MatchOption found (Contains names name → ⊥) (λ place. (place < many) × (name_at names place ≡ name))
      → IsParentOf metas layer found
  parent_by layer p name many same is file None missing = parent_missing layer p name is file missing
  parent_by layer p name many same is file (Some place) has = parent_found layer p name place is file (omega (arith, has.0)) has.1

-- ---- the parents of all

pub told_meta : (snapshots : List ImageParts) (place : ℕ) (default : ImageParts) → place < length snapshots
    → told_at (metas_of snapshots) place ≡ (get_or snapshots place default).meta
told_meta snapshots place default within = get_or-map (λ (p : ImageParts). p.meta) snapshots place default _ within

pub parents_more : (metas : List DiskMeta) (count : ℕ) (parents : List (Option ℕ)) (layer : DiskMeta) (parent : Option ℕ)
    → AreParentsBelow metas count parents → told_at metas count ≡ layer → IsParentOf metas layer parent
    → AreParentsBelow metas (count + 1) (parents ++ parent ∷ [])
parents_more metas count parents layer parent below told is = record {
  count_is = omega (arith, length_push parents parent, below.count_is);
  each = λ place less. ⊎_elim
      (λ (here : place ≡ count). subst (λ k. IsParentOf metas (told_at metas k) (parent_at (parents ++ parent ∷ []) k)) (sym here)
      (subst (λ m. IsParentOf metas m (parent_at (parents ++ parent ∷ []) count)) (sym told)
      (subst (IsParentOf metas layer) (sym (get_or_push parents parent None count below.count_is)) is)))
      (λ (other : place ≡ count → ⊥). let before : place < length parents = omega (arith, below.count_is) in
      subst (IsParentOf metas (told_at metas place)) (sym (get_or_append_left parents (parent ∷ []) None place before))
      (below.each place (omega arith)))
      (cases_eq place count);
}
