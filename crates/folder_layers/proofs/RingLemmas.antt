-- What snapshots that are above themselves are in walks by places, and that of snapshots of which none is, one is ready.
use Rattle.std.proofs.Common.{◌≡◌, ℕ, zero, suc, ◌+◌, ◌-◌, ◌<◌, ◌≤◌, true, false, Bool, List, length, Option, Some, None}
use Rattle.std.proofs.Common.{refl, sym, ap, subst, ◌∙◌, arith, inl, inr, ◌⊎◌}
use Rattle.std.specs.Prelude.{Contains}
use Rattle.std.proofs.lemmas.Bool.{cases_lt}
use Rattle.std.proofs.lemmas.List.{get_or_default, get_or_past}
use Rattle.chain_meta.specs.declared.disk_meta.DiskMeta.{DiskMeta}
use Rattle.folder_checks.specs.Snapshots.{AreSnapshotMetas, told_at}
use Rattle.folder_layers.specs.Layers.{HasImage, IsAbove, IsChild, IsFurther, AreFitBelow}
use Rattle.folder_layers.specs.Parents.{IsParentOf, parent_at, AreParents}
use Rattle.folder_layers.specs.Rings.{above, up, AreWithin, ComesBack}
use Rattle.folder_layers.proofs.ParentLemmas.{image_place, place_image, one_image_place}
use Rattle.folder_layers.proofs.WalkLemmas.{up_more, up_first, first_step, up_within, crowded}

module _ (names : List (List ℕ)) (metas : List DiskMeta) (parents : List (Option ℕ)) (listed : AreSnapshotMetas names metas)
    (are : AreParents metas parents) where
  -- ---- the place of a parent

  parent_of : (place parent : ℕ) → parent_at parents place ≡ Some parent
      → (place < length metas) × (parent < length metas) × ((told_at metas place).parent ≡ Some (told_at metas parent).name)
  parent_of place parent is = elim (cases_lt place (length metas)) [
    | inl inside ↦ let of = subst (IsParentOf metas (told_at metas place)) is (are.each place inside) in (inside, of.0, of.1)
    | inr past ↦ absurd (let none : parent_at parents place ≡ None = get_or_past parents place None (omega (arith, are.count)) in cc)
  ]

  pub are_within : AreWithin parents
  are_within place parent is = omega (arith, are.count, (parent_of place parent is).1)

  parent_is : (place q : ℕ) → place < length metas → q < length metas → (told_at metas place).parent ≡ Some (told_at metas q).name
      → parent_at parents place ≡ Some q
  parent_is place q inside in_q is = go (parent_at parents place) refl (are.each place inside)
    where
      go : (o : Option ℕ) → parent_at parents place ≡ o → IsParentOf metas (told_at metas place) o → parent_at parents place ≡ Some q
      go None e none = absurd (none (told_at metas q).name is (place_image names metas listed q in_q))
      go (Some p) e some =
          let same : (told_at metas p).name ≡ (told_at metas q).name = cc in
          e ∙ ap Some (one_image_place names metas listed p q some.0 in_q same)

  -- ---- so many steps up is above

  there : (k : ℕ) → k < length metas → Contains metas (told_at metas k)
  there k inside = (k, inside, get_or_default metas k _ _ inside)

  up_is_above : (steps k q : ℕ) → up parents (suc steps) k ≡ Some q → IsAbove metas (told_at metas q).name (told_at metas k).name
  up_is_above zero k q is = let of = parent_of k q is in IsChild (told_at metas k) (there k of.0) refl of.2
  up_is_above (suc steps) k q is =
      let first = first_step parents (suc steps) k q is in
      let of = parent_of k first.0 first.1 in
      IsFurther (told_at metas k) (told_at metas first.0).name (there k of.0) refl of.2 (up_is_above steps first.0 q first.2)

  -- what is told of the snapshot of that image, is told at its place
  told_is : (m : DiskMeta) (k : ℕ) → Contains metas m → k < length metas → m.name ≡ (told_at metas k).name → told_at metas k ≡ m
  told_is m k has inside same =
      let told : told_at metas has.0 ≡ m = get_or_default metas has.0 _ m has.1 ∙ has.2 in
      let place : k ≡ has.0 =
      one_image_place names metas listed k has.0 inside has.1 (sym same ∙ ap (λ (x : DiskMeta). x.name) (sym told)) in
      ap (told_at metas) place ∙ told

  upper_there : (lower upper : List ℕ) → IsAbove metas lower upper → HasImage metas upper
  upper_there lower upper (IsChild m has named on) = (m, has, named)
  upper_there lower upper (IsFurther m next has named on more) = (m, has, named)

  above_is_up : (lower upper : List ℕ) → IsAbove metas lower upper → (k q : ℕ) → k < length metas → q < length metas
      → upper ≡ (told_at metas k).name → lower ≡ (told_at metas q).name → (steps : ℕ) × (up parents (suc steps) k ≡ Some q)
  above_is_up lower upper (IsChild m has named on) k q in_k in_q at_k at_q = (
    zero,
    parent_is k q in_k in_q (ap (λ (x : DiskMeta). x.parent) (told_is m k has in_k (named ∙ at_k)) ∙ (on ∙ ap Some at_q)),
  )
  above_is_up lower upper (IsFurther m next has named on more) k q in_k in_q at_k at_q =
      let p = image_place names metas listed next (upper_there lower next more) in
      let first : parent_at parents k ≡ Some p.0 = parent_is k p.0 in_k p.1
      (ap (λ (x : DiskMeta). x.parent) (told_is m k has in_k (named ∙ at_k)) ∙ (on ∙ ap Some (sym p.2))) in
      let rest = above_is_up lower next more p.0 q p.1 in_q (sym p.2) at_q in
      (suc rest.0, up_first parents (suc rest.0) k p.0 first ∙ rest.1)

  -- ---- above itself

  pub back_is_ring : (k : ℕ) → ComesBack parents k → IsAbove metas (told_at metas k).name (told_at metas k).name
  back_is_ring k back = up_is_above back.0 k k back.1

  pub ring_is_back : (k : ℕ) → k < length metas → IsAbove metas (told_at metas k).name (told_at metas k).name → ComesBack parents k
  ring_is_back k inside ring = above_is_up _ _ ring k k inside inside refl refl

-- ---- snapshots of which none is above itself

module _ (names : List (List ℕ)) (metas : List DiskMeta) (parents : List (Option ℕ)) (listed : AreSnapshotMetas names metas)
    (are : AreParents metas parents) (done : ℕ → Bool) where
  -- a place that is not done, whose parent is, if there is one
  abbrev Ready : Type 0
  Ready = (k : ℕ) × (k < length metas) × (done k ≡ false) × ((p : ℕ) → parent_at parents k ≡ Some p → done p ≡ true)

  ready_or : (at : ℕ) → at < length metas → done at ≡ false
      → Ready ⊎ ((p : ℕ) × (parent_at parents at ≡ Some p) × (done p ≡ false))
  ready_or at inside not = by_parent (parent_at parents at) refl
    where
      by_done : (p : ℕ) (b : Bool) → parent_at parents at ≡ Some p → done p ≡ b
          → Ready ⊎ ((p : ℕ) × (parent_at parents at ≡ Some p) × (done p ≡ false))
      by_done p true e d = inl (at, inside, not, λ q other. let same : p ≡ q = cc in ap done (sym same) ∙ d)
      by_done p false e d = inr (p, e, d)

      by_parent : (o : Option ℕ) → parent_at parents at ≡ o → Ready ⊎ ((p : ℕ) × (parent_at parents at ≡ Some p) × (done p ≡ false))
      by_parent None e = inl (at, inside, not, λ q other. absurd (cc))
      by_parent (Some p) e = by_done p (done p) e refl

  module _ (number : ℕ) (fit : AreFitBelow number names metas (length metas)) (left : ℕ) (inside : left < length parents) where
    within : AreWithin parents
    within = are_within names metas parents listed are

    -- no place is come to twice
    once : (i j r : ℕ) → i < j → j ≤ length parents → up parents i left ≡ Some r → up parents j left ≡ Some r → ⊥
    once i j r less le one two =
        let r_in : r < length metas = omega (arith, are.count, up_within parents within i left r inside one) in
        let more : j ≡ suc (j - i - 1) + i = omega arith in
        let back : up parents (suc (j - i - 1)) r ≡ Some r =
        sym (up_more parents (suc (j - i - 1)) i left r one) ∙ subst (λ n. up parents n left ≡ Some r) more two in
        (fit r r_in).no_ring (back_is_ring names metas parents listed are r (j - i - 1, back))

    seek : (fuel steps at : ℕ) → fuel + steps ≡ length parents → up parents steps left ≡ Some at → done at ≡ false → Ready
    seek zero steps at all is not =
        let long : steps ≡ length parents = omega arith in
        absurd (crowded parents within left at inside (subst (λ n. up parents n left ≡ Some at) long is) once)
    seek (suc fuel) steps at all is not =
        elim (ready_or at (omega (arith, are.count, up_within parents within steps left at inside is)) not) [
          | inl ready ↦ ready
          | inr next ↦ seek fuel (suc steps) next.0 (omega arith) (ap (above parents) is ∙ next.1) next.2
        ]

-- Where one is not done, there is one that is not, and whose parent is, if there is one: walking up comes to one.
pub some_ready : (number : ℕ) (names : List (List ℕ)) (metas : List DiskMeta) (parents : List (Option ℕ)) → AreSnapshotMetas names metas
    → AreParents metas parents → AreFitBelow number names metas (length metas) → (done : ℕ → Bool) (left : ℕ) → left < length metas
    → done left ≡ false
    → (k : ℕ) × (k < length metas) × (done k ≡ false) × ((p : ℕ) → parent_at parents k ≡ Some p → done p ≡ true)
some_ready number names metas parents listed are fit done left inside not =
    seek names metas parents listed are done number fit left (omega (arith, are.count)) (length parents) 0 left (omega arith) refl not
