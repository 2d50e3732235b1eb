-- Walks up by places: where they end, and when they come back.
use Rattle.std.proofs.Common.{◌≡◌, ℕ, zero, suc, ◌+◌, ◌-◌, ◌<◌, ◌≤◌, List, length, Option, Some, None}
use Rattle.std.proofs.Common.{refl, sym, ap, subst, ◌∙◌, arith, inl, inr, zero-add, suc-add}
use Rattle.std.proofs.lemmas.Bool.{cases_lt, cases_order}
use Rattle.std_collections.proofs.IndexTableLemmas.Probe.{pigeonhole}
use Rattle.folder_layers.specs.Parents.{parent_at}
use Rattle.folder_layers.specs.Rings.{above, up, AreWithin, ComesBack, Ends, AtRoot, Further}

abbrev place_or : Option ℕ → ℕ
place_or None = 0
place_or (Some p) = p

module _ (parents : List (Option ℕ)) where
  -- ---- so many steps, and so many more

  pub up_more : (more steps place between : ℕ) → up parents steps place ≡ Some between
      → up parents (more + steps) place ≡ up parents more between
  up_more zero steps place between is = (rw zero-add is)
  up_more (suc more) steps place between is =
      rw (suc-add more steps) (ap (above parents) (up_more more steps place between is))

  pub up_first : (steps place parent : ℕ) → parent_at parents place ≡ Some parent
      → up parents (suc steps) place ≡ up parents steps parent
  up_first zero place parent is = is
  up_first (suc steps) place parent is = ap (above parents) (up_first steps place parent is)

  -- a walk that gets so far was somewhere before
  was_somewhere : (more steps place q : ℕ) → up parents (more + steps) place ≡ Some q
      → (r : ℕ) × (up parents steps place ≡ Some r)
  was_somewhere more steps place q is = go (up parents steps place) refl
    where
      nowhere : (more : ℕ) → up parents steps place ≡ None → up parents (more + steps) place ≡ None
      nowhere zero e = rw zero-add e
      nowhere (suc more) e = rw (suc-add more steps) (ap (above parents) (nowhere more e))

      go : (o : Option ℕ) → up parents steps place ≡ o → (r : ℕ) × (up parents steps place ≡ Some r)
      go (Some r) e = (r, e)
      go None e = absurd (let n : up parents (more + steps) place ≡ None = nowhere more e in cc)

  -- above a place with no parent there is none
  up_nowhere : (steps place : ℕ) → parent_at parents place ≡ None → up parents (suc steps) place ≡ None
  up_nowhere zero place root = root
  up_nowhere (suc steps) place root = ap (above parents) (up_nowhere steps place root)

  -- the last step is from somewhere, and so is the first
  step_from : (from : Option ℕ) (at : ℕ) → above parents from ≡ Some at
      → (r : ℕ) × (from ≡ Some r) × (parent_at parents r ≡ Some at)
  step_from None at is = absurd (cc)
  step_from (Some r) at is = (r, refl, is)

  pub first_step : (steps place q : ℕ) → up parents (suc steps) place ≡ Some q
      → (p : ℕ) × (parent_at parents place ≡ Some p) × (up parents steps p ≡ Some q)
  first_step steps place q is = go (parent_at parents place) refl
    where
      go : (o : Option ℕ) → parent_at parents place ≡ o → (p : ℕ) × (parent_at parents place ≡ Some p) × (up parents steps p ≡ Some q)
      go None e = absurd (let none = up_nowhere steps place e in cc)
      go (Some p) e = (p, e, sym (up_first steps place p e) ∙ is)

  -- ---- walks that end

  -- a walk that ends does not come back
  pub ends_not_back : (place : ℕ) → Ends parents place → ComesBack parents place → ⊥
  ends_not_back place (AtRoot root) back = absurd (let none = up_nowhere back.0 place root in let is = back.1 in cc)
  ends_not_back place (Further parent is more) back = ends_not_back parent more
      (back.0, ap (above parents) (sym (up_first back.0 place parent is) ∙ back.1) ∙ is)

  -- where it ends from further up it ends
  pub ends_below : (steps place at : ℕ) → up parents steps place ≡ Some at → Ends parents at → Ends parents place
  ends_below zero place at is ends = let same : at ≡ place = cc in subst (Ends parents) same ends
  ends_below (suc steps) place at is ends =
      let last = step_from (up parents steps place) at is in
      ends_below steps place last.0 last.1 (Further at last.2 ends)

  -- ---- walks of more steps than there are places

  module _ (within : AreWithin parents) where
    pub up_within : (steps place q : ℕ) → place < length parents → up parents steps place ≡ Some q → q < length parents
    up_within zero place q inside is = let same : place ≡ q = cc in omega arith
    up_within (suc steps) place q inside is = let last = step_from (up parents steps place) q is in within last.0 q last.2

    -- a walk of as many steps as there are places is at one of them twice
    pub crowded : (place q : ℕ) → place < length parents → up parents (length parents) place ≡ Some q
        → ((i j r : ℕ) → i < j → j ≤ length parents → up parents i place ≡ Some r → up parents j place ≡ Some r → ⊥) → ⊥
    crowded place q inside is once =
        omega (arith, pigeonhole (length parents + 1) (length parents) (λ i. place_or (up parents i place)) into one)
      where
        at : (i : ℕ) → i < length parents + 1 → (r : ℕ) × (up parents i place ≡ Some r)
        at i less = was_somewhere (length parents - i) i place q
            (subst (λ n. up parents n place ≡ Some q) (let e : length parents ≡ length parents - i + i = omega arith in e) is)

        into : (i : ℕ) → i < length parents + 1 → place_or (up parents i place) < length parents
        into i less = rw ((at i less).1) (up_within i place (at i less).0 inside (at i less).1)

        one : (i j : ℕ) → i < length parents + 1 → j < length parents + 1
            → place_or (up parents i place) ≡ place_or (up parents j place) → i ≡ j
        one i j in_i in_j same =
            let r = at i in_i in
            let s = at j in_j in
            let equal : r.0 ≡ s.0 = sym (ap place_or r.1) ∙ (same ∙ ap place_or s.1) in
            elim (cases_order i j) [
              | inl e ↦ e
              | inr other ↦ elim other [
                | inl less ↦ absurd (once i j r.0 less (omega arith) r.1 (s.1 ∙ ap Some (sym equal)))
                | inr more ↦ absurd (once j i s.0 more (omega arith) s.1 (r.1 ∙ ap Some equal))
              ]
            ]

    -- a walk that does not come back in so many steps never does: one that is longer is at some place twice, and comes back
    -- without the steps between
    pub never_back : (place : ℕ) → place < length parents
        → ((steps : ℕ) → steps < length parents → up parents (suc steps) place ≡ Some place → ⊥) → ComesBack parents place → ⊥
    never_back place inside not back = go back.0 back.0 (omega arith) back.1
      where
        shorter : (steps i j r : ℕ) → i < j → j ≤ steps → up parents (suc steps) place ≡ Some place
            → up parents i place ≡ Some r → up parents j place ≡ Some r → up parents (suc (steps - j + i)) place ≡ Some place
        shorter steps i j r less le is one two =
            let rest = suc steps - j in
            let all : suc steps ≡ rest + j = omega arith in
            let short : rest + i ≡ suc (steps - j + i) = omega arith in
            subst (λ n. up parents n place ≡ Some place) short (up_more rest i place r one
            ∙ (sym (up_more rest j place r two) ∙ subst (λ n. up parents n place ≡ Some place) all is))

        go : (most steps : ℕ) → steps ≤ most → up parents (suc steps) place ≡ Some place → ⊥
        go zero steps low is = not steps (omega arith) is
        go (suc most) steps low is = elim (cases_lt steps (length parents)) [
          | inl less ↦ not steps less is
          | inr long ↦
              let rest = suc steps - length parents in
              let all : suc steps ≡ rest + length parents = omega arith in
              let there = was_somewhere rest (length parents) place place
              (subst (λ n. up parents n place ≡ Some place) all is) in
              crowded place there.0 inside there.1
              (λ i j r less le one two. go most (steps - j + i) (omega arith) (shorter steps i j r less (omega arith) is one two))
        ]
