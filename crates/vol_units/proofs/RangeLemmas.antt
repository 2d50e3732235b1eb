-- Lemmas on specs/Range.antt.
use Rattle.std.proofs.Common.{◌≡◌, ℕ, ◌+◌, ◌-◌, ◌*◌, ◌/◌, ◌%◌, ◌≤◌, ◌⊎◌, inl, inr, max, ℤ, pos, refl, sym, subst, ◌∙◌, arith}
use Rattle.std.proofs.lemmas.Bool.{cases_eq, eq-eqb, ne_eqb}
use Rattle.std.proofs.lemmas.Int.{ints}
use Rattle.vol_units.specs.declared.range.BlockRange.{BlockRange}
use Rattle.vol_units.specs.Range.{Covers, EachBlockHasByte, blocks_around}

-- of no bytes there are none
pub none_around : (at length : ℕ) → length ≡ 0 → blocks_around at length ≡ record { first = at / 4096; end = at / 4096 }
none_around at length none = rw (eq-eqb length 0 none) refl

-- of some they go from the first byte's to the last's
pub some_around : (at length : ℕ) → (length ≡ 0 → ⊥)
    → blocks_around at length ≡ record { first = at / 4096; end = (at + length - 1) / 4096 + 1 }
some_around at length some = rw (ne_eqb length 0 some) refl

-- each byte of the range lies in one of the blocks
pub around_covers : (offset : ℤ) (at length : ℕ) (r : BlockRange) → offset ≡ pos at → r ≡ blocks_around at length → Covers r offset length
around_covers offset at length r same is = go (cases_eq length 0)
  where
    go : (length ≡ 0) ⊎ (length ≡ 0 → ⊥) → Covers r offset length
    go (inl none) = λ byte has. absurd (omega (arith, ints, none))
    go (inr some) = subst (λ x. Covers x offset length) (sym (is ∙ some_around at length some))
        (λ byte has. (omega (arith, ints), omega (arith, ints)))

-- each block has a byte of the range: its own first one, or the range's
pub around_least : (offset : ℤ) (at length : ℕ) (r : BlockRange) → offset ≡ pos at → r ≡ blocks_around at length
    → EachBlockHasByte r offset length
around_least offset at length r same is = go (cases_eq length 0)
  where
    go : (length ≡ 0) ⊎ (length ≡ 0 → ⊥) → EachBlockHasByte r offset length
    go (inl none) = subst (λ x. EachBlockHasByte x offset length) (sym (is ∙ none_around at length none))
        (λ block has. absurd (omega arith))
    go (inr some) = subst (λ x. EachBlockHasByte x offset length) (sym (is ∙ some_around at length some))
        (λ block has. (max at (block * 4096), (omega (arith, ints), omega (arith, ints)), omega arith))

-- the blocks end within a size of whole blocks, where the bytes do
pub around_inside : (at length size : ℕ) (r : BlockRange) → at + length ≤ size → size % 4096 ≡ 0
    → r ≡ blocks_around at length → r.end * 4096 ≤ size
around_inside at length size r within whole is = go (cases_eq length 0)
  where
    go : (length ≡ 0) ⊎ (length ≡ 0 → ⊥) → r.end * 4096 ≤ size
    go (inl none) = subst (λ (x : BlockRange). x.end * 4096 ≤ size) (sym (is ∙ none_around at length none)) (omega arith)
    go (inr some) = subst (λ (x : BlockRange). x.end * 4096 ≤ size) (sym (is ∙ some_around at length some)) (omega (arith, some))
