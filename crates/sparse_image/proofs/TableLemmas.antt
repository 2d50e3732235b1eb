-- Lemmas on a table laid over another.
use Rattle.std.proofs.Common.{◌≡◌, ℕ, zero, suc, ◌<◌, ◌⊎◌, inl, inr, ⊎_elim, List, [], ◌∷◌, length, set, Option, Some}
use Rattle.std.proofs.Common.{None, ap, ◌∙◌, refl, sym, arith}
use Rattle.std.specs.Option.{option_or}
use Rattle.sparse_image.specs.Image.{Table, place_at, page_over}
use Rattle.sparse_image.specs.Whole.{IsTable}

-- a block moved down onto the place below it is seen as before
pub page_over-moved : (above below : Table) (i : ℕ) (a b : Option (List ℕ)) → i < length above → i < length below → a ≡ None
    → b ≡ option_or (place_at above i) (place_at below i)
    → page_over (set above i a) (set below i b) ≡ page_over above below
page_over-moved [] below i a b own under e f = absurd (omega arith)
page_over-moved (x ∷ above) [] i a b own under e f = absurd (omega arith)
page_over-moved (x ∷ above) (y ∷ below) zero a b own under e f = ap (λ z. z ∷ page_over above below) (ap (λ z. option_or z b) e ∙ f)
page_over-moved (x ∷ above) (y ∷ below) (suc i) a b own under e f =
    ap (λ zs. option_or x y ∷ zs) (page_over-moved above below i a b (omega arith) (omega arith) e f)

-- a table without blocks laid over one that is as long
pub page_over-empty : (above below : Table) → length above ≡ length below
    → ((i : ℕ) → i < length above → place_at above i ≡ None) → page_over above below ≡ below
page_over-empty [] below same none = refl
page_over-empty (x ∷ above) [] same none = absurd (omega arith)
page_over-empty (x ∷ above) (y ∷ below) same none =
    ap (λ z. option_or z y ∷ page_over above below) (none 0 (omega arith))
    ∙ ap (λ zs. y ∷ zs) (page_over-empty above below (omega arith) (λ i h. none (suc i) (omega arith)))

or_none : (o : Option (List ℕ)) → option_or o None ≡ o
or_none None = refl
or_none (Some b) = refl

-- a block of one of the two stands where that of either is seen
or_cases : (x y : Option (List ℕ)) (b : List ℕ) → option_or x y ≡ Some b → (x ≡ Some b) ⊎ (y ≡ Some b)
or_cases None y b e = inr e
or_cases (Some a) y b e = inl e

-- place by place, the upper block hides that below it
pub place_at-page_over : (above below : Table) (i : ℕ)
    → place_at (page_over above below) i ≡ option_or (place_at above i) (place_at below i)
place_at-page_over [] below i = refl
place_at-page_over (x ∷ above) [] i = sym (or_none (place_at (x ∷ above) i))
place_at-page_over (x ∷ above) (y ∷ below) zero = refl
place_at-page_over (x ∷ above) (y ∷ below) (suc i) = place_at-page_over above below i

pub length-page_over : (above below : Table) → length above ≡ length below → length (page_over above below) ≡ length below
length-page_over [] below same = refl
length-page_over (x ∷ above) [] same = same
length-page_over (x ∷ above) (y ∷ below) same = ap suc (length-page_over above below (omega arith))

pub IsTable-page_over : (above below : Table) → IsTable above → IsTable below → IsTable (page_over above below)
IsTable-page_over [] below a b = b
IsTable-page_over (x ∷ above) [] a b = a
IsTable-page_over (x ∷ above) (y ∷ below) a b =
    let m : length (x ∷ above) ≡ 512 = a.size (omega arith) in
    let n : length (y ∷ below) ≡ 512 = b.size (omega arith) in
    record {
      size = λ _. length-page_over (x ∷ above) (y ∷ below) (m ∙ sym n) ∙ n;
      blocks = λ i bytes at.
          ⊎_elim (a.blocks i bytes) (b.blocks i bytes)
          (or_cases (place_at (x ∷ above) i) (place_at (y ∷ below) i) bytes (sym (place_at-page_over (x ∷ above) (y ∷ below) i) ∙ at));
    }

-- once all blocks have moved, the lower table is what was seen
pub page_over-all : (above below old_above old_below : Table) → length above ≡ length old_above
    → length below ≡ length old_below → length old_above ≡ length old_below
    → ((i : ℕ) → i < length old_above → place_at above i ≡ None) → page_over above below ≡ page_over old_above old_below
    → below ≡ page_over old_above old_below
page_over-all above below old_above old_below own under same none moved =
    sym (page_over-empty above below (own ∙ same ∙ sym under) (λ i h. none i (omega arith))) ∙ moved

pub page_over-unmade : (above : Table) → page_over above [] ≡ above
page_over-unmade [] = refl
page_over-unmade (x ∷ above) = refl
