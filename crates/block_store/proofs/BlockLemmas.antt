-- What comes of an object of which one byte more than a block is asked for.
use Rattle.std.proofs.Common.{◌≡◌, ℕ, ◌+◌, Bool, true, false, List, length, take, Option, None, Some, option_map}
use Rattle.std.proofs.Common.{refl, sym, ap, subst, ◌∙◌, arith, length-take, bytes_eq}
use Rattle.std.proofs.lemmas.List.{take_all}
use Rattle.std.proofs.lemmas.Slice.Eq.{bytes_eq-Decides}
use Rattle.target_traits.specs.Objects.{Objects, OtherObjectsStay}
use Rattle.backup_units.specs.Blocks.{IsBlock, HoldsBlock, KeepsBlocks, page_bytes}
use Rattle.backup_units.specs.Names.{block_name}
use Rattle.backup_units.proofs.NameLemmas.{one_block}

same_value : {A : Type 0} {x y : A} → Some x ≡ Some y → x ≡ y
same_value e = cc

-- the first bytes of an object came, one more than n at most, where there is one
abbrev Comes : ℕ → Option (List ℕ) → Option (List ℕ) → Type 0
Comes n held got = got ≡ option_map (take (n + 1)) held

-- an object of which just so many bytes come is whole
pub whole : (n : ℕ) (held : Option (List ℕ)) (got : List ℕ) → Comes n held (Some got) → length got ≡ n → held ≡ Some got
whole n None got e len = cc
whole n (Some b) got e len =
    let cut : got ≡ take (n + 1) b = same_value e in
    let size : length b ≡ n = omega (arith, ap length cut, length-take (n + 1) b, len) in
    ap Some (sym (take_all (n + 1) b (omega arith)) ∙ sym cut)

-- there is none where none comes
pub nowhere : (n : ℕ) (held : Option (List ℕ)) → Comes n held None → held ≡ None
nowhere n None e = refl
nowhere n (Some b) e = cc

pub none_there : (n : ℕ) (held : Option (List ℕ)) → Comes n held None → (bytes : List ℕ) → held ≡ Some bytes → ⊥
none_there n None e bytes is = cc
none_there n (Some b) e bytes is = cc

-- what comes of a block is the block
came : (c got : List ℕ) (held : Option (List ℕ)) → Comes page_bytes held (Some got)
    → (bytes : List ℕ) → held ≡ Some bytes → IsBlock c bytes → IsBlock c got
came c got None e bytes is block = cc
came c got (Some b) e bytes is block =
    let same : b ≡ bytes = same_value is in
    let size : length b ≡ page_bytes = ap length same ∙ block.size in
    subst (IsBlock c) (sym (same_value e ∙ take_all (page_bytes + 1) b (omega arith) ∙ same)) block

-- where no block comes there is none
pub free : (c got : List ℕ) (held : Option (List ℕ)) → Comes page_bytes held (Some got) → (IsBlock c got → ⊥)
    → (bytes : List ℕ) → held ≡ Some bytes → IsBlock c bytes → ⊥
free c got held e none bytes is block = none (came c got held e bytes is block)

pub damaged : (c got : List ℕ) (held : Option (List ℕ)) → Comes page_bytes held (Some got) → (IsBlock c got → ⊥)
    → (bytes : List ℕ) × (held ≡ Some bytes) × (IsBlock c bytes → ⊥)
damaged c got None e none = cc
damaged c got (Some b) e none = (b, refl, free c got (Some b) e none b refl)

pub ruleset blocks = (whole, nowhere, free, damaged)

-- where one object changes at most, and that was no block, the blocks stay
pub keeps_free : (volume c : List ℕ) (old new : Objects) → OtherObjectsStay (block_name volume c) old new
    → ((bytes : List ℕ) → old (block_name volume c) ≡ Some bytes → IsBlock c bytes → ⊥) → KeepsBlocks volume old new
keeps_free volume c old new others none x bytes held =
    by_test (bytes_eq (block_name volume x) (block_name volume c)) refl
  where
    named : bytes_eq (block_name volume x) (block_name volume c) ≡ true → HoldsBlock new volume x bytes
    named is =
        let name : block_name volume x ≡ block_name volume c = (bytes_eq-Decides _ _).0 is in
        let block : IsBlock c bytes = subst (λ y. IsBlock y bytes) (one_block volume x c name) held.block in
        absurd (none bytes (sym (ap old name) ∙ held.there) block)

    apart : bytes_eq (block_name volume x) (block_name volume c) ≡ false → HoldsBlock new volume x bytes
    apart not = record {
      there = others (block_name volume x) (λ e. absurd (grind (arith, not, (bytes_eq-Decides _ _).1 e))) ∙ held.there;
      block = held.block;
    }

    by_test : (b : Bool) → bytes_eq (block_name volume x) (block_name volume c) ≡ b → HoldsBlock new volume x bytes
    by_test true is = named is
    by_test false not = apart not
