-- Blocks that are read of a file, one after another.
use Rattle.std.proofs.Common.{◌≡◌, ℕ, zero, suc, ◌+◌, ◌<◌, ◌≤◌, Bool, true, false, List, [], ◌∷◌, length}
use Rattle.std.proofs.Common.{get_or, take, Option, Some, None, Ok, refl, sym, ap, subst, ◌∙◌, arith}
use Rattle.std.specs.Prelude.{◌&&◌, ◌||◌, ◌==◌, nat_le, nat_lt, if◌then◌else◌}
use Rattle.std.proofs.lemmas.List.{take_more}
use Rattle.std.proofs.lemmas.Bool.Decides.{nat_tests}
use Rattle.shelf_traits.specs.Files.{Files}
use Rattle.sparse_image.specs.Image.{Tables, block_at, IsEmpty}
use Rattle.image_maps.specs.Maps.{AreSpans, is_within, has_block}
use Rattle.image_maps.specs.declared.span.BlockSpan.{BlockSpan}
use Rattle.image_maps.proofs.MapLemmas.{has_push}
use Rattle.replica_node.specs.Held.{block_of}
use Rattle.folder_checks.specs.Told.{Told}
use Rattle.folder_checks.proofs.ToldLemmas.{told_map, told_two, told_back}
use Rattle.replica_open.specs.Reading.{IsImageRead, ReadsBlocks, ReadsOrStops}

-- ---- more blocks

reads_then : (bytes : List ℕ) (p q r : ℕ → Bool) (x y z : Tables) → ((k : ℕ) → r k ≡ (p k || q k)) → ReadsBlocks bytes p x y
    → ReadsBlocks bytes q y z → ReadsBlocks bytes r x z
reads_then bytes p q r x y z is first next k =
    next k ∙ ap (λ o. if q k then Some (block_of bytes k) else o) (first k) ∙ join (p k) (q k)
    ∙ ap (λ t. if t then Some (block_of bytes k) else block_at x k) (sym (is k))
  where
    join : (a b : Bool) → (if b then Some (block_of bytes k) else (if a then Some (block_of bytes k) else block_at x k))
        ≡ (if a || b then Some (block_of bytes k) else block_at x k)
    join true true = refl
    join true false = refl
    join false true = refl
    join false false = refl

-- a read of more blocks behind others
pub told_more : (a b : Option Files) (shelf size long : ℕ) (file : List ℕ) (p q r : ℕ → Bool) (x y z : Tables) (found : Option ℕ)
    → b ≡ a → long ≡ size → found ≡ None → ((k : ℕ) → r k ≡ (p k || q k))
    → Told a (λ files. ReadsOrStops (files shelf) size file p x y None)
    → Told b (λ files. ReadsOrStops (files shelf) long file q y z found)
    → Told a (λ files. ReadsOrStops (files shelf) size file r x z None)
told_more a b shelf size long file p q r x y z found same long_is none is first next =
    let Next : ℕ → Option ℕ → Files → Type 0 = λ n o files. ReadsOrStops (files shelf) n file q y z o in
    told_two a (λ files. ReadsOrStops (files shelf) size file p x y None) (Next size None) _ first
    (told_back a b _ same (subst (λ n. Told b (Next n None)) long_is (subst (λ o. Told b (Next long o)) none next)))
    (λ files one two held. reads_then held.0 p q r x y z is (one held) (two held))

-- ---- which blocks

pub range_more : (first block k : ℕ) → first ≤ block
    → (nat_le first k && nat_lt k (block + 1)) ≡ ((nat_le first k && nat_lt k block) || (k == block))
range_more first block k rise = grind (arith, nat_tests)

pub spans_more : (ss : List BlockSpan) (i : ℕ) (d : BlockSpan) (k : ℕ) → i < length ss
    → has_block (take (i + 1) ss) k ≡ (has_block (take i ss) k || is_within (get_or ss i d) k)
spans_more ss i d k less = ap (λ s. has_block s k) (take_more ss i d less) ∙ has_push (take i ss) (get_or ss i d) k

-- each run lies within so many blocks
pub span_fits : (blocks : ℕ) (ss : List BlockSpan) (least i : ℕ) (d : BlockSpan) → AreSpans least blocks ss → i < length ss
    → (get_or ss i d).first + (get_or ss i d).count ≤ blocks
span_fits blocks [] least i d fit less = absurd (omega arith)
span_fits blocks (s ∷ ss) least zero d fit less = fit.0.most
span_fits blocks (s ∷ ss) least (suc i) d fit less = span_fits blocks ss (s.first + s.count + 1) i d fit.1 (omega arith)

-- ---- all of them

pub read_is : (a : Option Files) (shelf size long : ℕ) (file : List ℕ) (spans : List BlockSpan) (x z : Tables) (n : ℕ) (found : Option ℕ)
    → IsEmpty x n → long ≡ size → found ≡ None
    → Told a (λ files. ReadsOrStops (files shelf) long file (has_block spans) x z found)
    → Told a (λ files. IsImageRead (files shelf) size file spans (Ok z))
read_is a shelf size long file spans x z n found empty long_is none told =
    let Reads : ℕ → Option ℕ → Files → Type 0 = λ l o files. ReadsOrStops (files shelf) l file (has_block spans) x z o in
    told_map a (Reads size None) _ (subst (λ l. Told a (Reads l None)) long_is (subst (λ o. Told a (Reads long o)) none told))
    (λ files reads held. record {
      bytes = held.0;
      there = held.1;
      blocks = λ k. reads held k ∙ ap (λ o. if has_block spans k then Some (block_of held.0 k) else o) (empty.blocks k);
    })

-- what is told of a file by its name is told of it by another
pub of_file : (a : Option Files) (f g : List ℕ) (P : List ℕ → Files → Type 0) → f ≡ g → Told a (P f) → Told a (P g)
of_file a f g P is told = subst (λ n. Told a (P n)) is told
