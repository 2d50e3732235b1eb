-- Which blocks a layer itself has, once a page is folded.
use Rattle.std.proofs.Common.{◌≡◌, ◌≢◌, ⊎_elim, ℕ, zero, suc, ◌/◌, ◌<◌, true, false, not, cond, List, [], ◌∷◌, length}
use Rattle.std.proofs.Common.{map, Option, None, Some, is_some, refl, sym, ap, ◌∙◌, arith}
use Rattle.std.specs.Prelude.{◌&&◌, ◌||◌}
use Rattle.std.specs.Option.{option_or}
use Rattle.std.specs.Str.{bytes_eq}
use Rattle.std.proofs.lemmas.Bool.{cases_eq, eq-eqb, ne_eqb}
use Rattle.sparse_image.specs.Image.{Tables, block_at, EmptiesPage, LaysPageOver}
use Rattle.layer_chain.specs.Tree.{name_of, layer_at, IsAt, IsLayers}
use Rattle.layer_chain.specs.declared.layer.Layer.{Layer}
use Rattle.layer_chain.proofs.TreeLemmas.{there_at}
use Rattle.layer_chain.proofs.TreeShape.{apart}
use Rattle.layer_chain.specs.Tree.{parent_of}
use Rattle.coalesce.proofs.ChildLemmas.{same_name, other_name}
use Rattle.sparse_image.specs.Listed.{listed}
use Rattle.replica_node.specs.Node.{kept_in, has_own, own_in}
use Rattle.replica_node.specs.Fold.{own_named, is_in, own_with_page, own_without_page}
use Rattle.sparse_image.proofs.ListedLemmas.{listed-at, listed-same}
use Rattle.replica_node.proofs.NodeLemmas.{length-own_in}

pub is_in-same : (page block : ℕ) → block / 512 ≡ page → is_in page block ≡ true
is_in-same page block e = eq-eqb (block / 512) page e

pub is_in-other : (page block : ℕ) → block / 512 ≢ page → is_in page block ≡ false
is_in-other page block n = ne_eqb (block / 512) page n

-- a block of the image is told to be there
pub own_at : (image : Tables) (count block : ℕ) → block < count → has_own (own_in image count) block ≡ is_some (block_at image block)
own_at image count block h = listed-at (λ k. is_some (block_at image k)) count block h

some_of : (a b : Option (List ℕ)) → is_some (option_or a b) ≡ (is_some a || is_some b)
some_of None b = refl
some_of (Some a) b = refl

pub own_laid_over : (above old new : Tables) (count page : ℕ) → LaysPageOver above old new page
    → own_in new count ≡ own_with_page page (own_in above count) (own_in old count)
own_laid_over above old new count page lays =
    let after = λ (k : ℕ). (is_in page k && has_own (own_in above count) k) || has_own (own_in old count) k in
    listed-same (λ k. is_some (block_at new k)) after count (λ k h. each k h) ∙ ap (listed after) (sym (length-own_in old count))
  where
    each : (k : ℕ) → k < count
        → is_some (block_at new k) ≡ ((is_in page k && has_own (own_in above count) k) || has_own (own_in old count) k)
    each k h = ⊎_elim
        (λ e. ap is_some (lays.blocks k e) ∙ some_of (block_at above k) (block_at old k)
        ∙ ap (λ b. b || is_some (block_at old k)) (sym (own_at above count k h))
        ∙ ap (λ b. has_own (own_in above count) k || b) (sym (own_at old count k h))
        ∙ ap (λ b. (b && has_own (own_in above count) k) || has_own (own_in old count) k) (sym (is_in-same page k e)))
        (λ n. ap is_some (lays.others k n) ∙ sym (own_at old count k h)
        ∙ ap (λ b. (b && has_own (own_in above count) k) || has_own (own_in old count) k) (sym (is_in-other page k n)))
        (cases_eq (k / 512) page)

pub own_emptied : (old new : Tables) (count page : ℕ) → EmptiesPage old new page
    → own_in new count ≡ own_without_page page (own_in old count)
own_emptied old new count page empties =
    let after = λ (k : ℕ). not (is_in page k) && has_own (own_in old count) k in
    listed-same (λ k. is_some (block_at new k)) after count (λ k h. each k h) ∙ ap (listed after) (sym (length-own_in old count))
  where
    each : (k : ℕ) → k < count → is_some (block_at new k) ≡ (not (is_in page k) && has_own (own_in old count) k)
    each k h = ⊎_elim
        (λ e. ap is_some (empties.blocks k e) ∙ ap (λ b. not b && has_own (own_in old count) k) (sym (is_in-same page k e)))
        (λ n. ap is_some (empties.others k n) ∙ sym (own_at old count k h)
        ∙ ap (λ b. not b && has_own (own_in old count) k) (sym (is_in-other page k n)))
        (cases_eq (k / 512) page)

-- the layer of the name has the blocks of its image
pub own_of : (xs layers : List Layer) (count : ℕ) (name : List ℕ) (i : ℕ) → IsLayers xs → IsAt xs name i
    → own_named (map (kept_in layers count) xs) name ≡ own_in (layer_at xs i).image count
own_of [] layers count name i tree at = absurd (omega (arith, at.within))
own_of (x ∷ xs) layers count name zero tree at =
    ap (λ b. cond b (own_in x.image count) (own_named (map (kept_in layers count) xs) name)) (ap (bytes_eq name) at.named ∙ same_name name)
own_of (x ∷ xs) layers count name (suc i) tree at =
    let in_i : i < length xs = omega (arith, at.within) in
    ap (λ b. cond b (own_in x.image count) (own_named (map (kept_in layers count) xs) name))
    (other_name name (name_of x) (λ e. apart name_of parent_of (name_of x) name xs tree.0 (there_at xs i name _ in_i at.named) (sym e)))
    ∙ own_of xs layers count name i tree.2 (record { within = in_i; named = at.named })
