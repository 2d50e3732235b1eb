-- A block of an image is in a page that is made, and stays so.
use Rattle.std.proofs.Common.{◌≡◌, ⊎_elim, ℕ, ◌*◌, ◌/◌, ◌%◌, Bool, true, false, List, Option, None, is_some, refl, sym, ap, ◌∙◌}
use Rattle.std.specs.Prelude.{◌||◌}
use Rattle.std.specs.Option.{option_or}
use Rattle.std.proofs.lemmas.Bool.{cases_eq, false≢true}
use Rattle.sparse_image.specs.Image.{Table, Tables, block_at, place_at, has_page, IsEmpty, ChangesBlock, EmptiesPage}
use Rattle.sparse_image.specs.Image.{LaysPageOver, PutsTable}
use Rattle.sparse_image.specs.Whole.{IsTable}
use Rattle.sparse_image.proofs.ImageLemmas.{unmade_none}
use Rattle.replica_node.specs.Node.{IsInPages, IsImageOf}

-- neither is
no_first : (a b : Bool) → (a || b) ≡ false → a ≡ false
no_first false b none = refl
no_first true b none = none

no_second : (a b : Bool) → (a || b) ≡ false → b ≡ false
no_second false b none = none
no_second true b none = absurd (false≢true (sym none))

-- an image of no blocks
pub made_empty : (image : Tables) (page_count : ℕ) → IsEmpty image page_count → IsInPages image
made_empty image page_count e = λ block unmade. e.blocks block

-- a block of a page that is made is changed
pub made_changed : (old new : Tables) (block : ℕ) (after : Option (List ℕ)) → ChangesBlock old new block after
    → has_page old (block / 512) ≡ true
    → IsInPages old → IsInPages new
made_changed old new block after changes page made = λ k unmade.
    let was : has_page old (k / 512) ≡ false = sym (changes.pages (k / 512)) ∙ unmade in
    ⊎_elim
    (λ here. absurd (false≢true (sym was ∙ ap (λ n. has_page old (n / 512)) here ∙ page)))
    (λ other. changes.others k other ∙ made k was)
    (cases_eq k block)

-- where a block is there, its page is made
pub made_there : (image : Tables) (block : ℕ) → IsInPages image → is_some (block_at image block) ≡ true
    → has_page image (block / 512) ≡ true
made_there image block made there = go (has_page image (block / 512)) refl
  where
    go : (b : Bool) → has_page image (block / 512) ≡ b → has_page image (block / 512) ≡ true
    go true is = is
    go false is = absurd (false≢true (sym (ap is_some (made block is)) ∙ there))

-- a page of another is laid over
pub made_over : (above old new : Tables) (count page : ℕ) → LaysPageOver above old new page → IsInPages above
    → IsImageOf count old → IsImageOf count new
made_over above old new count page lays above_made is = record {
  pages = ap (λ l. l * 512) lays.count ∙ is.pages;
  made = λ k unmade. ⊎_elim
      (λ here.
      let none : (has_page above (k / 512) || has_page old (k / 512)) ≡ false =
      ap (λ p. has_page above p || has_page old p) here ∙ sym lays.made ∙ sym (ap (has_page new) here) ∙ unmade in
      lays.blocks k here
      ∙ both (above_made k (no_first _ _ none)) (is.made k (no_second _ _ none)))
      (λ other. lays.others k other ∙ is.made k (sym (lays.other_pages (k / 512) other) ∙ unmade))
      (cases_eq (k / 512) page);
}
  where
    both : {a b : Option (List ℕ)} → a ≡ None → b ≡ None → option_or a b ≡ None
    both p q = rw (p, q) refl

-- a page goes
pub made_emptied : (old new : Tables) (count page : ℕ) → EmptiesPage old new page → IsImageOf count old → IsImageOf count new
made_emptied old new count page empties is = record {
  pages = ap (λ l. l * 512) empties.count ∙ is.pages;
  made = λ k unmade. ⊎_elim
      (λ here. empties.blocks k here)
      (λ other. empties.others k other ∙ is.made k (sym (empties.other_pages (k / 512) other) ∙ unmade))
      (cases_eq (k / 512) page);
}

-- a page is put
pub made_put : (old new : Tables) (count page : ℕ) (table : Table) → PutsTable old new page table → IsTable table
    → IsImageOf count old → IsImageOf count new
made_put old new count page table puts whole is = record {
  pages = ap (λ l. l * 512) puts.count ∙ is.pages;
  made = λ k unmade. ⊎_elim
      (λ here. puts.blocks k here
      ∙ ap (λ t. place_at t (k % 512)) (unmade_none table whole (sym puts.made ∙ sym (ap (has_page new) here) ∙ unmade)))
      (λ other. puts.others k other ∙ is.made k (sym (puts.other_pages (k / 512) other) ∙ unmade))
      (cases_eq (k / 512) page);
}
