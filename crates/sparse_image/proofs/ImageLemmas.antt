-- Lemmas on specs/Image.antt: what a table that is set in an image changes.
use Rattle.std.proofs.Common.{◌≡◌, ◌≢◌, ⊎_elim, ℕ, ◌+◌, ◌/◌, ◌%◌, ◌<◌, ◌≤◌, Bool, true, false, ◌||◌, ◌&&◌, nat_le}
use Rattle.std.proofs.Common.{nat_lt, eqb, List, [], ◌∷◌, length, replicate, set, get_or-set_same, get_or-set_other}
use Rattle.std.proofs.Common.{length-set, Option, None, sym, refl, ap, ◌∙◌, subst, arith}
use Rattle.std.specs.Option.{option_map, option_or}
use Rattle.std.proofs.lemmas.List.{set_past, get_or-replicate, get_or_past, length-replicate}
use Rattle.std.proofs.lemmas.Bool.{cases_eq, cases_lt, eq-eqb, ne_eqb, false≢true}
use Rattle.std.proofs.Math.Bool.{or-true}
use Rattle.std.proofs.lemmas.Bool.Decides.{nat_tests}
use Rattle.sparse_image.specs.Image.{Table, Tables, place_at, table_at, block_at, has_page, IsEmpty, MakesPages}
use Rattle.sparse_image.specs.Image.{ChangesBlock, EmptiesPage, LaysPageOver, PutsTable, page_over}
use Rattle.sparse_image.specs.Whole.{IsTable, IsImage}
use Rattle.sparse_image.proofs.TableLemmas.{place_at-page_over, length-page_over}

-- the new image has that table at the page, and all other tables of the old
pub record SetsTable (old new : Tables) (page : ℕ) (table : Table) : Type 0 where
  pub count : length new ≡ length old
  pub here : table_at new page ≡ table
  pub others : (other : ℕ) → other ≢ page → table_at new other ≡ table_at old other

pub SetsTable-set : (image : Tables) (page : ℕ) (table : Table) → page < length image → SetsTable image (set image page table) page table
SetsTable-set image page table inside = record {
  count = length-set image page table;
  here = get_or-set_same image page table [] inside;
  others = λ other ne. get_or-set_other image page other table [] ne;
}

-- the same of a table that was read, laid over and is back
pub SetsTable-over : (above below : Tables) (page : ℕ) (upper lower after : Table) → page < length below
    → upper ≡ table_at above page → lower ≡ table_at below page → after ≡ page_over upper lower
    → SetsTable below (set below page after) page (page_over (table_at above page) (table_at below page))
SetsTable-over above below page upper lower after inside up low over =
    subst (SetsTable below (set below page after) page)
    (over ∙ ap (λ t. page_over t lower) up ∙ ap (page_over (table_at above page)) low)
    (SetsTable-set below page after inside)

-- a table that is not made has no block
block_of_none : (image : Tables) (block : ℕ) → table_at image (block / 512) ≡ [] → block_at image block ≡ None
unfolding block_at
block_of_none image block none = ap (λ t. place_at t (block % 512)) none

-- a page that is made is one of the image
pub has_page-inside : (image : Tables) (page : ℕ) → has_page image page ≡ true → (page < length image)
    × (length (table_at image page) ≡ 512)
unfolding has_page
has_page-inside image page made =
    let whole : length (table_at image page) ≡ 512 = grind (arith, nat_tests) in (
      ⊎_elim (λ inside. inside) (λ past. absurd (omega (arith, ap length (get_or_past image page [] past))))
          (cases_lt page (length image)),
      whole,
    )

module _ (old new : Tables) (page : ℕ) (table : Table) (s : SetsTable old new page table) where
  block_here : (block : ℕ) → block / 512 ≡ page → block_at new block ≡ place_at table (block % 512)
  unfolding block_at
  block_here block here = ap (λ p. place_at (table_at new p) (block % 512)) here ∙ ap (λ t. place_at t (block % 512)) s.here

  block_elsewhere : (block : ℕ) → block / 512 ≢ page → block_at new block ≡ block_at old block
  unfolding block_at
  block_elsewhere block elsewhere = ap (λ t. place_at t (block % 512)) (s.others (block / 512) elsewhere)

  page_here : has_page new page ≡ eqb (length table) 512
  unfolding has_page
  page_here = ap (λ t. eqb (length t) 512) s.here

  page_elsewhere : (other : ℕ) → other ≢ page → has_page new other ≡ has_page old other
  unfolding has_page
  page_elsewhere other elsewhere = ap (λ t. eqb (length t) 512) (s.others other elsewhere)

  -- every image keeps what it has to
  pub IsImage-set : IsImage old → IsTable table → IsImage new
  IsImage-set image whole = record {
    count = omega (arith, image.count, s.count);
    tables = λ p.
        ⊎_elim
        (λ same. subst IsTable (sym (ap (table_at new) same ∙ s.here)) whole)
        (λ other. subst IsTable (sym (s.others p other)) (image.tables p))
        (cases_eq p page);
  }

-- ---- pages that are made

-- the pages from the first up to the end
abbrev pub from_to : ℕ → ℕ → ℕ → Bool
from_to first end page = nat_le first page && nat_lt page end

from_first : (first end page : ℕ) → first < end → page ≡ first → from_to first end page ≡ true
from_first first end page some is = grind (arith, nat_tests)

from_later : (first end page : ℕ) → first < end → page ≢ first → from_to first end page ≡ from_to (first + 1) end page
from_later first end page some other = grind (arith, nat_tests)

-- a table that is not made has no places
pub unmade_none : (table : Table) → IsTable table → eqb (length table) 512 ≡ false → table ≡ []
unmade_none [] whole unmade = refl
unmade_none (p ∷ table) whole unmade = absurd (false≢true (sym unmade ∙ eq-eqb (length (p ∷ table)) 512 (whole.size (omega arith))))

-- whether a page is made, by its table
pub has_page-read : (image : Tables) (page : ℕ) (table : Table) → table ≡ table_at image page → has_page image page ≡ eqb (length table) 512
unfolding has_page
has_page-read image page table read = ap (λ t. eqb (length t) 512) (sym read)

-- a new table for a page that was not made
pub MakesPages-set : (image : Tables) (page places : ℕ) (table : Table) → page < length image
    → table ≡ replicate places None → places ≡ 512 → table_at image page ≡ []
    → MakesPages image (set image page table) (λ p. eqb p page)
MakesPages-set image page places table inside new whole none =
    let s = SetsTable-set image page table inside in
    record {
      count = s.count;
      blocks = λ block.
          ⊎_elim
          (λ here.
          block_here image (set image page table) page table s block here
          ∙ ap (λ t. place_at t (block % 512)) new
          ∙ none_at (block % 512)
          ∙ sym (block_of_none image block (ap (table_at image) here ∙ none)))
          (block_elsewhere image (set image page table) page table s block)
          (cases_eq (block / 512) page);
      pages = λ p.
          ⊎_elim
          (λ here. ap (has_page (set image page table)) here
          ∙ page_here image (set image page table) page table s
          ∙ ap (λ n. eqb n 512) (ap length new ∙ length-replicate places None ∙ whole)
          ∙ sym (ap (λ b. b || has_page image p) (eq-eqb p page here)))
          (λ other. page_elsewhere image (set image page table) page table s p other
          ∙ sym (ap (λ b. b || has_page image p) (ne_eqb p page other)))
          (cases_eq p page);
    }
  where
    none_at : (i : ℕ) → place_at (replicate places None) i ≡ None
    none_at i =
        ⊎_elim
        (λ l. get_or-replicate places i None None l)
        (λ l. get_or_past (replicate places None) i None (omega (arith, length-replicate {A = Option (List ℕ)} places None, l)))
        (cases_lt i places)

-- a page that is there already
pub MakesPages-made : (image : Tables) (page : ℕ) → has_page image page ≡ true → MakesPages image image (λ p. eqb p page)
MakesPages-made image page made = record {
  count = refl;
  blocks = λ _. refl;
  pages = λ p.
      ⊎_elim
      (λ here. ap (has_page image) here ∙ made ∙ sym (ap (λ b. b || has_page image p) (eq-eqb p page here)))
      (λ other. sym (ap (λ b. b || has_page image p) (ne_eqb p page other)))
      (cases_eq p page);
}

-- the pages behind the first are made, and the first was there
pub MakesPages-there : (old new : Tables) (first end : ℕ) → first < end → has_page old first ≡ true
    → MakesPages old new (from_to (first + 1) end) → MakesPages old new (from_to first end)
MakesPages-there old new first end some there makes = record {
  count = makes.count;
  blocks = makes.blocks;
  pages = λ page. makes.pages page ∙ ⊎_elim
      (λ here. ap (λ b. from_to (first + 1) end page || b) (ap (has_page old) here ∙ there) ∙ or-true (from_to (first + 1) end page)
      ∙ sym (ap (λ b. b || has_page old page) (from_first first end page some here)))
      (λ other. sym (ap (λ b. b || has_page old page) (from_later first end page some other)))
      (cases_eq page first);
}

-- the pages behind the first are made, and then the first
pub MakesPages-first : (old mid new : Tables) (first end : ℕ) → first < end → MakesPages old mid (from_to (first + 1) end)
    → MakesPages mid new (λ p. eqb p first) → MakesPages old new (from_to first end)
MakesPages-first old mid new first end some later makes = record {
  count = makes.count ∙ later.count;
  blocks = λ block. makes.blocks block ∙ later.blocks block;
  pages = λ page. makes.pages page ∙ ⊎_elim
      (λ here. ap (λ b. b || has_page mid page) (eq-eqb page first here)
      ∙ sym (ap (λ b. b || has_page old page) (from_first first end page some here)))
      (λ other. ap (λ b. b || has_page mid page) (ne_eqb page first other) ∙ later.pages page
      ∙ sym (ap (λ b. b || has_page old page) (from_later first end page some other)))
      (cases_eq page first);
}

-- a page that was not made is none once those behind it are
pub still_unmade : (old mid : Tables) (first end : ℕ) → MakesPages old mid (from_to (first + 1) end) → IsImage mid
    → table_at old first ≡ [] → table_at mid first ≡ []
unfolding has_page
still_unmade old mid first end later whole none =
    unmade_none (table_at mid first) (whole.tables first)
    (later.pages first ∙ ap (λ b. b || has_page old first) (from_before first end) ∙ ap (λ t. eqb (length t) 512) none)
  where
    from_before : (first end : ℕ) → from_to (first + 1) end first ≡ false
    from_before first end = grind (arith, nat_tests)

-- the image that is made
pub IsEmpty-replicate : (page_count : ℕ) → IsEmpty (replicate page_count []) page_count
unfolding has_page
IsEmpty-replicate page_count = record {
  count = length-replicate page_count [];
  blocks = λ block. block_of_none (replicate page_count []) block (none_at (block / 512));
  pages = λ page. ap (λ t. eqb (length t) 512) (none_at page);
}
  where
    none_at : (page : ℕ) → table_at (replicate page_count []) page ≡ []
    none_at page =
        ⊎_elim
        (λ l. get_or-replicate page_count page [] [] l)
        (λ l. get_or_past (replicate page_count []) page [] (omega (arith, length-replicate {A = Table} page_count [], l)))
        (cases_lt page page_count)

-- a place set in a table, where the place holds it after
pub ChangesBlock-set : (old new : Tables) (block : ℕ) (b : Option (List ℕ))
    → SetsTable old new (block / 512) (set (table_at old (block / 512)) (block % 512) b)
    → place_at (set (table_at old (block / 512)) (block % 512) b) (block % 512) ≡ b → ChangesBlock old new block b
unfolding block_at has_page
ChangesBlock-set old new block b s holds =
    let page = block / 512 in
    let i = block % 512 in
    let table = table_at old page in
    record {
      count = s.count;
      here = block_here old new page (set table i b) s block refl ∙ holds;
      others = λ other ne.
          ⊎_elim
          (λ same. let apart : other % 512 ≢ i = omega arith in
          block_here old new page (set table i b) s other same
          ∙ get_or-set_other table i (other % 512) b None apart
          ∙ ap (λ p. place_at (table_at old p) (other % 512)) (sym same))
          (block_elsewhere old new page (set table i b) s other)
          (cases_eq (other / 512) page);
      pages = λ other.
          ⊎_elim
          (λ same. subst (λ p. has_page new p ≡ has_page old p) (sym same) (ap (λ n. eqb n 512) (ap length s.here ∙ length-set table i b)))
          (page_elsewhere old new page (set table i b) s other)
          (cases_eq other page);
    }

-- a block that is changed where it stands
pub place_at-map_set : (table : Table) (i : ℕ) (f : List ℕ → List ℕ)
    → place_at (set table i (option_map f (place_at table i))) i ≡ option_map f (place_at table i)
place_at-map_set table i f =
    ⊎_elim
    (λ inside. get_or-set_same table i (option_map f (place_at table i)) None inside)
    (λ past.
    ap (λ t. place_at t i) (set_past table i (option_map f (place_at table i)) past)
    ∙ get_or_past table i None past
    ∙ sym (ap (option_map f) (get_or_past table i None past)))
    (cases_lt i (length table))

pub EmptiesPage-set : (old new : Tables) (page : ℕ) → SetsTable old new page [] → EmptiesPage old new page
EmptiesPage-set old new page s = record {
  count = s.count;
  blocks = block_here old new page [] s;
  others = block_elsewhere old new page [] s;
  unmade = page_here old new page [] s;
  other_pages = page_elsewhere old new page [] s;
}

pub PutsTable-set : (old new : Tables) (page : ℕ) (table : Table) → SetsTable old new page table → PutsTable old new page table
PutsTable-set old new page table s = record {
  count = s.count;
  blocks = block_here old new page table s;
  others = block_elsewhere old new page table s;
  made = page_here old new page table s;
  other_pages = page_elsewhere old new page table s;
}

or_false : (t : Bool) → t ≡ (t || false)
or_false true = refl
or_false false = refl

-- a table laid over another is made where one of the two was
made_over : (above below : Table) → IsTable above → IsTable below
    → eqb (length (page_over above below)) 512 ≡ (eqb (length above) 512 || eqb (length below) 512)
made_over [] below a b = refl
made_over (x ∷ above) [] a b = or_false (eqb (length (x ∷ above)) 512)
made_over (x ∷ above) (y ∷ below) a b =
    let m : length (x ∷ above) ≡ 512 = a.size (omega arith) in
    let n : length (y ∷ below) ≡ 512 = b.size (omega arith) in
    ap (λ k. eqb k 512) (length-page_over (x ∷ above) (y ∷ below) (m ∙ sym n) ∙ n)
    ∙ sym (ap (λ k. eqb k 512 || eqb (length (y ∷ below)) 512) m)

pub LaysPageOver-set : (above old new : Tables) (page : ℕ)
    → SetsTable old new page (page_over (table_at above page) (table_at old page)) → IsTable (table_at above page)
    → IsTable (table_at old page) → LaysPageOver above old new page
unfolding block_at has_page
LaysPageOver-set above old new page s a b =
    let table = page_over (table_at above page) (table_at old page) in
    record {
      count = s.count;
      blocks = λ block here.
          block_here old new page table s block here
          ∙ place_at-page_over (table_at above page) (table_at old page) (block % 512)
          ∙ ap (λ p. option_or (place_at (table_at above p) (block % 512)) (place_at (table_at old p) (block % 512))) (sym here);
      others = block_elsewhere old new page table s;
      made = page_here old new page table s ∙ made_over (table_at above page) (table_at old page) a b;
      other_pages = page_elsewhere old new page table s;
    }

-- the same of a table that was read, changed at a place and is back
pub ChangesBlock-put : (image : Tables) (block : ℕ) (before after : Table) (b : Option (List ℕ))
    → block / 512 < length image → before ≡ table_at image (block / 512) → after ≡ set before (block % 512) b
    → place_at (set before (block % 512) b) (block % 512) ≡ b → ChangesBlock image (set image (block / 512) after) block b
ChangesBlock-put image block before after b inside read written holds =
    let page = block / 512 in
    ChangesBlock-set image (set image page after) block b
    (subst (λ t. SetsTable image (set image page after) page t) (written ∙ ap (λ t. set t (block % 512) b) read)
    (SetsTable-set image page after inside))
    (ap (λ t. place_at (set t (block % 512) b) (block % 512)) (sym read) ∙ holds)

-- a block past the image's end is not there, and stays so
pub ChangesBlock-past : (image : Tables) (block : ℕ) (f : List ℕ → List ℕ) → length image ≤ block / 512
    → (block_at image block ≡ None) × ChangesBlock image image block (option_map f (block_at image block))
ChangesBlock-past image block f past =
    let none = block_of_none image block (get_or_past image (block / 512) [] past) in
    (none, record { count = refl; here = none ∙ sym (ap (option_map f) none); others = λ _ _. refl; pages = λ _. refl })
