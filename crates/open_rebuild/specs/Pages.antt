-- The pages that a rebuild has still to copy, in the order of layers and pages.
use Rattle.std.specs.Prelude.{◌≡◌, ◌⊎◌, ◌+◌, ◌*◌, ◌<◌, false, true, length, Contains}
use Rattle.vol_units.specs.declared.page_ref.PageRef.{PageRef}
use Rattle.open_rebuild.specs.Listed.{AreListed, IsFirstLeft, place_of}
use Rattle.open_rebuild.specs.declared.rebuilding.Rebuilding.{Rebuilding}
use Rattle.open_rebuild.specs.Claim.{listed_of}

-- the page is one of a frozen layer, and the barrier has ended
pub record IsFrozenPage (b : Rebuilding) (p : PageRef) : Type 0 where
  pub may : b.may_copy ≡ true
  pub layer : Contains b.frozen p.layer
  pub page : p.page < b.pages

-- and it is not copied yet
pub record IsPageLeft (b : Rebuilding) (p : PageRef) : Type 0 where
  pub frozen : IsFrozenPage b p
  pub left : listed_of b p.layer p.page ≡ false

-- no page may be copied, or each is
abbrev pub HasNoneLeft : Rebuilding → Type 0
HasNoneLeft b = (b.may_copy ≡ false) ⊎ AreListed b.listed (length b.listed)

-- the page is left, and each before it is copied
pub record IsNextLeft (b : Rebuilding) (p : PageRef) : Type 0 where
  pub left : IsPageLeft b p
  pub first : IsFirstLeft b.listed (place_of b.frozen p.layer * b.pages + p.page)
