-- Where a rebuild is past its barrier, and which pages are to be copied.
use Rattle.std.specs.Prelude.{◌≡◌, true, Some}
use Rattle.vol_units.specs.declared.page_ref.PageRef.{PageRef}
use Rattle.open_rebuild.specs.declared.rebuilding.Rebuilding.{Rebuilding}
use Rattle.open_rebuild.specs.Pages.{IsFrozenPage, IsPageLeft}
use Rattle.volume_core.specs.State.{State}

-- the rebuild is open, and its barrier has ended
pub record IsPast (s : State) (b : Rebuilding) : Type 0 where
  pub begun : s.rebuild ≡ Some b
  pub ended : b.may_copy ≡ true

-- the rebuild is open, and the page is one that it copies
pub record IsCopied (s : State) (b : Rebuilding) (page : PageRef) : Type 0 where
  pub begun : s.rebuild ≡ Some b
  pub frozen : IsFrozenPage b page

-- and that is left to copy
pub record IsToCopy (s : State) (b : Rebuilding) (page : PageRef) : Type 0 where
  pub begun : s.rebuild ≡ Some b
  pub left : IsPageLeft b page
