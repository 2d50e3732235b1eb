-- What the answers of the steps say.
use Rattle.std.specs.Prelude.{◌≡◌, ℕ, length, Bool, true, false, Option, None, Some}
use Rattle.vol_units.specs.declared.page_ref.PageRef.{PageRef}
use Rattle.sparse_image.specs.Image.{Table}
use Rattle.replica_node.specs.Node.{Node}
use Rattle.replica_node.specs.Fold.{HasBlockOf, HasNoBlockOf}
use Rattle.replica_node.specs.Held.{IsPageOf, PutsPage}
use Rattle.open_calls.specs.Calls.{node_at}
use Rattle.open_rebuild.specs.Listed.{AreListed}
use Rattle.open_rebuild.specs.declared.rebuilding.Rebuilding.{Rebuilding}
use Rattle.open_rebuild.specs.Pages.{HasNoneLeft, IsNextLeft}
use Rattle.volume_core.specs.State.{State}
use Rattle.volume_core.specs.Turn.{IsFreeTurn}
use Rattle.step_answers.specs.declared.answers.NotThis.{NotThis}
use Rattle.step_answers.specs.declared.answers.NotThis.TheVariants as against
use Rattle.volume_rebuild.specs.Places.{IsPast, IsCopied, IsToCopy}
use Rattle.volume_rebuild.specs.Steps.{copied_to, promoted}

-- ---- the next page

-- the first page that is left to copy of the rebuild that is open; none where none is open, or none is left
abbrev pub IsNextPage : State → Option PageRef → Type 0
IsNextPage s None = (b : Rebuilding) → s.rebuild ≡ Some b → HasNoneLeft b
IsNextPage s (Some page) = (b : Rebuilding) × (s.rebuild ≡ Some b) × IsNextLeft b page

-- ---- a page of the source

-- what the source itself has of the page, if it has any block there
abbrev pub IsSourcePage : Node → PageRef → Bool → Table → Table → Type 0
IsSourcePage source page true old new =
    HasBlockOf source page.layer page.page × IsPageOf source page.layer page.page new
IsSourcePage source page false old new = HasNoBlockOf source page.layer page.page × (new ≡ old)

-- the page went out of the source
pub record CopiesOut (s : State) (page : PageRef) (found : Bool) (old new : Table) : Type 0 where
  pub b : Rebuilding
  pub is : IsCopied s b page
  pub out : IsSourcePage (node_at s.nodes b.source) page found old new

-- it is no page of a frozen layer of a rebuild that is past its barrier
abbrev pub IsNoPage : State → PageRef → Type 0
IsNoPage s page = (b : Rebuilding) → IsCopied s b page → ⊥

-- ---- a page of the target

-- where the page is left to copy, these are the blocks that the source itself has there
abbrev pub IsOutOfSource : State → PageRef → Table → Type 0
IsOutOfSource s page table =
    (b : Rebuilding) → IsToCopy s b page → IsPageOf (node_at s.nodes b.source) page.layer page.page table

-- the page came into the target, whose own went out, and is listed
pub record CopiesIn (s : State) (page : PageRef) (old new : Table) (s2 : State) : Type 0 where
  pub b : Rebuilding
  pub is : IsToCopy s b page
  pub after : Node
  pub puts : PutsPage (node_at s.nodes b.target) after page.layer page.page old
  pub back : IsPageOf (node_at s.nodes b.target) page.layer page.page new
  pub state : s2 ≡ copied_to s b page after

-- it is not left to copy
abbrev pub IsNotLeft : State → PageRef → Type 0
IsNotLeft s page = (b : Rebuilding) → IsToCopy s b page → ⊥

-- ---- promotion

-- each page of the rebuild is listed
abbrev pub IsAllListed : Rebuilding → Type 0
IsAllListed b = AreListed b.listed (length b.listed)

-- the command of the ticket has the turn with nothing enrolled, and its rebuild has copied each page
pub record Promotes (s : State) (t : ℕ) (s2 : State) : Type 0 where
  pub b : Rebuilding
  pub turn : IsFreeTurn s t
  pub past : IsPast s b
  pub all : IsAllListed b
  pub state : s2 ≡ promoted s b.target

-- the target is not promoted: the ticket is none that has the turn so, or no rebuild is open; or a page is left of it
abbrev pub AgainstPromote : State → ℕ → NotThis → Type 0
AgainstPromote s t against.Ticket = IsFreeTurn s t → s.rebuild ≡ None
AgainstPromote s t against.Page = IsFreeTurn s t
    × ((b : Rebuilding) × (s.rebuild ≡ Some b) × (IsPast s b → IsAllListed b → ⊥))
AgainstPromote s t why = ⊥
