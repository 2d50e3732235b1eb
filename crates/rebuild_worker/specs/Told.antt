-- What the two lines of a rebuild tell of the pages that were copied.
use Rattle.std.specs.Prelude.{◌≡◌, ℕ, ◌+◌, List, [], ◌∷◌, ◌++◌, length, All, None}
use Rattle.outer_traits.specs.Lines.{TellsMore}
use Rattle.vol_units.specs.declared.page_ref.PageRef.{PageRef}
use Rattle.rebuild_worker.specs.declared.steps.Carried.{Carried}
use Rattle.rebuild_worker.specs.declared.steps.Carried.TheVariants as carried
use Rattle.rebuild_worker.specs.declared.copy.Copied.{Copied}
use Rattle.rebuild_worker.specs.declared.copy.Copied.TheVariants as copied
use Rattle.rebuild_worker.specs.Copying.{Copying, OnLine}
use Rattle.rebuild_worker.specs.Frames.{source_request, source_reply, target_request, target_reply}

-- a page that was copied, and its text: no byte where it has no block
pub record CopiedPage : Type 0 where
  pub page : PageRef
  pub text : List ℕ

-- what is carried of it to the source, by the number of the exchange: nothing where it has no block
abbrev pub to_source : ℕ → PageRef → List ℕ → List (List ℕ)
to_source seq page [] = []
to_source seq page (b ∷ bs) = source_request seq page ∷ source_reply seq page (b ∷ bs) ∷ []

-- and to the replica that is rebuilt
abbrev pub to_target : ℕ → PageRef → List ℕ → List (List ℕ)
to_target seq page [] = []
to_target seq page (b ∷ bs) = target_request seq page (b ∷ bs) ∷ target_reply seq page (b ∷ bs) ∷ []

-- these frames are those of the pages, in order
abbrev pub AreOf : (ℕ → PageRef → List ℕ → List (List ℕ)) → List CopiedPage → List (List ℕ) → Type 0
AreOf carried_of [] frames = frames ≡ []
AreOf carried_of (p ∷ ps) frames =
    (seq : ℕ) × (rest : List (List ℕ)) × (frames ≡ carried_of seq p.page p.text ++ rest) × AreOf carried_of ps rest

-- of these pages both lines tell just that, behind what they told before
pub record TellPages (pages : List CopiedPage) (old new : Copying) : Type 0 where
  pub source_frames : List (List ℕ)
  pub target_frames : List (List ℕ)
  pub of_source : AreOf to_source pages source_frames
  pub of_target : AreOf to_target pages target_frames
  pub source : TellsMore old.source.told new.source.told source_frames
  pub target : TellsMore old.target.told new.target.told target_frames

-- each of the pages has that text on the source
abbrev pub HaveTexts : (PageRef → List ℕ → Type 0) → List CopiedPage → Type 0
HaveTexts is_text pages = All (λ (p : CopiedPage). is_text p.page p.text) pages

-- one page was listed, and none is in hand
pub record Lists (old new : Copying) : Type 0 where
  pub left : new.left + 1 ≡ old.left
  pub hand : new.hand ≡ None

-- the line tells no more
abbrev pub IsUntold : OnLine → OnLine → Type 0
IsUntold old new = TellsMore old.told new.told []

-- the page was asked of the source, which replied with that text
abbrev pub TakesPage : PageRef → List ℕ → OnLine → OnLine → Type 0
TakesPage page text old new =
    (seq : ℕ) × TellsMore old.told new.told (source_request seq page ∷ source_reply seq page text ∷ [])

-- that text was sent to the replica that is rebuilt, which replied that it has it
abbrev pub SendsPage : PageRef → List ℕ → OnLine → OnLine → Type 0
SendsPage page text old new =
    (seq : ℕ) × TellsMore old.told new.told (target_request seq page text ∷ target_reply seq page text ∷ [])

-- one page was listed: both lines carried it whole, or nothing where it has no block
pub record CopiesPage (page : PageRef) (is_text : PageRef → List ℕ → Type 0) (old new : Copying) : Type 0 where
  pub text : List ℕ
  pub is : is_text page text
  pub tells : TellPages (record { page = page; text = text } ∷ []) old new

-- so many pages were listed as the number fell by, each carried so
pub record CopiesPages (is_text : PageRef → List ℕ → Type 0) (old new : Copying) : Type 0 where
  pub pages : List CopiedPage
  pub texts : HaveTexts is_text pages
  pub count : length pages + new.left ≡ old.left
  pub tells : TellPages pages old new

-- the rebuild's aborted mark stands where it is told
abbrev pub IfEnded : Carried → (ℕ → Type 0) → Type 0
IfEnded carried.Whole aborted = Unit {0}
IfEnded (carried.Ended place) aborted = aborted place

-- how a copying ends: with every page listed and none in hand, or where its mark stands
abbrev pub CopyEnds : Copied → (ℕ → Type 0) → (PageRef → List ℕ → Type 0) → Copying → Copying → Type 0
CopyEnds copied.All aborted is_text old new = (new.left ≡ 0) × (new.hand ≡ None) × CopiesPages is_text old new
CopyEnds (copied.Ended place) aborted is_text old new = aborted place
