-- How far the copying of a rebuild is, and what each step makes of it.
use Rattle.std.specs.Prelude.{◌≡◌, ℕ, ◌+◌, ◌%◌, ◌^◌, ◌==◌, if◌then◌else◌, ◌<◌, ◌≤◌, Bool, true, false, List, [], ◌∷◌}
use Rattle.std.specs.Prelude.{◌++◌, length, Option, None, Some}
use Rattle.sparse_image.specs.Image.{Table, HasBlock}
use Rattle.sparse_image.specs.Whole.{IsTable}
use Rattle.page_text.specs.Text.{page_text, longest_text}
use Rattle.frame_wire.specs.declared.head.Head.{Head}
use Rattle.frame_wire.specs.Spelling.{frame, IsHead}
use Rattle.outer_traits.specs.Lines.{TellsMore}
use Rattle.vol_units.specs.declared.page_ref.PageRef.{PageRef}
use Rattle.rebuild_worker.specs.declared.steps.CopyNext.{CopyNext}
use Rattle.rebuild_worker.specs.declared.steps.CopyNext.TheVariants as next
use Rattle.rebuild_worker.specs.declared.steps.CopyOut.{CopyOut}
use Rattle.rebuild_worker.specs.declared.steps.CopyOut.TheVariants as out
use Rattle.rebuild_worker.specs.declared.steps.CopyPut.{CopyPut}
use Rattle.rebuild_worker.specs.declared.steps.CopyPut.TheVariants as put
use Rattle.rebuild_worker.specs.declared.steps.CopySide.{CopySide}
use Rattle.rebuild_worker.specs.declared.steps.CopySide.TheVariants.{Source, Target}
use Rattle.rebuild_worker.specs.declared.steps.Carried.{Carried}
use Rattle.rebuild_worker.specs.declared.steps.Carried.TheVariants as carried
use Rattle.rebuild_worker.specs.Frames.{response_kind}

-- a line: the frames that it carried whole, in order, where it tells them, and the number of its last exchange
pub record OnLine : Type 0 where
  pub told : Option (List (List ℕ))
  pub seq : ℕ

-- how many pages of frozen layers are not listed as copied, the page in hand and whether it was read, and both lines
pub record Copying : Type 0 where
  pub left : ℕ
  pub hand : Option PageRef
  pub read : Bool
  pub source : OnLine
  pub target : OnLine

-- ---- what stays

-- The next step can be taken, and what no step changes is as it was. What was true of the rebuild's end, of the source's
-- pages and else for good is true still, and no more pages are left.
pub record KeepsCopying {S H F : Type 0} (can : S → Type 0) (at : S → H) (aborted : S → ℕ → Type 0)
    (of_page : S → PageRef → List ℕ → Type 0) (lasts : S → F → Type 0) (of : S → Copying) (s s2 : S) : Type 0 where
  pub ready : can s2
  pub home : at s2 ≡ at s
  pub ended : (place : ℕ) → aborted s place → aborted s2 place
  pub texts : (page : PageRef) (text : List ℕ) → of_page s page text → of_page s2 page text
  pub stays : (fact : F) → lasts s fact → lasts s2 fact
  pub fewer : (of s2).left ≤ (of s).left

-- what is in hand is as it was
pub record KeepsHand (old new : Copying) : Type 0 where
  pub hand : new.hand ≡ old.hand
  pub read : new.read ≡ old.read

-- nothing is carried on the line
pub record IsQuiet (old new : OnLine) : Type 0 where
  pub told : TellsMore old.told new.told []
  pub seq : new.seq ≡ old.seq

-- and on neither
pub record AreQuiet (old new : Copying) : Type 0 where
  pub source : IsQuiet old.source new.source
  pub target : IsQuiet old.target new.target

-- ---- what a step does

-- takes a page in hand that is not listed, unread; or all are listed
abbrev pub TakesTo : CopyNext → (ℕ → Type 0) → Copying → Copying → Type 0
TakesTo (next.Page page) aborted old new =
    (new.hand ≡ Some page) × (new.read ≡ false) × (new.left ≡ old.left) × (0 < new.left)
TakesTo next.All aborted old new = (new.hand ≡ None) × (new.left ≡ old.left) × (new.left ≡ 0)
TakesTo (next.Ended place) aborted old new = aborted place

-- the bytes are the text of a page that has a block
pub record IsTextOf (page : PageRef) (text : List ℕ) : Type 0 where
  pub table : Table
  pub whole : IsTable table
  pub block : HasBlock table
  pub spelled : text ≡ page_text page.layer table
  pub few : length text ≤ longest_text

-- reads the page in hand: appends its text, and nothing where it has no block
abbrev pub ReadsTo : CopyOut → PageRef → (ℕ → Type 0) → (PageRef → List ℕ → Type 0) → List ℕ → List ℕ → Copying → Copying → Type 0
ReadsTo out.Empty page aborted is_text before after old new =
    (new.left ≡ old.left) × (new.hand ≡ Some page) × (new.read ≡ true) × (after ≡ before) × is_text page []
ReadsTo out.Text page aborted is_text before after old new =
    (new.left ≡ old.left) × (new.hand ≡ Some page) × (new.read ≡ true)
    × ((text : List ℕ) × (after ≡ before ++ text) × IsTextOf page text × is_text page text)
ReadsTo (out.Ended place) page aborted is_text before after old new = aborted place

-- puts the page in hand: it is listed, and none is in hand
abbrev pub PutsTo : CopyPut → (ℕ → Type 0) → Copying → Copying → Type 0
PutsTo put.Listed aborted old new = (new.left + 1 ≡ old.left) × (new.hand ≡ None)
PutsTo (put.Ended place) aborted old new = aborted place

-- the header with that number
abbrev pub numbered : ℕ → Head → Head
numbered seq h = record h { seq = seq }

-- the number of a frame's exchange, modulo 2^32: a reply has that of the request before it, any other frame the next
abbrev pub number_after : ℕ → ℕ → ℕ
number_after last kind = if kind == response_kind then last else (last + 1) % 2 ^ 32

-- a frame came through with the number of its exchange on the line, and is told behind those before it
pub record CarriesOn (old new : OnLine) (before after : List ℕ) : Type 0 where
  pub told : TellsMore old.told new.told (after ∷ [])
  pub spelled : (h : Head) (body : List ℕ) → before ≡ frame h body → after ≡ frame (numbered new.seq h) body
  pub number : (h : Head) (body : List ℕ) → IsHead h → before ≡ frame h body → new.seq ≡ number_after old.seq h.kind

-- a frame came through to that replica, and as many pages are left; or the line failed, and so the rebuild
abbrev pub CarriesTo : CopySide → Carried → (ℕ → Type 0) → List ℕ → List ℕ → Copying → Copying → Type 0
CarriesTo Source carried.Whole aborted before after old new =
    CarriesOn old.source new.source before after × IsQuiet old.target new.target × (new.left ≡ old.left)
CarriesTo Target carried.Whole aborted before after old new =
    CarriesOn old.target new.target before after × IsQuiet old.source new.source × (new.left ≡ old.left)
CarriesTo side (carried.Ended place) aborted before after old new = aborted place
