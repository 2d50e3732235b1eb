-- What is in hand while the pages of a rebuild are copied.
use Rattle.std.specs.Prelude.{◌≡◌, ◌≢◌, ◌⊎◌, ℕ, ◌<◌, Bool, true, List, [], length, slice_index_or, Option, Some}
use Rattle.sparse_image.specs.Image.{Table, HasBlock}
use Rattle.page_text.specs.Text.{page_text}
use Rattle.vol_units.specs.declared.page_ref.PageRef.{PageRef}
use Rattle.rebuild_worker.specs.declared.steps.CopySide.{CopySide}
use Rattle.rebuild_worker.specs.declared.steps.CopySide.TheVariants.{Source, Target}
use Rattle.rebuild_worker.specs.Copying.{Copying, OnLine}
use Rattle.client_worker.specs.declared.channel.Channel.{Channel}
use Rattle.client_worker.specs.Exchanges.{told_in}
use Rattle.stream_steps.specs.Mine.{Mine, OwnCall, with_running}
use Rattle.stream_steps.specs.Add.{HasAdd}
use Rattle.client_worker.specs.Serving.{IsShown}

-- the replica to which a frame goes
abbrev pub replica_for : CopySide → ℕ → ℕ → ℕ
replica_for Source source target = source
replica_for Target source target = target

-- a line with what it tells, and the number of its last exchange
abbrev pub on_line : {L : Type 0} → (L → Option (List (List ℕ))) → Channel L → OnLine
on_line told c = record { told = told c.line; seq = c.seq }

-- how far the copying is, with lines that tell this and have begun so many exchanges
abbrev pub work_of : ℕ → Option PageRef → Bool → List (Option (List (List ℕ))) → List ℕ → ℕ → ℕ → Copying
work_of left hand read carried begun source target = record {
  left = left;
  hand = hand;
  read = read;
  source = record { told = told_in carried source; seq = slice_index_or begun source 0 };
  target = record { told = told_in carried target; seq = slice_index_or begun target 0 };
}

-- two of the lines
pub record AreLines (count source target : ℕ) : Type 0 where
  pub from : source < count
  pub to : target < count
  pub apart : source ≢ target

-- the page in hand waits to be copied, and once it was read, these are its blocks
pub record HasInHand (awaits : PageRef → Type 0) (is_page : PageRef → Table → Type 0) (hand : Option PageRef) (read : Bool)
    (blocks : Table) : Type 0 where
  pub waits : (page : PageRef) → hand ≡ Some page → awaits page
  pub reads : (page : PageRef) → hand ≡ Some page → read ≡ true → is_page page blocks

-- Of lines that tell these counts, and this of what they carried: the add of that ticket has the turn, its rebuild was
-- begun, what the lines show is shown, and the page in hand is as it should be.
pub record IsCopying (t source target : ℕ) (m : Mine) (counts : List ℕ) (carried : List (Option (List (List ℕ))))
    (begun : Type 0) (awaits : PageRef → Type 0) (is_page : PageRef → Table → Type 0) (hand : Option PageRef) (read : Bool)
    (blocks : Table) : Type 0 where
  pub turn : (r : ℕ) × (o : OwnCall) × HasAdd t r o m
  pub rebuild : begun
  pub shown : IsShown (with_running m []) counts carried
  pub lines : AreLines (length carried) source target
  pub page : HasInHand awaits is_page hand read blocks

-- the text of the page's blocks, and no byte where it has none
pub record IsTextOn (is_page : PageRef → Table → Type 0) (page : PageRef) (text : List ℕ) : Type 0 where
  pub blocks : Table
  pub are : is_page page blocks
  pub spelled : (HasBlock blocks × (text ≡ page_text page.layer blocks)) ⊎ ((blocks ≡ []) × (text ≡ []))
