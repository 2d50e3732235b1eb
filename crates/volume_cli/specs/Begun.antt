-- How a run begins: on the folders that it opens, or blank.
use Rattle.std.specs.Prelude.{◌≡◌, ◌⊎◌, ℕ, ◌<◌, true, false, List, [], length, Option, Some, IfSome}
use Rattle.shelf_traits.specs.Files.{Files}
use Rattle.folder_checks.specs.Told.{Told}
use Rattle.volume_model.specs.History.{Spot}
use Rattle.replica_node.specs.Node.{Node}
use Rattle.script_text.specs.declared.script.Script.{Script}
use Rattle.script_text.specs.declared.what.What.{What}
use Rattle.script_text.specs.Script.{IsScript, IsNoScript}
use Rattle.volume_folders.specs.declared.heads.OpenedHead.{OpenedHead}
use Rattle.volume_folders.specs.declared.reason.Reason.{Reason}
use Rattle.volume_folders.specs.Heads.{AreHeadsTold}
use Rattle.volume_folders.specs.Opened.{AreAllOpened, IsClean, NoneIsClean}
use Rattle.opened_world.specs.Opening.{opened_spot}
use Rattle.stream_turns.specs.Volume.{blank_spot}

-- why each replica is not read and written, what was read of each head, and the volume with the modes; a run that opens
-- nothing has neither reasons nor heads
pub record Begin : Type 0 where
  pub reasons : List (Option Reason)
  pub heads : List (Option OpenedHead)
  pub spot : Spot

abbrev pub blank_begin : Script → Begin
blank_begin script = record { reasons = []; heads = []; spot = blank_spot script }

-- The run begins on these folders, one for each replica: the lowest clean one is the disk, and the others are told.
pub record BeginsOn (files : Files) (script : Script) (begin : Begin) : Type 0 where
  pub nodes : List Node
  pub opened : AreAllOpened files script.size script.replicas nodes begin.reasons
  pub heads : AreHeadsTold files begin.reasons begin.heads
  pub spot : begin.spot ≡ opened_spot nodes begin.reasons

-- on the folders that were handed in, where the script opens them and they are told, and blank where it does not
pub record HasBegun (held : Option Files) (script : Script) (begin : Begin) : Type 0 where
  pub opened : script.opens ≡ true → Told held (λ files. BeginsOn files script begin)
  pub blank : script.opens ≡ false → begin ≡ blank_begin script

-- the script opens folders of which none is clean, each for its reason
pub record HasNoCleanShelf (held : Option Files) (script : Script) (reasons : List Reason) : Type 0 where
  pub opens : script.opens ≡ true
  pub many : length reasons ≡ script.replicas
  pub refused : Told held (λ files. NoneIsClean files script.size reasons)

-- ---- where the shelves tell what they hold, and the source what it had

-- some folder of the volume is clean
abbrev pub HasCleanShelf : Script → Files → Type 0
HasCleanShelf script files = (r : ℕ) × (r < script.replicas) × IsClean (files r) script.size

-- the shelves tell what they hold, and that is so
abbrev pub Tells : Option Files → (Files → Type 0) → Type 0
Tells held Says = (files : Files) × (held ≡ Some files) × Says files

-- a run can begin where nothing is opened, or some folder is clean
abbrev pub CanBegin : Option Files → Script → Type 0
CanBegin held script = (script.opens ≡ false) ⊎ Tells held (HasCleanShelf script)

-- and cannot where folders are opened of which none is
abbrev pub CannotBegin : Option Files → Script → Type 0
CannotBegin held script = (script.opens ≡ true) × Tells held (λ files. HasCleanShelf script files → ⊥)

-- the source had this script, where it tells what it had
abbrev pub HadScript : Option (List ℕ) → Script → Type 0
HadScript left script = (input : List ℕ) × IsScript input script × IfSome left (λ told. told ≡ input)

-- what the source had is no script, for this reason first, at this place
abbrev pub HadNoScript : Option (List ℕ) → ℕ → What → Type 0
HadNoScript left place what = IfSome left (λ told. IsNoScript told place what)
