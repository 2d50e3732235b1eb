-- What making a backup asks and answers.
use Rattle.std.specs.Prelude.{◌≡◌, ◌≢◌, ⊤, ◌*◌, ◌<◌, ℕ, Bool, true, false, List, length, Option, None, Some}
use Rattle.outer_traits.specs.declared.error.OuterError.{OuterError}
use Rattle.outer_traits.specs.declared.error.OuterError.TheVariants as outer
use Rattle.target_traits.specs.Objects.{Objects}
use Rattle.block_store.specs.declared.error.StoreError.{StoreError}
use Rattle.block_store.specs.declared.error.StoreError.TheVariants as store_error
use Rattle.backup_units.specs.Backups.{IsBackup, IsKept, listed_at, listed_of, page_at}
use Rattle.backup_units.specs.Blocks.{HoldsBlock, KeepsBlocks, page_bytes}
use Rattle.backup_units.specs.Names.{block_name}
use Rattle.backup_make.specs.Giving.{Copies, IsNotFrom}
use Rattle.backup_make.specs.declared.giver.Pages.{Pages}
use Rattle.backup_make.specs.declared.giver.Pages.TheVariants as found
use Rattle.backup_make.specs.declared.giver.GiveError.{GiveError}
use Rattle.backup_make.specs.declared.giver.GiveError.TheVariants as give_error
use Rattle.backup_make.specs.declared.error.MakeError.{MakeError}
use Rattle.backup_make.specs.declared.error.MakeError.TheVariants as make_error

-- ---- errors

-- what errors of others become
abbrev pub error_of_store : StoreError → MakeError
error_of_store (store_error.BlockDiffers c) = make_error.BlockDiffers c
error_of_store store_error.TargetFault = make_error.TargetFault
error_of_store store_error.NoMemory = make_error.NoMemory

abbrev pub error_of_outer : OuterError → MakeError
error_of_outer outer.Failed = make_error.TargetFault
error_of_outer outer.NoMemory = make_error.NoMemory

abbrev pub error_of_give : GiveError → MakeError
error_of_give give_error.NoReplica = make_error.NoReplica
error_of_give give_error.NoMemory = make_error.NoMemory

-- the error tells that the target failed
abbrev pub is_make_fault : MakeError → Bool
is_make_fault make_error.Exists = false
is_make_fault make_error.NoReplica = false
is_make_fault (make_error.BlockDiffers c) = false
is_make_fault make_error.TargetFault = true
is_make_fault make_error.NoMemory = false

-- the error tells that no replica is left
abbrev pub lacks_replica : MakeError → Bool
lacks_replica make_error.Exists = false
lacks_replica make_error.NoReplica = true
lacks_replica (make_error.BlockDiffers c) = false
lacks_replica make_error.TargetFault = false
lacks_replica make_error.NoMemory = false

-- the error tells that there is such a backup
abbrev pub tells_exists : MakeError → Bool
tells_exists make_error.Exists = true
tells_exists make_error.NoReplica = false
tells_exists (make_error.BlockDiffers c) = false
tells_exists make_error.TargetFault = false
tells_exists make_error.NoMemory = false

-- ---- blocks

-- all objects but the blocks of the volume hold what they held
abbrev pub OnlyBlocks : List ℕ → Objects → Objects → Type 0
OnlyBlocks volume old new =
    (name : List ℕ) → ((checksum : List ℕ) → name ≢ block_name volume checksum) → new name ≡ old name

-- blocks come, every block that is held stays, and so does all else
pub record AddsBlocks (volume : List ℕ) (old new : Objects) : Type 0 where
  pub blocks : KeepsBlocks volume old new
  pub others : OnlyBlocks volume old new

-- every page that does not stand in the list, from that place on, is kept
abbrev pub KeptElse : Bool → Objects → List ℕ → List ℕ → List (Option (List ℕ)) → ℕ → List ℕ → Type 0
KeptElse tells objects volume disk listed place pages =
    (page : ℕ) → page < length listed → IsNotFrom place pages page → IsKept tells objects volume disk listed page

-- ---- another block

-- the bytes of a page are listed by that checksum, and the target holds another block of it
pub record HoldsAnother (objects : Objects) (volume bytes checksum : List ℕ) : Type 0 where
  pub listed : listed_of bytes ≡ Some checksum
  pub other : (other : List ℕ) × HoldsBlock objects volume checksum other × (other ≢ bytes)

-- the same of some page of a copy
abbrev pub HoldsAnotherPage : Objects → List ℕ → Option (List ℕ) → List ℕ → Type 0
HoldsAnotherPage objects volume copy checksum =
    (disk : List ℕ) → copy ≡ Some disk
    → (page : ℕ) × (page * page_bytes < length disk) × HoldsAnother objects volume (page_at disk page) checksum

-- this is true of the checksum of which an error tells that another block has it
abbrev pub IfDiffers : (List ℕ → Type 0) → MakeError → Type 0
IfDiffers Is make_error.Exists = ⊤
IfDiffers Is make_error.NoReplica = ⊤
IfDiffers Is (make_error.BlockDiffers c) = Is c
IfDiffers Is make_error.TargetFault = ⊤
IfDiffers Is make_error.NoMemory = ⊤

-- ---- the base

-- the base is a backup of its snapshot's copy, where that is live
abbrev pub IsBase : Bool → Objects → List ℕ → Copies → List ℕ → List (Option (List ℕ)) → Type 0
IsBase tells objects volume copies snapshot listed =
    (disk : List ℕ) → copies snapshot ≡ Some disk → IsBackup tells objects volume disk listed

-- a base is given whole, its name and its list, or not at all
abbrev pub IsBaseIf : Bool → Objects → List ℕ → Copies → Option (List ℕ) → Option (List (Option (List ℕ))) → Type 0
IsBaseIf tells objects volume copies None listed = ⊤
IsBaseIf tells objects volume copies (Some name) None = ⊥
IsBaseIf tells objects volume copies (Some name) (Some listed) = IsBase tells objects volume copies name listed

-- what is listed of a page at the start: as in the base, or nothing
abbrev pub start_at : Pages → Option (List (Option (List ℕ))) → ℕ → Option (List ℕ)
start_at (found.All pages) base page = None
start_at (found.Above pages) None page = None
start_at (found.Above pages) (Some listed) page = listed_at listed page

-- the list from which a backup of so many pages starts
pub record IsStart (pages : Pages) (base : Option (List (Option (List ℕ)))) (count : ℕ) (blocks : List (Option (List ℕ)))
    : Type 0 where
  pub size : length blocks ≡ count
  pub entries : (page : ℕ) → page < count → listed_at blocks page ≡ start_at pages base page

-- the pages that have to be read
abbrev pub listed_in : Pages → List ℕ
listed_in (found.All pages) = pages.items
listed_in (found.Above pages) = pages.items
