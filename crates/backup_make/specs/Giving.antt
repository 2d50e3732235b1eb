-- Where the pages of a backup come from.
use Rattle.std.specs.Prelude.{◌≡◌, ◌≢◌, ◌⊎◌, ⊤, ℕ, ◌*◌, ◌<◌, ◌≤◌, Bool, true, false, List, length}
use Rattle.std.specs.Prelude.{Option, None, Some, slice_index, IfSome}
use Rattle.vol_units.specs.Bytes.{zeros}
use Rattle.backup_units.specs.Backups.{page_at}
use Rattle.backup_units.specs.Blocks.{page_bytes}
use Rattle.backup_make.specs.declared.giver.GiveError.{GiveError}
use Rattle.backup_make.specs.declared.giver.GiveError.TheVariants as give_error
use Rattle.backup_make.specs.declared.giver.Pages.{Pages}
use Rattle.backup_make.specs.declared.giver.Pages.TheVariants as found

-- the copy of each live name; None of a name that is not live
abbrev pub Copies : Type 0
Copies = List ℕ → Option (List ℕ)

-- the name that is asked for, and its copy, are as they were
pub record Stays (old new : Copies) (asked_old asked_new : List ℕ) : Type 0 where
  pub name : asked_new ≡ asked_old
  pub copy : new asked_old ≡ old asked_old

-- the next call can be made, what no call changes is as it was, and what else is true for good is true still
pub record KeepsGiver {S Home Fact : Type 0} (can : S → Type 0) (at : S → Home) (true_of : S → Fact → Type 0) (s s2 : S)
    : Type 0 where
  pub ready : can s2
  pub home : at s2 ≡ at s
  pub facts : (fact : Fact) → true_of s fact → true_of s2 fact

-- the base has the copy that it had, or is live no longer
abbrev pub Drops : Option (List ℕ) → Copies → Copies → Type 0
Drops None old new = ⊤
Drops (Some base) old new = (new base ≡ old base) ⊎ (new base ≡ None)

-- the error tells that no replica is left
abbrev pub finds_none : GiveError → Bool
finds_none give_error.NoReplica = true
finds_none give_error.NoMemory = false

-- there is a copy, of so many bytes
abbrev pub HasCopy : Option (List ℕ) → ℕ → Type 0
HasCopy None bytes = ⊥
HasCopy (Some disk) bytes = length disk ≡ bytes

-- the page is one of the name's copy
abbrev pub HasPage : Copies → List ℕ → ℕ → Type 0
HasPage copies asked page = IfSome (copies asked) (λ disk. page * page_bytes < length disk)

-- ---- which pages have to be read

-- the page does not stand in the list, from that place on
abbrev pub IsNotFrom : ℕ → List ℕ → ℕ → Type 0
IsNotFrom place pages page = (i : ℕ) → place ≤ i → i < length pages → slice_index pages i ≢ page

-- this is true of the pages of a disk that are not in the list
abbrev pub Else : List ℕ → List ℕ → (ℕ → List ℕ → Type 0) → Type 0
Else pages disk Is = (page : ℕ) → page * page_bytes < length disk → IsNotFrom 0 pages page → Is page (page_at disk page)

-- a page of the base's copy, and zeros past its end
abbrev pub IsOfBase : List ℕ → ℕ → List ℕ → Type 0
IsOfBase base page bytes =
    (page * page_bytes < length base → bytes ≡ page_at base page) × (length base ≤ page * page_bytes → bytes ≡ zeros page_bytes)

-- each page in the list is one of the disk's
abbrev pub AreWithin : List ℕ → List ℕ → Type 0
AreWithin pages disk = (i : ℕ) → i < length pages → slice_index pages i * page_bytes < length disk

-- what is left out is zeros, or as in the base's copy, and then there is one
abbrev pub CoversDisk : Copies → Option (List ℕ) → List ℕ → Pages → Type 0
CoversDisk copies base disk (found.All pages) =
    AreWithin pages.items disk × Else pages.items disk (λ _ bytes. bytes ≡ zeros page_bytes)
CoversDisk copies None disk (found.Above pages) = ⊥
CoversDisk copies (Some base) disk (found.Above pages) =
    AreWithin pages.items disk × ((old : List ℕ) × (copies base ≡ Some old) × Else pages.items disk (IsOfBase old))

-- the same of the copy of the name that is asked for
abbrev pub Covers : Copies → List ℕ → Option (List ℕ) → Pages → Type 0
Covers copies asked base pages = (disk : List ℕ) → copies asked ≡ Some disk → CoversDisk copies base disk pages
