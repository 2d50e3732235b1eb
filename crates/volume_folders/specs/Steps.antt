-- How far the opening and the saving have come.
use Rattle.std.specs.Prelude.{◌≡◌, ◌≢◌, ◌⊎◌, ℕ, ◌<◌, List, length, Option, Some, None}
use Rattle.volume_model.specs.declared.mode.Mode.{Mode}
use Rattle.shelf_traits.specs.Files.{Files}
use Rattle.folder_names.specs.Files.{Folder}
use Rattle.replica_node.specs.Node.{Node}
use Rattle.replica_compare.specs.Comparing.{AreAlike}
use Rattle.replica_shelf.specs.declared.head.HeadMeta.{HeadMeta}
use Rattle.replica_open.specs.Opening.{IsWholeOpened}
use Rattle.open_calls.specs.Calls.{node_at}
use Rattle.volume_folders.specs.declared.heads.OpenedHead.{OpenedHead}
use Rattle.volume_folders.specs.declared.reason.Reason.{Reason}
use Rattle.volume_folders.specs.Sound.{IsSoundReplica}
use Rattle.volume_folders.specs.Reasons.{reason_at}
use Rattle.volume_folders.specs.Opened.{IsCleanOf, IsToldRefused, StandsBeside, IsUnread, AreOpened}
use Rattle.volume_folders.specs.Saved.{IsSavedAt, OnlyFoldersChange}

-- ---- one folder is opened

-- the same beside the disk, if there is one: the first clean replica is read
abbrev pub StandsAgainst : Option Node → Node → Option Reason → Type 0
StandsAgainst None node why = why ≡ None
StandsAgainst (Some disk) node why = StandsBeside disk node why

-- the folder is clean, and that is told of its replica
pub record IsToldAgainst (folder : Folder) (size : ℕ) (disk : Option Node) (node : Node) (why : Option Reason) : Type 0 where
  pub clean : IsCleanOf folder size node
  pub against : StandsAgainst disk node why

-- what is told of a folder is true
abbrev pub IsFound : Folder → ℕ → Option Node → Node → Option Reason → Type 0
IsFound folder size disk node why = IsToldRefused folder size why ⊎ IsToldAgainst folder size disk node why

-- what is known of its replica
abbrev pub IsKeptFor : ℕ → Node → Option Reason → Type 0
IsKeptFor size node None = IsWholeOpened size node
IsKeptFor size node (Some why) = IsUnread size node why

pub record IsKnownFound (size : ℕ) (disk : Option Node) (node : Node) (why : Option Reason) : Type 0 where
  pub sound : IsSoundReplica node
  pub kept : IsKeptFor size node why
  pub alike : (d : Node) → disk ≡ Some d → why ≡ None → AreAlike d node

-- what is kept of a head: that of a replica that is read
abbrev pub head_read : ℕ → HeadMeta → Option Reason → Option OpenedHead
head_read number meta None = Some (record { number = number; meta = meta })
head_read number meta (Some why) = None

-- ---- the first folders are opened

-- the first that is read, once this one is opened too
abbrev pub source_after : Option ℕ → ℕ → Option Reason → Option ℕ
source_after (Some source) shelf why = Some source
source_after None shelf None = Some shelf
source_after None shelf (Some why) = None

-- none of them is clean, or the source is the lowest clean one
abbrev pub AreOpenedSoFar : Files → ℕ → List Node → List (Option Reason) → Option ℕ → Type 0
AreOpenedSoFar files size nodes reasons None = (r : ℕ) → r < length reasons → IsToldRefused (files r) size (reason_at reasons r)
AreOpenedSoFar files size nodes reasons (Some source) = AreOpened files size nodes reasons source

-- the source is the first of them that is read, and each other that is read is as it
pub record IsFirstRead (nodes : List Node) (reasons : List (Option Reason)) (source : ℕ) : Type 0 where
  pub there : source < length reasons
  pub read : reason_at reasons source ≡ None
  pub first : (r : ℕ) → r < source → reason_at reasons r ≢ None
  pub alike : (r : ℕ) → r < length reasons → reason_at reasons r ≡ None → AreAlike (node_at nodes source) (node_at nodes r)

-- none of them is read, or the source is the first
abbrev pub IsSourceSoFar : List Node → List (Option Reason) → Option ℕ → Type 0
IsSourceSoFar nodes reasons None = (r : ℕ) → r < length reasons → reason_at reasons r ≢ None
IsSourceSoFar nodes reasons (Some source) = IsFirstRead nodes reasons source

pub record AreKnownSoFar (size count : ℕ) (nodes : List Node) (reasons : List (Option Reason)) (source : Option ℕ) : Type 0 where
  pub many : length nodes ≡ count
  pub as_many : length reasons ≡ count
  pub sound : (r : ℕ) → r < count → IsSoundReplica (node_at nodes r)
  pub kept : (r : ℕ) → r < count → IsKeptFor size (node_at nodes r) (reason_at reasons r)
  pub source_is : IsSourceSoFar nodes reasons source

-- ---- the first replicas are saved

-- so many are, and on the other shelves nothing changes
pub record AreSavedSoFar (time : List ℕ) (heads : List (Option OpenedHead)) (modes : List Mode) (nodes : List Node) (count : ℕ)
    (old new : Files) : Type 0 where
  pub saved : (r : ℕ) → r < count → IsSavedAt new time heads modes nodes r
  pub only : OnlyFoldersChange count old new
