-- What opening the folders of all replicas tells: the lowest clean one is the disk, each later clean one is held against it, and
-- each other is told with what is wrong with it.
use Rattle.std.specs.Prelude.{◌≡◌, ◌≢◌, ◌⊎◌, ℕ, ◌<◌, false, List, length, map, Option, Some, None}
use Rattle.shelf_traits.specs.Files.{Files}
use Rattle.folder_names.specs.Files.{Folder}
use Rattle.folder_layers.specs.Folders.{HasEarlierNames}
use Rattle.replica_node.specs.Node.{Node, blank}
use Rattle.replica_node.specs.Volume.{volume_of_node}
use Rattle.replica_compare.specs.Comparing.{AreAlike, IsFirstDifference}
use Rattle.replica_shelf.specs.Folder.{Stamps, IsFolderOf}
use Rattle.replica_open.specs.Opening.{AnswersOpen, IsWholeOpened}
use Rattle.replica_open.specs.declared.opening.Opened.TheVariants as found
use Rattle.open_calls.specs.Calls.{node_at}
use Rattle.volume_folders.specs.declared.reason.Reason.{Reason}
use Rattle.volume_folders.specs.declared.reason.Reason.TheVariants as reason
use Rattle.volume_folders.specs.declared.opening.OpenedFolders.{OpenedFolders}
use Rattle.volume_folders.specs.declared.opening.OpenedFolders.TheVariants as folders
use Rattle.volume_folders.specs.Reasons.{reason_at, modes_for}
use Rattle.volume_folders.specs.Sound.{IsSoundReplica}

-- ---- one folder

-- the folder is clean, and is that replica, which is one of a volume of that size
pub record IsCleanOf (folder : Folder) (size : ℕ) (node : Node) : Type 0 where
  pub sound : IsSoundReplica node
  pub stamps : Stamps
  pub is : IsFolderOf folder stamps false node
  pub size_is : length node.disk ≡ size
  pub earlier : HasEarlierNames node

-- the folder is clean
abbrev pub IsClean : Folder → ℕ → Type 0
IsClean folder size = (node : Node) × IsCleanOf folder size node

-- the folder is not clean, for that reason
abbrev pub IsRefusedFor : Folder → ℕ → Reason → Type 0
IsRefusedFor folder size (reason.Unclean flag) = AnswersOpen folder size (found.Unclean flag)
IsRefusedFor folder size (reason.Damaged damage) = AnswersOpen folder size (found.Damaged damage)
IsRefusedFor folder size (reason.Differs how) = ⊥

-- a reason is told, and it is true that the folder is not clean for it
abbrev pub IsToldRefused : Folder → ℕ → Option Reason → Type 0
IsToldRefused folder size None = ⊥
IsToldRefused folder size (Some why) = IsRefusedFor folder size why

-- a replica is as the disk where no reason is told, or else that is how it first differs
abbrev pub StandsBeside : Node → Node → Option Reason → Type 0
StandsBeside disk node None = AreAlike disk node
StandsBeside disk node (Some (reason.Differs how)) = IsFirstDifference disk node how
StandsBeside disk node (Some why) = ⊥

-- the folder is clean, and what is told of its replica is true beside the disk
pub record IsToldBeside (folder : Folder) (size : ℕ) (disk node : Node) (why : Option Reason) : Type 0 where
  pub clean : IsCleanOf folder size node
  pub beside : StandsBeside disk node why

-- ---- all of them

-- the source is the lowest clean folder and read, and each behind it is not clean, or is held against it
pub record AreOpened (files : Files) (size : ℕ) (nodes : List Node) (reasons : List (Option Reason)) (source : ℕ) : Type 0 where
  pub read : reason_at reasons source ≡ None
  pub clean : IsCleanOf (files source) size (node_at nodes source)
  pub before : (r : ℕ) → r < source → IsToldRefused (files r) size (reason_at reasons r)
  pub behind : (r : ℕ) → source < r → r < length reasons → IsToldRefused (files r) size (reason_at reasons r)
      ⊎ IsToldBeside (files r) size (node_at nodes source) (node_at nodes r) (reason_at reasons r)

-- no folder is clean, each for its reason
abbrev pub NoneIsClean : Files → ℕ → List Reason → Type 0
NoneIsClean files size reasons = (r : ℕ) → r < length reasons → IsToldRefused (files r) size (reason_at (map Some reasons) r)

-- each replica was opened, and some folder is the disk
pub record AreAllOpened (files : Files) (size replicas : ℕ) (nodes : List Node) (reasons : List (Option Reason)) : Type 0 where
  pub many : length nodes ≡ replicas
  pub as_many : length reasons ≡ replicas
  pub source : ℕ
  pub there : source < replicas
  pub opened : AreOpened files size nodes reasons source

-- the answer is true of the folders of so many replicas of a volume of that size
abbrev pub AnswersFolders : Files → ℕ → ℕ → OpenedFolders → Type 0
AnswersFolders files size replicas (folders.Volume o) = AreAllOpened files size replicas o.nodes.items o.reasons.items
AnswersFolders files size replicas (folders.NoneClean reasons) =
    (length reasons.items ≡ replicas) × NoneIsClean files size reasons.items

-- ---- what is known of the replicas whether or not shelves tell what they hold

-- of a replica that is not read: one that differs was opened, and any other is blank
abbrev pub IsUnread : ℕ → Node → Reason → Type 0
IsUnread size node (reason.Differs how) = IsWholeOpened size node
IsUnread size node (reason.Unclean flag) = node ≡ blank size
IsUnread size node (reason.Damaged damage) = node ≡ blank size

-- the source is the first that is read, and each other that is read is as it
pub record AreKnownOpened (size replicas : ℕ) (nodes : List Node) (reasons : List (Option Reason)) (source : ℕ) : Type 0 where
  pub many : length nodes ≡ replicas
  pub as_many : length reasons ≡ replicas
  pub there : source < replicas
  pub read : reason_at reasons source ≡ None
  pub first : (r : ℕ) → r < source → reason_at reasons r ≢ None
  pub sound : (r : ℕ) → r < replicas → IsSoundReplica (node_at nodes r)
  pub whole : IsWholeOpened size (node_at nodes source)
  pub each : (r : ℕ) → reason_at reasons r ≡ None → r < replicas → IsWholeOpened size (node_at nodes r)
  pub alike : (r : ℕ) → reason_at reasons r ≡ None → r < replicas → AreAlike (node_at nodes source) (node_at nodes r)
  pub unread : (r : ℕ) (why : Reason) → reason_at reasons r ≡ Some why → r < replicas → IsUnread size (node_at nodes r) why

abbrev pub IsKnownFolders : ℕ → ℕ → OpenedFolders → Type 0
IsKnownFolders size replicas (folders.Volume o) = (source : ℕ) × AreKnownOpened size replicas o.nodes.items o.reasons.items source
IsKnownFolders size replicas (folders.NoneClean reasons) = length reasons.items ≡ replicas

-- ---- two openings of the same folders

-- one source, one volume, and the same modes
pub record AreOneVolume (nodes others : List Node) (reasons told : List (Option Reason)) (source other : ℕ) : Type 0 where
  pub source_is : other ≡ source
  pub volume : volume_of_node (node_at others other) ≡ volume_of_node (node_at nodes source)
  pub modes : modes_for told ≡ modes_for reasons
