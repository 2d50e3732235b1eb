-- What is told of the heads that were opened, and of a head that is saved.
use Rattle.std.specs.Prelude.{◌≡◌, ℕ, ◌<◌, false, ⊤, List, length, Option, Some, None, if◌then◌else◌, ◌==◌, slice_index_or}
use Rattle.shelf_traits.specs.Files.{Files}
use Rattle.folder_names.specs.Files.{Folder}
use Rattle.replica_node.specs.Node.{Node}
use Rattle.replica_shelf.specs.Folder.{Stamps, IsFolderOf}
use Rattle.replica_shelf.specs.declared.head.HeadMeta.{HeadMeta}
use Rattle.volume_folders.specs.declared.heads.OpenedHead.{OpenedHead}
use Rattle.volume_folders.specs.declared.reason.Reason.{Reason}
use Rattle.volume_folders.specs.declared.opening.OpenedFolders.{OpenedFolders}
use Rattle.volume_folders.specs.declared.opening.OpenedFolders.TheVariants as folders
use Rattle.volume_folders.specs.Reasons.{reason_at}

-- ---- heads that were opened

-- the folder tells that of the head of that number
pub record HasHead (folder : Folder) (head : OpenedHead) : Type 0 where
  pub node : Node
  pub now : List ℕ
  pub is : IsFolderOf folder (record { now = now; head = head.meta }) false node
  pub number : node.number ≡ head.number

-- of a replica that is read what its folder tells of the head, and of another nothing
abbrev pub IsHeadTold : Folder → Option Reason → Option OpenedHead → Type 0
IsHeadTold folder None None = ⊥
IsHeadTold folder None (Some head) = HasHead folder head
IsHeadTold folder (Some why) head = head ≡ None

-- what was opened of a replica's head, if anything was
abbrev pub head_at : List (Option OpenedHead) → ℕ → Option OpenedHead
head_at heads r = slice_index_or heads r None

-- the same of each replica
abbrev pub AreHeadsTold : (ℕ → Folder) → List (Option Reason) → List (Option OpenedHead) → Type 0
AreHeadsTold files reasons heads = (r : ℕ) → r < length reasons → IsHeadTold (files r) (reason_at reasons r) (head_at heads r)

-- the heads that are told are those of the folders
abbrev pub AnswersHeads : Files → OpenedFolders → Type 0
AnswersHeads files (folders.Volume o) = AreHeadsTold files o.reasons.items o.heads.items
AnswersHeads files (folders.NoneClean reasons) = ⊤

-- ---- a head that is saved

-- a head that was opened keeps what was told of it, and one of another number is made at the time of the run, by no user
abbrev pub head_meta : List ℕ → Option OpenedHead → ℕ → HeadMeta
head_meta time None number = record { created = time; user_created = false }
head_meta time (Some head) number =
    if head.number == number then head.meta else record { created = time; user_created = false }

-- the time of the run, and what is told of a head of that number
abbrev pub stamps_for : List ℕ → Option OpenedHead → ℕ → Stamps
stamps_for time head number = record { now = time; head = head_meta time head number }
