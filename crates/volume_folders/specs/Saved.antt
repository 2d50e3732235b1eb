-- What saving all replicas leaves: each one's folder is that replica, in ERR or not, and no other file changes.
use Rattle.std.specs.Prelude.{◌≡◌, ◌≢◌, ◌⊎◌, ℕ, ◌<◌, ◌≤◌, Bool, true, false, List, length, Option}
use Rattle.volume_model.specs.Modes.{mode_of}
use Rattle.volume_model.specs.PlainState.{Volume}
use Rattle.volume_model.specs.declared.mode.Mode.{Mode}
use Rattle.volume_model.specs.declared.mode.Mode.TheVariants.{Rw, Wo, Err}
use Rattle.chain_meta.specs.Kinds.{largest_head}
use Rattle.chain_meta.specs.declared.volume_meta.VolumeMeta.{VolumeMeta}
use Rattle.shelf_traits.specs.Failing.{FileOn}
use Rattle.shelf_traits.specs.Files.{Files}
use Rattle.folder_names.specs.Files.{Folder, volume_file, IsOfAnImage}
use Rattle.folder_checks.specs.Checks.{IsFlagged}
use Rattle.folder_checks.specs.declared.parts.Flag.TheVariants.{Error}
use Rattle.replica_node.specs.Node.{Node}
use Rattle.replica_node.specs.Volume.{volume_of_node}
use Rattle.replica_shelf.specs.Folder.{Stamps, IsFolderOf, IsVolumeOf, volume_meta_of}
use Rattle.replica_shelf.specs.Saving.{IsSaved, IsVolumeText, FellElsewhere}
use Rattle.open_calls.specs.Calls.{node_at}
use Rattle.volume_folders.specs.declared.heads.OpenedHead.{OpenedHead}
use Rattle.volume_folders.specs.Heads.{head_at, stamps_for}
use Rattle.volume_folders.specs.Sound.{IsSoundReplica}

-- ---- one replica

-- whether a replica is saved as one in ERR: one that is being rebuilt is not whole, and is saved so too
abbrev pub is_failed : Mode → Bool
is_failed Rw = false
is_failed Wo = true
is_failed Err = true

-- the folder is that replica, where its head's number is low, and in any case it has the replica's files
pub record IsSavedAs (folder : Folder) (stamps : Stamps) (mode : Mode) (node : Node) : Type 0 where
  pub sound : IsSoundReplica node
  pub saved : IsSaved folder stamps (is_failed mode) node
  pub is : node.number ≤ largest_head → IsFolderOf folder stamps (is_failed mode) node

-- a replica of these is saved on its own shelf
abbrev pub IsSavedAt : Files → List ℕ → List (Option OpenedHead) → List Mode → List Node → ℕ → Type 0
IsSavedAt files time heads modes nodes r =
    IsSavedAs (files r) (stamps_for time (head_at heads r) (node_at nodes r).number) (mode_of modes r) (node_at nodes r)

-- ---- all of them

abbrev pub AreSavedAs : Files → List ℕ → List (Option OpenedHead) → List Mode → List Node → Type 0
AreSavedAs files time heads modes nodes = (r : ℕ) → r < length nodes → IsSavedAt files time heads modes nodes r

-- no file changes but those of images and the metadata of the volume, on the first shelves
abbrev pub OnlyFoldersChange : ℕ → Files → Files → Type 0
OnlyFoldersChange count old new =
    (s : ℕ) (f : List ℕ) → (count ≤ s) ⊎ ((IsOfAnImage f → ⊥) × (f ≢ volume_file)) → new s f ≡ old s f

-- ---- where a call failed

-- Each replica before that one is saved, and those behind it are untouched. Its own folder says Dirty, where the call that failed
-- was to change another file than the metadata of the volume.
pub record FellAt (time : List ℕ) (heads : List (Option OpenedHead)) (modes : List Mode) (nodes : List Node) (told : Option FileOn)
    (r : ℕ) (old new : Files) : Type 0 where
  pub within : r < length nodes
  pub before : (q : ℕ) → q < r → IsSavedAt new time heads modes nodes q
  pub behind : (q : ℕ) (f : List ℕ) → r < q → new q f ≡ old q f
  pub dirty : FellElsewhere told → (node_at nodes r).number ≤ largest_head
      → IsVolumeOf (new r) (volume_meta_of true (is_failed (mode_of modes r)) (node_at nodes r))

-- it was the save of one of them
abbrev pub FellSomewhere : List ℕ → List (Option OpenedHead) → List Mode → List Node → Option FileOn → Files → Files → Type 0
FellSomewhere time heads modes nodes told old new = (r : ℕ) × FellAt time heads modes nodes told r old new

-- ---- what a folder is that was saved

-- the folder is clean, and its replica is that volume
pub record IsVolumeFolder (folder : Folder) (stamps : Stamps) (volume : Volume) : Type 0 where
  pub node : Node
  pub sound : IsSoundReplica node
  pub is : IsFolderOf folder stamps false node
  pub same : volume_of_node node ≡ volume

-- the folder says that its replica is in ERR
pub record IsFailedFolder (folder : Folder) (size : ℕ) : Type 0 where
  pub meta : VolumeMeta
  pub text : IsVolumeText folder meta
  pub flagged : IsFlagged size meta Error
