-- What opening a folder tells: the replica that it is, or why it is none. The checks come in one order, and the first that
-- fails is told.
use Rattle.std.specs.Prelude.{◌≡◌, ◌⊎◌, ℕ, ◌≤◌, ◌/◌, ⊤, true, false, List, All, length, is_some, string_bytes}
use Rattle.vol_units.specs.declared.size.TheConstants.{BLOCK_BYTES}
use Rattle.chain_meta.specs.Kinds.{largest_head}
use Rattle.chain_meta.specs.VolumeMetas.{SaysVolume}
use Rattle.chain_meta.specs.declared.volume_meta.VolumeMeta.{VolumeMeta}
use Rattle.folder_names.specs.Files.{Folder, volume_file}
use Rattle.folder_checks.specs.Told.{FileTells}
use Rattle.folder_checks.specs.Checks.{IsFlagged, FolderFault}
use Rattle.folder_checks.specs.declared.parts.Damage.{Damage}
use Rattle.folder_layers.specs.Folders.{HasMisfit, HasEarlierNames}
use Rattle.replica_node.specs.Node.{Node}
use Rattle.replica_compare.specs.Order.{IsInOrder}
use Rattle.replica_shelf.specs.Folder.{IsFolderOf}
use Rattle.replica_open.specs.declared.opening.Opened.{Opened}
use Rattle.replica_open.specs.declared.opening.Opened.TheVariants as found

-- the file is damaged as a whole
abbrev pub IsDamageOf : List ℕ → Damage → Type 0
IsDamageOf file damage = (string_bytes damage.file ≡ file) × (damage.place ≡ 0)

-- a replica as one that was opened is: of that size, its layers in order, and each came with a time
pub record IsWholeOpened (size : ℕ) (node : Node) : Type 0 where
  pub size_is : length node.disk ≡ size
  pub low : node.number ≤ largest_head
  pub earlier : HasEarlierNames node
  pub order : IsInOrder node
  pub timed : All (λ k. is_some k.meta.created ≡ true) node.layers

-- what is known whether or not shelves tell what they hold
abbrev pub IsKnownOpened : ℕ → Opened → Type 0
IsKnownOpened size (found.Clean node head) = IsWholeOpened size node
IsKnownOpened size (found.Unclean flag) = ⊤
IsKnownOpened size (found.Damaged damage) = ⊤

-- the answer is true of the folder of a replica of a volume of that size
abbrev pub AnswersOpen : Folder → ℕ → Opened → Type 0
AnswersOpen folder size (found.Clean node head) = (now : List ℕ) × IsFolderOf folder (record { now = now; head = head }) false node
AnswersOpen folder size (found.Unclean flag) = (v : VolumeMeta) × FileTells folder volume_file SaysVolume v × IsFlagged size v flag
AnswersOpen folder size (found.Damaged damage) = let file = string_bytes damage.file in
    FolderFault folder size (size / BLOCK_BYTES) file damage.place ⊎ HasMisfit folder size file damage.place
