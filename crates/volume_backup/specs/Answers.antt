-- What the answers of what a backup reads say.
use Rattle.std.specs.Prelude.{◌≡◌, ◌≢◌, ◌⊎◌, ℕ, ◌*◌, ◌<◌, Bool, ◌&&◌, List, length, slice_index, if◌then◌else◌}
use Rattle.std.specs.Prelude.{Option, None, Some}
use Rattle.vol_units.specs.Bytes.{bytes_at}
use Rattle.vol_units.specs.declared.size.TheConstants.{PAGE_BYTES}
use Rattle.volume_model.specs.declared.mode.Mode.TheVariants.{Rw}
use Rattle.volume_model.specs.Modes.{mode_of, HasNoSource, IsSource}
use Rattle.volume_model.specs.PlainState.{Volume}
use Rattle.volume_model.specs.Snapshots.{is_live}
use Rattle.replica_node.specs.Node.{Node}
use Rattle.layer_pages.specs.Chains.{is_over}
use Rattle.layer_pages.specs.Pages.{ArePagesAbove}
use Rattle.backup_make.specs.declared.giver.Pages.{Pages}
use Rattle.backup_make.specs.declared.giver.Pages.TheVariants as found
use Rattle.step_answers.specs.declared.answers.NotThis.{NotThis}
use Rattle.step_answers.specs.declared.answers.NotThis.TheVariants as against
use Rattle.open_calls.specs.Calls.{node_at}
use Rattle.volume_core.specs.State.{State, told_of, modes_in}
use Rattle.volume_backup.specs.Copies.{IsLive, copy_told, NoneUnderTurn}

-- ---- a page of a copy

-- the page is one of the copy of a live name, and no operation of a command under the maintenance turn has started
pub record IsReadable (s : State) (name : List ℕ) (page : ℕ) : Type 0 where
  pub calm : NoneUnderTurn s.whole
  pub live : IsLive s name
  pub inside : page * PAGE_BYTES < length (copy_told s name)

-- the replica is read, and these are the bytes of that page
pub record GivesPage (s : State) (replica : ℕ) (name : List ℕ) (page : ℕ) (given : List ℕ)
    : Type 0 where
  pub read : mode_of (modes_in s) replica ≡ Rw
  pub can : IsReadable s name page
  pub bytes : given ≡ bytes_at (copy_told s name) (page * PAGE_BYTES) PAGE_BYTES

-- the replica is not read; or it is, and there is no such page, or an operation of a command has started
abbrev pub AgainstPage : State → ℕ → List ℕ → ℕ → NotThis → Type 0
AgainstPage s replica name page (against.Mode mode) =
    (mode ≡ mode_of (modes_in s) replica) × (mode ≢ Rw)
AgainstPage s replica name page against.Page =
    (mode_of (modes_in s) replica ≡ Rw) × (IsReadable s name page → ⊥)
AgainstPage s replica name page why = ⊥

-- ---- which pages have to be read

-- the base is live, and is the snapshot of the name or one on which that stands
abbrev pub is_base : Volume → List ℕ → List ℕ → Bool
is_base volume name base =
    is_live volume.snapshots.tree base && is_over volume.snapshots.tree name base

-- the base, if there is one that is so
abbrev pub base_of : Volume → List ℕ → Option (List ℕ) → Option (List ℕ)
base_of volume name None = None
base_of volume name (Some base) = if is_base volume name base then Some base else None

-- these are the pages of the disk, in rising order
pub record AreAllPages (size : ℕ) (pages : List ℕ) : Type 0 where
  pub count : length pages * PAGE_BYTES ≡ size
  pub each : (i : ℕ) → i < length pages → slice_index pages i ≡ i

-- all of them, and of no base
abbrev pub AsksEach : ℕ → Pages → Type 0
AsksEach size (found.All pages) = AreAllPages size pages.items
AsksEach size (found.Above pages) = ⊥

-- those of which a layer of the replica has a block, above the base where there is one
abbrev pub AsksAbove : Node → List ℕ → Option (List ℕ) → Pages → Type 0
AsksAbove node name None (found.All pages) = ArePagesAbove node name None pages.items
AsksAbove node name (Some base) (found.Above pages) =
    ArePagesAbove node name (Some base) pages.items
AsksAbove node name base pages = ⊥

-- While no replica is read, each page, as none tells which layers have blocks. Else what the lowest that is read tells.
abbrev pub AsksPages : State → List ℕ → Option (List ℕ) → Pages → Type 0
AsksPages s name base pages = (HasNoSource (modes_in s) × AsksEach s.size pages)
    ⊎ ((source : ℕ) × IsSource (modes_in s) source
    × AsksAbove (node_at s.nodes source) name (base_of (told_of s).volume name base) pages)
