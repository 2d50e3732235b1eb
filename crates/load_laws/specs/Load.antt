-- A generated load: streams of frames, each within a slice of the volume of its own, and one control stream, behind them.
use Rattle.std.specs.Prelude.{◌≡◌, ℕ, suc, ◌*◌, ◌+◌, ◌<◌, ◌≤◌, List, [], ◌∷◌, length, pos, All, codes}
use Rattle.volume_model.specs.declared.command.Command.TheVariants as command
use Rattle.volume_model.specs.declared.call.Call.{Call}
use Rattle.volume_model.specs.declared.call.Call.TheVariants as call
use Rattle.volume_model.specs.declared.entry.Entry.{Entry}
use Rattle.volume_model.specs.declared.mode.Mode.TheVariants.{Rw}
use Rattle.volume_model.specs.Disk.{zeros}
use Rattle.volume_model.specs.PlainState.{state_of}
use Rattle.volume_model.specs.PlainStep.{longest_call}
use Rattle.volume_model.specs.Faults.{NamesLine}
use Rattle.volume_model.specs.History.{Spot, IsHistory}

-- ---- the volume

-- the bytes of a slice
unfoldable pub slice_size : ℕ
slice_size = 2097152

-- where the slice of that number begins
abbrev pub slice_at : ℕ → ℕ
slice_at slice = slice * slice_size

-- a disk of so many slices on which nothing was written
abbrev pub blank_disk : ℕ → List ℕ
blank_disk slices = zeros (slice_at slices)

-- a volume with this disk, no snapshot, and two replicas, both read and written
abbrev pub fresh : List ℕ → Spot
fresh disk = record { state = state_of disk; modes = Rw ∷ Rw ∷ [] }

-- ---- the calls

-- so many bytes from the place on lie within the slice
pub record LieIn (slice at count : ℕ) : Type 0 where
  pub from : slice_at slice ≤ at
  pub to : at + count ≤ slice_at (suc slice)

-- the call reads or writes within the slice, and reads no more than one call may
abbrev pub IsFrameIn : ℕ → Call → Type 0
IsFrameIn slice (call.Read (pos at) count) = LieIn slice at count × (count ≤ longest_call)
IsFrameIn slice (call.Write (pos at) bytes) = LieIn slice at (length bytes)
IsFrameIn slice c = ⊥

-- the name of the one snapshot that the control stream takes
abbrev pub user_name : List ℕ
user_name = codes "g"

-- the calls of the control stream
abbrev pub control_calls : List Call
control_calls = call.Command (command.Snapshot user_name) ∷ call.Command (command.Fail 1) ∷ call.Command (command.Add 1)
    ∷ call.Command (command.Remove user_name) ∷ call.Command command.Purge ∷ []

-- Each stream below so many reads and writes within the slice of its number, and the next one is the control stream. There
-- are no others.
pub record IsLoad (slices : ℕ) (calls : ℕ → List Call) : Type 0 where
  pub frames : (stream : ℕ) → stream < slices → All (IsFrameIn stream) (calls stream)
  pub control : calls slices ≡ control_calls
  pub others : (stream : ℕ) → slices < stream → calls stream ≡ []

-- ---- a run of it

-- The journal is one legal history of the load on a fresh volume, over lines that counted these faults: none. What faults
-- it shows are of these lines.
pub record IsRunOfLoad (slices : ℕ) (counted : ℕ → ℕ → ℕ) (calls : ℕ → List Call) (journal : List Entry) : Type 0 where
  pub load : IsLoad slices calls
  pub history : IsHistory (fresh (blank_disk slices)) counted calls journal
  pub lines : All (NamesLine (suc slices) 2) journal
  pub none : (stream replica : ℕ) → stream < suc slices → replica < 2 → counted stream replica ≡ 0
