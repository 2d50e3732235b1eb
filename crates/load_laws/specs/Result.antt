-- What a run of a generated load comes to: a function of the calls alone, whichever way they came one between the other.
use Rattle.std.specs.Prelude.{◌≡◌, ℕ, zero, suc, ◌<◌, ◌≤◌, false, List, [], ◌∷◌, ◌++◌, map}
use Rattle.vol_units.specs.Name.{sys_name}
use Rattle.volume_model.specs.declared.call.Call.{Call}
use Rattle.volume_model.specs.declared.call.Call.TheVariants as call
use Rattle.volume_model.specs.declared.call.Reply.{Reply}
use Rattle.volume_model.specs.declared.call.Reply.TheVariants as reply
use Rattle.volume_model.specs.declared.entry.Entry.{Entry}
use Rattle.volume_model.specs.declared.mode.Mode.{Mode}
use Rattle.volume_model.specs.declared.mode.Mode.TheVariants.{Rw}
use Rattle.volume_model.specs.Disk.{bytes_at, with_bytes_at, place_of}
use Rattle.volume_model.specs.Snapshots.{chain_of}
use Rattle.volume_model.specs.PlainState.{PlainState}
use Rattle.volume_model.specs.Modes.{modes_after}
use Rattle.volume_model.specs.Replay.{replay}
use Rattle.volume_model.specs.History.{answers_of}
use Rattle.load_laws.specs.Load.{slice_size, slice_at, blank_disk, fresh, control_calls}

-- ---- a stream alone, on a disk that nobody else writes

-- what a read or a write is answered
abbrev pub reply_on : List ℕ → Call → Reply
reply_on disk (call.Read offset count) = reply.Read (bytes_at disk (place_of offset) count)
reply_on disk c = reply.Done

-- the disk that it leaves
abbrev pub disk_after : List ℕ → Call → List ℕ
disk_after disk (call.Write offset bytes) = with_bytes_at disk (place_of offset) bytes
disk_after disk c = disk

-- what these calls are answered, one after another
abbrev pub replies_on : List ℕ → List Call → List Reply
replies_on disk [] = []
replies_on disk (c ∷ cs) = reply_on disk c ∷ replies_on (disk_after disk c) cs

-- the disk that they leave
abbrev pub disk_left : List ℕ → List Call → List ℕ
disk_left disk [] = disk
disk_left disk (c ∷ cs) = disk_left (disk_after disk c) cs

-- ---- all of them

-- the bytes of a slice
abbrev pub slice_of : List ℕ → ℕ → List ℕ
slice_of disk slice = bytes_at disk (slice_at slice) slice_size

-- so many slices one behind the other, each as its stream alone leaves it on that disk
abbrev pub slices_left : List ℕ → (ℕ → List Call) → ℕ → List ℕ
slices_left disk calls zero = []
slices_left disk calls (suc slice) = slices_left disk calls slice ++ slice_of (disk_left disk (calls slice)) slice

-- the replies of a stream, in the journal's order
abbrev pub replies_of : ℕ → List Entry → List Reply
replies_of stream journal = map (λ p. p.1.reply) (answers_of stream journal)

-- what the journal leaves of a fresh volume of so many slices
abbrev pub left_by : ℕ → List Entry → PlainState
left_by slices journal = replay (fresh (blank_disk slices)).state journal

-- the modes that it leaves of its two replicas
abbrev pub modes_by : ℕ → List Entry → List Mode
modes_by slices journal = modes_after (fresh (blank_disk slices)).modes journal

-- Each control call is done, both replicas are read and written again, and the rebuild's own snapshot alone is left. Each
-- other stream is answered as if it were alone, and each slice is left so.
pub record IsResultOf (slices : ℕ) (calls : ℕ → List Call) (journal : List Entry) : Type 0 where
  pub control : replies_of slices journal ≡ map (λ c. reply.Done) control_calls
  pub modes : modes_by slices journal ≡ Rw ∷ Rw ∷ []
  pub chain : chain_of (left_by slices journal).volume.snapshots ≡ (sys_name 1, false) ∷ []
  pub frames : (stream : ℕ) → stream < slices → replies_of stream journal ≡ replies_on (blank_disk slices) (calls stream)
  pub disk : (left_by slices journal).volume.disk ≡ slices_left (blank_disk slices) calls slices

-- Two journals have the same replies, modes, chain and disk.
pub record HaveOneResult (slices : ℕ) (journal other : List Entry) : Type 0 where
  pub replies : (stream : ℕ) → stream ≤ slices → replies_of stream journal ≡ replies_of stream other
  pub modes : modes_by slices journal ≡ modes_by slices other
  pub chain : chain_of (left_by slices journal).volume.snapshots ≡ chain_of (left_by slices other).volume.snapshots
  pub disk : (left_by slices journal).volume.disk ≡ (left_by slices other).volume.disk
