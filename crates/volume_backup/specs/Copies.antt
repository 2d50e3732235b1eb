-- The copies of a volume, as its journal tells them, and when replicas that are read have them.
use Rattle.std.specs.Prelude.{◌≡◌, true, List, ℕ, Option, None, Some, if◌then◌else◌}
use Rattle.volume_model.specs.PlainState.{Volume, copy_of}
use Rattle.volume_model.specs.Snapshots.{is_live}
use Rattle.step_answers.specs.declared.whole_op.WholeOp.{WholeOp}
use Rattle.step_answers.specs.declared.whole_op.WholeOp.TheVariants as whole
use Rattle.open_calls.specs.declared.whole.Whole.{Whole}
use Rattle.volume_core.specs.State.{State, told_of}

-- the copy of each live name; None of a name that is not live
abbrev pub live_copies : Volume → List ℕ → Option (List ℕ)
live_copies volume name =
    if is_live volume.snapshots.tree name then Some (copy_of volume.copies name) else None

-- the name is live in the volume
abbrev pub IsLive : State → List ℕ → Type 0
IsLive s name = is_live (told_of s).volume.snapshots.tree name ≡ true

-- its copy
abbrev pub copy_told : State → List ℕ → List ℕ
copy_told s name = copy_of (told_of s).volume.copies name

-- the copies of all live names
abbrev pub copies_told : State → List ℕ → Option (List ℕ)
copies_told s = live_copies (told_of s).volume

-- ---- while replicas agree with the journal

-- the operation is none that a command has started under the maintenance turn: it is a snapshot
abbrev pub IsBesideTurn : WholeOp → Type 0
IsBesideTurn (whole.Snapshot name) = Unit {0}
IsBesideTurn op = ⊥

-- No operation of a command under the turn has started. In the midst of one, replicas differ from what is told.
abbrev pub NoneUnderTurn : Option Whole → Type 0
NoneUnderTurn None = Unit {0}
NoneUnderTurn (Some w) = IsBesideTurn w.op
