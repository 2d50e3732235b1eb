-- How far a started call has come on each replica.
use Rattle.std.specs.Prelude.{ℕ, Bool, true, false, List, slice_index_or}
use Rattle.volume_model.specs.declared.mode.Mode.{Mode}
use Rattle.volume_model.specs.declared.mode.Mode.TheVariants.{Rw, Wo, Err}
use Rattle.step_answers.specs.declared.parts.Part.{Part}
use Rattle.step_answers.specs.declared.parts.Part.TheVariants.{Apart, Owed, Taken, Acked}

-- the part of a replica; one that is not there has none
abbrev pub part_at : List Part → ℕ → Part
part_at parts r = slice_index_or parts r Apart

-- the replica had its step of the call
abbrev pub IsTaken : Part → Type 0
IsTaken Apart = ⊥
IsTaken Owed = ⊥
IsTaken Taken = Unit {0}
IsTaken Acked = Unit {0}

-- what a call that starts owes to a replica of this mode
abbrev pub part_for : Mode → Part
part_for Rw = Owed
part_for Wo = Owed
part_for Err = Apart

-- it is owed or taken, and not acknowledged
abbrev pub is_awaited : Part → Bool
is_awaited Apart = false
is_awaited Owed = true
is_awaited Taken = true
is_awaited Acked = false

-- a replica of this mode has still to acknowledge
abbrev pub is_pending_at : Mode → Part → Bool
is_pending_at Err _ = false
is_pending_at Rw p = is_awaited p
is_pending_at Wo p = is_awaited p
