-- The bytes that the open calls bring to the journal.
use Rattle.std.specs.Prelude.{ℕ, ◌+◌, List, length}
use Rattle.std.specs.List.{sum_by}
use Rattle.open_calls.specs.declared.open_call.OpenCall.{OpenCall}

-- those that a write puts, or that a started read is given: no call has both
abbrev pub owed_call : OpenCall → ℕ
owed_call c = length c.bytes + length c.buffer

-- and those of all
abbrev pub owed_data : List OpenCall → ℕ
owed_data calls = sum_by owed_call calls
