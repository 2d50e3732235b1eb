-- What a step asks of a World before it is taken.
use Rattle.std.specs.Prelude.{◌≢◌, ℕ, ◌<◌, length}
use Rattle.volume_model.specs.declared.call.Call.{Call}
use Rattle.volume_model.specs.declared.mode.Mode.TheVariants.{Err}
use Rattle.volume_model.specs.Faults.{last_count}
use Rattle.volume_model.specs.Modes.{mode_of}
use Rattle.open_calls.specs.Clients.{IsIdle}
use Rattle.open_calls.specs.Maint.{HasNoCommand}
use Rattle.step_answers.specs.Asked.{IsOnRange, IsNow, AsksReplica}
use Rattle.volume_core.specs.Places.{IsWaitingAt}
use Rattle.volume_core.specs.State.{State, modes_in}

-- the stream is one of the World's
abbrev pub IsStream : State → ℕ → Type 0
IsStream s stream = stream < length s.indices

-- it is one of them, and it has no call open, and no command that has the maintenance turn or waits for it
pub record IsFreeStream (s : State) (stream : ℕ) : Type 0 where
  pub within : IsStream s stream
  pub idle : IsIdle stream s.calls
  pub alone : HasNoCommand stream s.commands

-- the stream may enrol the call: a read or a write that is not too long
pub record MayEnrol (s : State) (stream : ℕ) (c : Call) : Type 0 where
  pub free : IsFreeStream s stream
  pub range : IsOnRange c

-- the call may be answered at once, and is of no replica that is not there
pub record MayAnswer (s : State) (stream : ℕ) (c : Call) : Type 0 where
  pub free : IsFreeStream s stream
  pub now : IsNow c
  pub there : AsksReplica (length s.nodes) c

-- the ticket is one of a call that waits
abbrev pub IsWaiting : State → ℕ → Type 0
IsWaiting s t = (i : ℕ) × IsWaitingAt s t i

-- a line of the stream to the replica may fail: the replica has not failed, and the line's count rose
pub record MayFault (s : State) (stream r count : ℕ) : Type 0 where
  pub within : IsStream s stream
  pub up : mode_of (modes_in s) r ≢ Err
  pub rose : last_count stream r s.book.entries < count
