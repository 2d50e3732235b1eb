-- What a step of the maintenance turn, on the whole volume or of folding asks of a World before it is taken.
use Rattle.std.specs.Prelude.{ℕ, ◌<◌, ◌*◌, length}
use Rattle.vol_units.specs.declared.size.TheConstants.{PAGE_BYTES}
use Rattle.volume_model.specs.declared.command.Command.{Command}
use Rattle.step_answers.specs.declared.whole_op.WholeOp.{WholeOp}
use Rattle.volume_model.specs.Commands.{NamesReplica}
use Rattle.open_calls.specs.Clients.{IsIdle}
use Rattle.open_calls.specs.Maint.{IsMaint}
use Rattle.volume_core.specs.State.{State}
use Rattle.volume_maint.specs.Places.{AwaitsTurn, AwaitsWhole}
use Rattle.volume_maint.specs.Answers.{MayAsk}
use Rattle.core_laws.specs.Guards.{IsStream, IsFreeStream}

-- the stream may enrol the command: one that wants the turn, and is of no replica that is not there
pub record MayWant (s : State) (stream : ℕ) (c : Command) : Type 0 where
  pub free : IsFreeStream s stream
  pub wants : IsMaint c
  pub there : NamesReplica (length s.nodes) c

-- the ticket is one of a command that waits for the turn
abbrev pub IsAwaitingTurn : State → ℕ → Type 0
IsAwaitingTurn s t = (k : ℕ) × AwaitsTurn s t k

-- the stream, which has nothing open, may enrol the operation
pub record MayEnrolWhole (s : State) (stream : ℕ) (op : WholeOp) : Type 0 where
  pub within : IsStream s stream
  pub idle : IsIdle stream s.calls
  pub asks : MayAsk s stream op

-- the ticket is one of an operation that waits for its start
abbrev pub IsAwaitingWhole : State → ℕ → Type 0
IsAwaitingWhole s t = (i : ℕ) × AwaitsWhole s t i

-- the page begins within the volume
abbrev pub HasPage : State → ℕ → Type 0
HasPage s page = page * PAGE_BYTES < s.size
