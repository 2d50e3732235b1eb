-- Where a command of the maintenance turn stands, and where a ticket for the whole volume does.
use Rattle.std.specs.Prelude.{◌≡◌, ℕ, ◌<◌, length, Some, true, false}
use Rattle.vol_units.specs.Name.{begins_sys}
use Rattle.volume_model.specs.declared.command.Command.{Command}
use Rattle.volume_model.specs.declared.command.Command.TheVariants as command
use Rattle.range_turns.specs.declared.ticket.Kind.TheVariants as kind
use Rattle.range_turns.specs.Order.{ticket_at, StandsAt}
use Rattle.open_calls.specs.Calls.{open_at}
use Rattle.open_calls.specs.declared.whole.Whole.{Whole}
use Rattle.open_calls.specs.Maint.{command_at}
use Rattle.volume_core.specs.State.{State}

-- a command waits there for the turn
pub record AwaitsTurn (s : State) (t k : ℕ) : Type 0 where
  pub stands : StandsAt s.maint t k
  pub waits : (ticket_at s.maint k).started ≡ false

-- that command has the turn, whatever it has enrolled
pub record IsTurnOf (s : State) (c : Command) : Type 0 where
  pub some : 0 < length s.commands
  pub started : (ticket_at s.maint 0).started ≡ true
  pub command : (command_at s.commands 0).command ≡ c

-- an operation waits there for its start
pub record AwaitsWhole (s : State) (t i : ℕ) : Type 0 where
  pub stands : StandsAt s.tickets t i
  pub kind : (ticket_at s.tickets i).kind ≡ kind.Whole
  pub waits : (ticket_at s.tickets i).started ≡ false

-- so for the stream whose call has that ticket
abbrev pub ForCaller : State → ℕ → (ℕ → Type 0) → Type 0
ForCaller s t fact = (i : ℕ) → StandsAt s.tickets t i → fact (open_at s.calls i).stream

-- the started call on the whole volume has that ticket, at i
pub record IsWholeOn (s : State) (t : ℕ) (w : Whole) (i : ℕ) : Type 0 where
  pub is : s.whole ≡ Some w
  pub number : w.number ≡ t
  pub stands : StandsAt s.tickets t i

-- a snapshot, or a command that wants the turn
abbrev pub IsWholeCommand : Command → Type 0
IsWholeCommand (command.Snapshot name) = begins_sys name ≡ false
IsWholeCommand (command.Remove name) = Unit {0}
IsWholeCommand (command.Revert name) = Unit {0}
IsWholeCommand command.Purge = Unit {0}
IsWholeCommand (command.Add r) = Unit {0}
IsWholeCommand (command.Backup backup snapshot) = Unit {0}
IsWholeCommand c = ⊥
