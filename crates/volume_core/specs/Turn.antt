-- The command that has the maintenance turn: when nothing holds it, and what its end makes of a World.
use Rattle.std.specs.Prelude.{◌≡◌, ℕ, true, None}
use Rattle.std.specs.List.{remove}
use Rattle.volume_model.specs.declared.call.Call.TheVariants as call
use Rattle.volume_model.specs.declared.call.Reply.{Reply}
use Rattle.range_turns.specs.Order.{ticket_at, StandsAt}
use Rattle.open_calls.specs.Clients.{IsIdle}
use Rattle.open_calls.specs.Maint.{command_at}
use Rattle.volume_core.specs.State.{State}
use Rattle.volume_core.specs.Steps.{answered}

-- the command of that ticket has the turn, and nothing enrolled for the whole volume
pub record IsFreeTurn (s : State) (t : ℕ) : Type 0 where
  pub stands : StandsAt s.maint t 0
  pub started : (ticket_at s.maint 0).started ≡ true
  pub idle : IsIdle (command_at s.commands 0).stream s.calls

-- so for the stream whose command has that ticket
abbrev pub ForAsker : State → ℕ → (ℕ → Type 0) → Type 0
ForAsker s t fact = (k : ℕ) → StandsAt s.maint t k → fact (command_at s.commands k).stream

-- the command at k is gone
abbrev pub without_command : State → ℕ → State
without_command s k = record s { maint = remove s.maint k; commands = remove s.commands k }

-- the first ends with that reply, and what is known of a rebuild of it that was aborted goes
abbrev pub turn_ended : State → Reply → State
turn_ended s r = record (answered (without_command s 0) (command_at s.commands 0).stream
    (command_at s.commands 0).saw (call.Command (command_at s.commands 0).command) r) { ended = None }
