-- Where the call of a ticket stands.
use Rattle.std.specs.Prelude.{◌≡◌, ◌≢◌, ℕ, true, false}
use Rattle.range_turns.specs.declared.ticket.Kind.TheVariants as kind
use Rattle.range_turns.specs.Order.{ticket_at, StandsAt}
use Rattle.open_calls.specs.Clients.{IsWriting, IsReading}
use Rattle.volume_core.specs.State.{State}

-- a started write
pub record IsWriteAt (s : State) (t i : ℕ) : Type 0 where
  pub stands : StandsAt s.tickets t i
  pub writes : IsWriting (ticket_at s.tickets i)

-- a started read
pub record IsReadAt (s : State) (t i : ℕ) : Type 0 where
  pub stands : StandsAt s.tickets t i
  pub reads : IsReading (ticket_at s.tickets i)

-- a read or a write that has not started
pub record IsWaitingAt (s : State) (t i : ℕ) : Type 0 where
  pub stands : StandsAt s.tickets t i
  pub waits : (ticket_at s.tickets i).started ≡ false
  pub range : (ticket_at s.tickets i).kind ≢ kind.Whole

-- a started read or write
pub record IsCallAt (s : State) (t i : ℕ) : Type 0 where
  pub stands : StandsAt s.tickets t i
  pub started : (ticket_at s.tickets i).started ≡ true
  pub range : (ticket_at s.tickets i).kind ≢ kind.Whole
