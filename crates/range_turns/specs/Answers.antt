-- What asking whether a ticket may start is answered.
use Rattle.std.specs.Prelude.{◌≡◌, ℕ, List}
use Rattle.range_turns.specs.declared.ticket.Ticket.{Ticket}
use Rattle.range_turns.specs.declared.turns.MayStart.{MayStart}
use Rattle.range_turns.specs.declared.turns.MayStart.TheVariants.{Yes, After}
use Rattle.range_turns.specs.Order.{ticket_at, StandsAt, IsClear, IsFirstInWay}

-- of the ticket at a place: yes where nothing earlier is in its way, and else the number of the first that is
abbrev pub MayStartAt : List Ticket → ℕ → MayStart → Type 0
MayStartAt tickets place Yes = IsClear tickets place
MayStartAt tickets place (After number) =
    (first : ℕ) × IsFirstInWay tickets place first × ((ticket_at tickets first).number ≡ number)

-- of the ticket of that number
abbrev pub MayStartNow : List Ticket → ℕ → MayStart → Type 0
MayStartNow tickets number answer = (place : ℕ) × StandsAt tickets number place × MayStartAt tickets place answer
