-- Tickets on ranges of blocks, in the order of enrolment, and which of them has to wait for which. The rules are this
-- project's own.
use Rattle.std.specs.Prelude.{◌≡◌, ◌≢◌, ℕ, ◌*◌, ◌<◌, List, length, true, false, slice_index_or, slice_set, remove, All}
use Rattle.vol_units.specs.Range.{HaveCommonBlock}
use Rattle.vol_units.specs.declared.range.BlockRange.{BlockRange}
use Rattle.vol_units.specs.declared.size.TheConstants.{BLOCK_BYTES}
use Rattle.range_turns.specs.declared.ticket.Kind.{Kind}
use Rattle.range_turns.specs.declared.ticket.Kind.TheVariants as kind
use Rattle.range_turns.specs.declared.ticket.Ticket.{Ticket}

-- ---- two tickets

-- by their kinds: two reads never, one for the whole volume always, and else where the ranges have a common block
abbrev pub ConflictBy : Kind → Kind → BlockRange → BlockRange → Type 0
ConflictBy kind.Read kind.Read a b = ⊥
ConflictBy kind.Read kind.Write a b = HaveCommonBlock a b
ConflictBy kind.Write kind.Read a b = HaveCommonBlock a b
ConflictBy kind.Write kind.Write a b = HaveCommonBlock a b
ConflictBy kind.Read kind.Whole a b = Unit {0}
ConflictBy kind.Write kind.Whole a b = Unit {0}
ConflictBy kind.Whole other a b = Unit {0}

-- the later of two tickets has to wait until the earlier has ended
abbrev pub Conflict : Ticket → Ticket → Type 0
Conflict a b = ConflictBy a.kind b.kind a.range b.range

-- the first byte of a ticket's blocks
abbrev pub from_of : Ticket → ℕ
from_of t = t.range.first * BLOCK_BYTES

-- the first byte behind a ticket's blocks
abbrev pub until_of : Ticket → ℕ
until_of t = t.range.end * BLOCK_BYTES

-- ---- the tickets that have not ended

-- what stands past the end of the tickets
abbrev pub no_ticket : Ticket
no_ticket = record { number = 0; range = record { first = 0; end = 0 }; kind = kind.Read; started = false }

-- the ticket at a place
abbrev pub ticket_at : List Ticket → ℕ → Ticket
ticket_at tickets place = slice_index_or tickets place no_ticket

-- no ticket has the number
abbrev pub IsFresh : List Ticket → ℕ → Type 0
IsFresh tickets number = All (λ t. t.number ≢ number) tickets

-- the ticket of that number, and no other, stands at the place
pub record StandsAt (tickets : List Ticket) (number place : ℕ) : Type 0 where
  pub within : place < length tickets
  pub is : (ticket_at tickets place).number ≡ number
  pub only : (i : ℕ) → i < length tickets → (ticket_at tickets i).number ≡ number → i ≡ place

-- the ticket of that number was enrolled, and has not ended
abbrev pub IsEnrolled : List Ticket → ℕ → Type 0
IsEnrolled tickets number = (place : ℕ) × StandsAt tickets number place

-- no earlier ticket, started or not, is in the way of the one at the place
abbrev pub IsClear : List Ticket → ℕ → Type 0
IsClear tickets place = (k : ℕ) → k < place → ¬ Conflict (ticket_at tickets k) (ticket_at tickets place)

-- the ticket at j is the first in the way of the one at the place
pub record IsFirstInWay (tickets : List Ticket) (place j : ℕ) : Type 0 where
  pub earlier : j < place
  pub in_way : Conflict (ticket_at tickets j) (ticket_at tickets place)
  pub first : (k : ℕ) → k < j → ¬ Conflict (ticket_at tickets k) (ticket_at tickets place)

-- the same tickets, of which the one at the place has started
abbrev pub with_started : List Ticket → ℕ → List Ticket
with_started tickets place = slice_set tickets place (record (ticket_at tickets place) { started = true })

-- the ticket of that number starts, and nothing else changes
pub record Starts (old new : List Ticket) (number : ℕ) : Type 0 where
  pub place : ℕ
  pub stood : StandsAt old number place
  pub started : new ≡ with_started old place

-- the ticket of that number goes, and the others stay in their order
pub record Goes (old new : List Ticket) (number : ℕ) : Type 0 where
  pub place : ℕ
  pub stood : StandsAt old number place
  pub others : new ≡ remove old place

-- ---- what holds of them at every moment

-- no number stands twice
abbrev pub AreNumbered : List Ticket → Type 0
AreNumbered tickets =
    (i j : ℕ) → i < j → j < length tickets → (ticket_at tickets i).number ≢ (ticket_at tickets j).number

-- no earlier ticket is in the way of one that has started
abbrev pub AreApart : List Ticket → Type 0
AreApart tickets = (i : ℕ) → i < length tickets → (ticket_at tickets i).started ≡ true → IsClear tickets i

-- both
pub record AreInOrder (tickets : List Ticket) : Type 0 where
  pub numbered : AreNumbered tickets
  pub apart : AreApart tickets

-- ---- what contracts see

-- the tickets in the order of enrolment, and how many more can be enrolled before room is made
pub record Roll : Type 0 where
  pub tickets : List Ticket
  pub spare : ℕ
