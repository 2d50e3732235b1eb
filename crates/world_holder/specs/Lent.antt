-- A seat that is lent for some steps: what it has seen begins with what it had seen before them.
use Rattle.std.specs.Prelude.{◌≡◌, ℕ}
use Rattle.desk_lock.specs.declared.seats.Desk.{Desk}
use Rattle.desk_lock.specs.declared.seats.Seat.{Seat}
use Rattle.desk_lock.specs.Account.{BeginsWith}
use Rattle.desk_lock.specs.Seats.{last_of}
use Rattle.volume_core.specs.State.{State}
use Rattle.volume_core.specs.Streams.{origin_of}
use Rattle.world_holder.specs.declared.kept.WorldOnDesk.{WorldOnDesk}
use Rattle.world_holder.specs.Laid.{laid}
use Rattle.world_holder.specs.Rests.{IsSeated, IsOut}

-- the World t has the origin of s, and all of its journal in front
pub record IsSince (s t : State) : Type 0 where
  pub origin : origin_of t ≡ origin_of s
  pub seen : BeginsWith t.book.entries s.book.entries

-- the seat s, which was `first` before these steps, is at rest
pub record IsLent (d : Desk WorldOnDesk) (first s : Seat WorldOnDesk) (stream : ℕ) : Type 0 where
  pub seated : IsSeated d s stream
  pub since : IsSince (laid (last_of first)) (laid (last_of s))

-- the World is out with it
pub record IsLentOut (d : Desk WorldOnDesk) (first s : Seat WorldOnDesk) (stream : ℕ) : Type 0 where
  pub out : IsOut d s stream
  pub since : IsSince (laid (last_of first)) (laid (last_of s))
