-- Where a World is between two steps of a stream, and in one.
use Rattle.std.specs.Prelude.{◌≡◌, ℕ, ◌<◌, length, Option, Some}
use Rattle.std.specs.Global.{Box}
use Rattle.desk_lock.specs.declared.seats.Desk.{Desk}
use Rattle.desk_lock.specs.declared.seats.Seat.{Seat}
use Rattle.desk_lock.specs.Seats.{number_of, last_of, IsSeatOf, HasState}
use Rattle.volume_core.specs.declared.world.World.{World}
use Rattle.volume_core.specs.State.{state_of}
use Rattle.volume_core.specs.Sound.{IsSound}
use Rattle.world_holder.specs.declared.kept.WorldOnDesk.{WorldOnDesk}
use Rattle.world_holder.specs.Laid.{laid}
use Rattle.world_holder.specs.View.{IsAlone}

-- the stream is one of the World's, and alone with it
pub record IsKept (w : World) (stream : ℕ) : Type 0 where
  pub there : stream < length w.indices.items
  pub alone : IsAlone stream (state_of w)

-- it is in hand, as it was seen last
pub record IsInHand (h : Option (Box World)) (b : Box World) (stream : ℕ) : Type 0 where
  pub is : h ≡ Some b
  pub sound : IsSound (state_of b.value)
  pub kept : IsKept b.value stream

-- the seat is the stream's, and the stream one of the World's
pub record IsOwnSeat (s : Seat WorldOnDesk) (stream : ℕ) : Type 0 where
  pub number : number_of s ≡ Some stream
  pub there : stream < length (laid (last_of s)).indices

-- it is at rest
pub record IsSeated (d : Desk WorldOnDesk) (s : Seat WorldOnDesk) (stream : ℕ) : Type 0 where
  pub seat : IsSeatOf d s
  pub own : IsOwnSeat s stream

-- the World is out with it, as it was seen last
pub record IsOut (d : Desk WorldOnDesk) (s : Seat WorldOnDesk) (stream : ℕ) : Type 0 where
  pub turn : HasState d s
  pub own : IsOwnSeat s stream
  pub sound : IsSound (laid (last_of s))
