-- A desk for two sessions on one replica, its first seat, and a session that sits there.
use Rattle.std.specs.Prelude.{◌≡◌, ℕ, length, None}
use Rattle.desk_lock.specs.declared.seats.Desk.{Desk}
use Rattle.desk_lock.specs.declared.seats.Seat.{Seat}
use Rattle.desk_lock.specs.Seats.{number_of, made_of, last_of, seats_of, IsSeatOf}
use Rattle.outer_memory.specs.declared.no_fault_line.NoFaultLine.{NoFaultLine}
use Rattle.world_holder.specs.declared.kept.WorldOnDesk.{WorldOnDesk}
use Rattle.world_holder.specs.Laid.{laid}
use Rattle.session_serve.specs.Sessions.{MayCall}
use Rattle.session_tables.specs.declared.desk.Sitting.{Sitting}

-- the first seat of a desk for two, of which so many were split off
pub record IsFirst (n : ℕ) (d : Desk WorldOnDesk) (s : Seat WorldOnDesk) : Type 0 where
  pub seat : IsSeatOf d s
  pub number : number_of s ≡ None
  pub made : made_of s ≡ n
  pub seats : seats_of d ≡ 2
  pub streams : length (laid (last_of s)).indices ≡ 2
  pub replicas : length (laid (last_of s)).nodes ≡ 1

-- the session of that number may call at its seat
pub record IsSitting (d : Desk WorldOnDesk) (n : ℕ) (x : Sitting) : Type 0 where
  pub may : MayCall {L = NoFaultLine} (λ l. 0) (λ l. None) d x.seat x.session
  pub number : x.session.number ≡ n
