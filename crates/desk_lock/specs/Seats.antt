-- What a clause says of a seat.
use Rattle.std.specs.Prelude.{◌≡◌, ℕ, ◌<◌, true, [], ◌∷◌, Option, None}
use Rattle.desk_lock.specs.declared.views.Known.{Known}
use Rattle.desk_lock.specs.declared.views.Stage.TheVariants.{Idle, Holds}
use Rattle.desk_lock.specs.declared.seats.Desk.{Desk}
use Rattle.desk_lock.specs.declared.seats.Seat.{Seat}
use Rattle.desk_lock.specs.Known.{knowing, HasNumber}
use Rattle.desk_lock.specs.Rule.{known_of, in_turn, told_in}

module _ {S : Type 0} where
  -- all that a seat knows
  abbrev pub known : Seat S → Known S
  known s = known_of s.pass.me.0 s.live

  -- None for the first seat
  abbrev pub number_of : Seat S → Option ℕ
  number_of s = (known s).number

  -- the state as the seat last saw it
  abbrev pub last_of : Seat S → S
  last_of s = (known s).last

  -- how many seats were split off the first
  abbrev pub made_of : Seat S → ℕ
  made_of s = (known s).made

  -- the length of the journal that the seat was told last
  abbrev pub told_of : Seat S → ℕ
  told_of s = told_in s.pass.me.0

module _ {S : Type 0} where
  -- no ticket is out with the seat
  abbrev pub IsAtRest : Seat S → Type 0
  IsAtRest s = ((known s).stage ≡ Idle) × (s.pass.me.1 ≡ [])

  -- the seat s is t now: out with a guard, having seen the state x, and told no more
  abbrev pub IsInTurn : Seat S → S → Seat S → Type 0
  IsInTurn s x t = (t.pass.table_id ≡ s.pass.table_id) × ((a : ℕ) × (known t ≡ knowing (known s) x (Holds a)))
      × (t.pass.me.1 ≡ (0, None) ∷ []) × (told_of t ≡ told_of s)

  -- the seat s is t now: at rest, having seen the state x, and told no more
  abbrev pub HasLeft : Seat S → S → Seat S → Type 0
  HasLeft s x t = (t.pass.table_id ≡ s.pass.table_id) × (known t ≡ knowing (known s) x Idle) × (t.pass.me.1 ≡ [])
      × (told_of t ≡ told_of s)

  -- each seat that was split off was joined
  abbrev pub HasAll : Seat S → Type 0
  HasAll s = (n : ℕ) → n < made_of s → HasNumber n (known s).joined

module _ {S : Type 0} where
  -- how many seats may be split off the first
  abbrev pub seats_of : Desk S → ℕ
  seats_of d = d.table.shared.key.seats

  -- the seat is one of the desk, at rest
  abbrev pub IsSeatOf : Desk S → Seat S → Type 0
  IsSeatOf d s = (s.pass.table_id ≡ d.table.shared.table_id) × IsAtRest s

  -- the desk's state is out with the seat
  abbrev pub HasState : Desk S → Seat S → Type 0
  HasState d s = (s.pass.table_id ≡ d.table.shared.table_id) × (in_turn s.pass.me.0 ≡ true)
      × (s.pass.me.1 ≡ (0, None) ∷ [])
