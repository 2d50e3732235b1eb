-- What a worker is given, what it leaves, and what is taken in of it.
use Rattle.std.specs.Prelude.{◌≡◌, ℕ, ◌<◌, ◌≤◌, List, [], length, replicate, slice_index_or, Option, Some, None, IfOk, vec_capacity}
use Rattle.desk_lock.specs.declared.seats.Desk.{Desk}
use Rattle.desk_lock.specs.declared.seats.Seat.{Seat}
use Rattle.desk_lock.specs.declared.views.Stage.TheVariants.{Idle}
use Rattle.desk_lock.specs.Known.{known_with}
use Rattle.desk_lock.specs.Seats.{known, number_of, last_of, told_of, seats_of, IsSeatOf}
use Rattle.door_traits.specs.declared.client.Client.{Client}
use Rattle.door_traits.specs.Sessions.{told}
use Rattle.replica_node.specs.Node.{blank}
use Rattle.volume_model.specs.Faults.{last_count}
use Rattle.volume_core.specs.Opened.{IsOpenedOn, blank_opening}
use Rattle.world_holder.specs.declared.kept.WorldOnDesk.{WorldOnDesk}
use Rattle.world_holder.specs.Laid.{laid, running_of}
use Rattle.world_holder.specs.Rests.{IsSeated}
use Rattle.world_holder.specs.View.{runs, IsFree}
use Rattle.session_serve.specs.Sessions.{own_of}
use Rattle.session_workers.specs.Clients.{SessionComesTo}
use Rattle.stream_turns.specs.Joined.{HasPair}
use Rattle.session_workers.specs.declared.table.Table.{Table}
use Rattle.session_workers.specs.declared.task.Task.{Task}

module _ {I O : Type 0} where
  -- A desk for so many sessions, on which a volume lies that has just begun, and its first seat. Nobody sits there yet, and
  -- there is room for a task and a client of each.
  pub record IsLaidTable (size replicas sessions : ℕ) (t : Table I O) : Type 0 where
    pub seat : IsSeatOf t.desk t.first
    pub first : known t.first ≡ known_with None (last_of t.first) Idle 0 []
    pub seats : seats_of t.desk ≡ sessions
    pub begun : IsOpenedOn size (blank_opening replicas) (replicate replicas (blank size)) sessions (laid (last_of t.first))
    pub none : (t.tasks.items ≡ []) × (t.clients.items ≡ []) × (t.ended.items ≡ [])
    pub room : (sessions ≤ vec_capacity t.tasks) × (sessions ≤ vec_capacity t.clients)

  -- a client and the seat of its session, which has done nothing yet, at a volume of so many replicas
  pub record IsTask (replicas : ℕ) (d : Desk WorldOnDesk) (j : Task I O) : Type 0 where
    pub seat : Seat WorldOnDesk
    pub has : j.seat ≡ Some seat
    pub rests : IsSeated d seat j.number
    pub free : IsFree j.number (laid (last_of seat))
    pub idle : runs j.number (laid (last_of seat)) ≡ []
    pub none : own_of j.number (laid (last_of seat)) ≡ []
    pub many : length (laid (last_of seat)).nodes ≡ replicas

  -- The seat is back and at rest, nothing of the session is open, and none of its lines has a fault mark. Where the session
  -- has ended, it saw all that it tells, and no more.
  pub record IsBack (d : Desk WorldOnDesk) (j : Task I O) : Type 0 where
    pub seat : Seat WorldOnDesk
    pub has : j.seat ≡ Some seat
    pub of_desk : IsSeatOf d seat
    pub number : number_of seat ≡ Some j.number
    pub idle : running_of (laid (last_of seat)) j.number ≡ []
    pub counted : (r : ℕ) → last_count j.number r (laid (last_of seat)).book.entries ≤ 0
    pub seen : IfOk j.ended (λ e. (length (laid (last_of seat)).book.entries ≤ e.seen) × (told_of seat ≡ e.seen))

  -- the task has the number of its place
  abbrev pub AreNumbered : List (Task I O) → Type 0
  AreNumbered tasks = (k : ℕ) (d : Task I O) → k < length tasks → (slice_index_or tasks k d).number ≡ k

  -- the first seat keeps the task's number, with what its seat saw last, and was told no less
  pub record IsIn (joined : List (ℕ × WorldOnDesk)) (told : ℕ) (j : Task I O) : Type 0 where
    pub seat : Seat WorldOnDesk
    pub has : j.seat ≡ Some seat
    pub pair : HasPair j.number (last_of seat) joined
    pub reach : told_of seat ≤ told

-- what the clients' ends tell: what a source has left and how often it failed, what a sink holds and how often it failed
module _ {I O : Type 0} (left : I → Option (List ℕ)) (read_faults : I → ℕ) (holds : O → Option (List ℕ))
    (write_faults : O → ℕ) where
  -- what the session came to, in the eyes of its seat
  abbrev pub IsSessionServed : Client I O → Task I O → Seat WorldOnDesk → Type 0
  IsSessionServed before j seat = SessionComesTo j.number
      (told (left before.source) (read_faults before.source) (holds before.sink) (write_faults before.sink))
      (told (left j.client.source) (read_faults j.client.source) (holds j.client.sink) (write_faults j.client.sink))
      (laid (last_of seat)).book.entries j.ended

  -- the seat is back, and the session was served, of the client of the task that was given
  pub record IsDone (d : Desk WorldOnDesk) (before j : Task I O) : Type 0 where
    pub back : IsBack d j
    pub number : j.number ≡ before.number
    pub served : (seat : Seat WorldOnDesk) → j.seat ≡ Some seat → IsSessionServed before.client j seat

  -- the same of each of these
  pub record AreDone (d : Desk WorldOnDesk) (before tasks : List (Task I O)) : Type 0 where
    pub many : length tasks ≡ length before
    pub each : (k : ℕ) (x y : Task I O) → k < length before
        → IsDone d (slice_index_or before k x) (slice_index_or tasks k y)
