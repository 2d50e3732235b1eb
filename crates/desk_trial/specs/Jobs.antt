-- What a worker is given, and what it gives back.
use Rattle.std.specs.Prelude.{◌≡◌, ◌⊎◌, ℕ, ◌<◌, true, List, [], ◌∷◌, map, Some}
use Rattle.desk_lock.specs.declared.seats.Desk.{Desk}
use Rattle.desk_lock.specs.Seats.{number_of, last_of, IsSeatOf}
use Rattle.desk_trial.specs.declared.book.Book.{Book}
use Rattle.desk_trial.specs.declared.each.Job.{Job}
use Rattle.desk_trial.specs.declared.each.Done.{Done}
use Rattle.desk_trial.specs.Books.{note_of, notes_in, streams_of}

-- a seat of the desk for a stream of its book, which has noted nothing
pub record IsJob (d : Desk Book) (j : Job) : Type 0 where
  pub seat : IsSeatOf d j.seat
  pub number : number_of j.seat ≡ Some j.stream
  pub inside : j.stream < streams_of (last_of j.seat)
  pub blank : notes_in j.stream (last_of j.seat) ≡ []

-- the seat is back, and where memory sufficed it has noted just the values, in order
pub record IsDone (d : Desk Book) (j : Job) (r : Done) : Type 0 where
  pub seat : IsSeatOf d r.seat
  pub number : number_of r.seat ≡ Some j.stream
  pub mine : r.ok ≡ true → notes_in j.stream (last_of r.seat) ≡ map (note_of j.stream) j.values.items

-- the number was joined with that state
abbrev pub HasPair : ℕ → Book → List (ℕ × Book) → Type 0
HasPair n x [] = ⊥
HasPair n x (p ∷ ps) = ((p.0 ≡ n) × (p.1 ≡ x)) ⊎ HasPair n x ps
