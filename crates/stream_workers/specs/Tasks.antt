-- What a worker is given, what it leaves, and what is taken in of it.
use Rattle.std.specs.Prelude.{◌≡◌, ℕ, ◌<◌, ◌≤◌, Bool, true, false, List, [], length, map, slice_index_or, Option, Some}
use Rattle.desk_lock.specs.declared.seats.Desk.{Desk}
use Rattle.desk_lock.specs.declared.seats.Seat.{Seat}
use Rattle.desk_lock.specs.declared.views.Known.{Known}
use Rattle.desk_lock.specs.Known.{keeping}
use Rattle.desk_lock.specs.Seats.{number_of, last_of, IsSeatOf}
use Rattle.outer_traits.specs.declared.ends.Ends.{Ends}
use Rattle.outer_traits.specs.Lines.{AreLinesOf}
use Rattle.client_worker.specs.declared.channel.Channel.{Channel}
use Rattle.client_worker.specs.Exchanges.{told_in}
use Rattle.world_holder.specs.declared.kept.WorldOnDesk.{WorldOnDesk}
use Rattle.world_holder.specs.Laid.{laid}
use Rattle.target_traits.specs.Objects.{Objects}
use Rattle.control_worker.specs.Store.{StoreSoFar, TellsFault}
use Rattle.script_text.specs.Good.{backs_up}
use Rattle.stream_steps.specs.Mine.{Placed}
use Rattle.volume_core.specs.State.{opening_of}
use Rattle.world_holder.specs.View.{view, own_entries, IsFree}
use Rattle.world_holder.specs.Rests.{IsSeated}
use Rattle.stream_turns.specs.Joined.{HasPair}
use Rattle.stream_turns.specs.Turn.{IsTaken, AreNewLines}
use Rattle.stream_turns.specs.Volume.{stream_calls}
use Rattle.stream_workers.specs.declared.task.Task.{Task}
use Rattle.stream_workers.specs.Ended.{HasEnded}

-- the seat is the stream's, which has done nothing yet
pub record Begins (d : Desk WorldOnDesk) (s : Seat WorldOnDesk) (n : ℕ) : Type 0 where
  pub rests : IsSeated d s n
  pub free : IsFree n (laid (last_of s))
  pub idle : (view false n (laid (last_of s))).running ≡ []
  pub none : (view false n (laid (last_of s))).entries ≡ []

-- the stream's own entries of what the seat saw last
abbrev pub own_at : ℕ → Seat WorldOnDesk → List Placed
own_at n s = own_entries n (opening_of (laid (last_of s))) (laid (last_of s)).book.entries

-- what the lines tell: between whom they are, how often each has failed, and what it carried
abbrev pub ends_in : {L : Type 0} → (L → Ends) → List (Channel L) → List Ends
ends_in ends cs = map (λ c. ends c.line) cs

abbrev pub counts_in : {L : Type 0} → (L → ℕ) → List (Channel L) → List ℕ
counts_in count cs = map (λ c. count c.line) cs

abbrev pub carried_in : {L : Type 0} → (L → Option (List (List ℕ))) → List (Channel L) → List (Option (List (List ℕ)))
carried_in told cs = map (λ c. told c.line) cs

module _ {L : Type 0} (ends : L → Ends) (count : L → ℕ) (told : L → Option (List (List ℕ))) where
  -- a stream that a worker takes, its seat, and a new line to each replica
  pub record IsTask (d : Desk WorldOnDesk) (j : Task L) : Type 0 where
    pub seat : Seat WorldOnDesk
    pub has : j.seat ≡ Some seat
    pub begins : Begins d seat j.number
    pub taken : IsTaken (length (laid (last_of seat)).nodes) j.stream
    pub few : length (laid (last_of seat)).nodes ≤ 8
    pub lines : AreNewLines j.number (length (laid (last_of seat)).nodes) (ends_in ends j.channels.items)
        (counts_in count j.channels.items) (carried_in told j.channels.items)

  -- the seat and the lines are back, the stream has ended, and the lines tell that
  pub record IsBack (d : Desk WorldOnDesk) (j : Task L) : Type 0 where
    pub seat : Seat WorldOnDesk
    pub has : j.seat ≡ Some seat
    pub of_desk : IsSeatOf d seat
    pub number : number_of seat ≡ Some j.number
    pub lined : AreLinesOf j.number 0 (ends_in ends j.channels.items)
    pub many : length j.channels.items ≡ length (laid (last_of seat)).nodes
    pub ended : HasEnded j.number (stream_calls j.stream) (λ r. slice_index_or (counts_in count j.channels.items) r 0)
        (told_in (carried_in told j.channels.items)) (laid (last_of seat))

  -- so it is once the stream was served, and it is the stream of the task that was given
  pub record IsDone (d : Desk WorldOnDesk) (before j : Task L) : Type 0 where
    pub back : j.served ≡ true → IsBack d j
    pub number : j.number ≡ before.number
    pub stream : j.stream ≡ before.stream

  -- the same of each of these
  pub record AreDone (d : Desk WorldOnDesk) (before tasks : List (Task L)) : Type 0 where
    pub many : length tasks ≡ length before
    pub each : (k : ℕ) (x y : Task L) → k < length before
        → IsDone d (slice_index_or before k x) (slice_index_or tasks k y)

module _ {L : Type 0} where
  -- the task has the number of its place
  abbrev pub AreNumbered : List (Task L) → Type 0
  AreNumbered tasks = (k : ℕ) (d : Task L) → k < length tasks → (slice_index_or tasks k d).number ≡ k

  -- the first seat keeps the task's number, with what its seat saw last
  pub record IsJoinedIn (j : Task L) (before now : Known WorldOnDesk) : Type 0 where
    pub seat : Seat WorldOnDesk
    pub has : j.seat ≡ Some seat
    pub is : now ≡ keeping before j.number (last_of seat)

-- what was read of lines that were taken back
module _ {L : Type 0} (count : L → ℕ) (told : L → Option (List (List ℕ))) where
  -- its seat was joined, and what its lines told is noted
  pub record IsIn (joined : List (ℕ × WorldOnDesk)) (counts : ℕ → ℕ → ℕ)
      (carried : ℕ → ℕ → Option (List (List ℕ))) (j : Task L) : Type 0 where
    pub seat : Seat WorldOnDesk
    pub has : j.seat ≡ Some seat
    pub pair : HasPair j.number (last_of seat) joined
    pub counted : (r : ℕ) → r < length j.channels.items
        → counts j.number r ≡ slice_index_or (counts_in count j.channels.items) r 0
    pub noted : (r : ℕ) → r < length j.channels.items
        → carried j.number r ≡ told_in (carried_in told j.channels.items) r

-- Of a target of backups of that volume: what it tells of what it holds, and how often it has failed.
module _ {L T : Type 0} (tells : Bool) (holds : T → Objects) (faults : T → ℕ) (volume : List ℕ) where
  -- It was lent to the stream, which had backups if any has. The stream says whether the target has failed since, and what
  -- it holds now is what the stream's entries tell, where it tells that.
  pub record IsLent (old now : T) (fault : Bool) (j : Task L) : Type 0 where
    pub later : faults old ≤ faults now
    pub told : j.served ≡ true → TellsFault fault (faults old) (faults now)
    pub store : j.served ≡ true → backs_up j.stream ≡ true → tells ≡ true → (seat : Seat WorldOnDesk) → j.seat ≡ Some seat
        → StoreSoFar (holds old) (faults old) (holds now) (faults now) volume (own_at j.number seat)
