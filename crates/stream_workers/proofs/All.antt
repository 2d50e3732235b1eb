-- Once all seats are back, each stream has ended in the World that is taken up, and nothing is open of it.
use Rattle.std.proofs.Common.{◌≡◌, ℕ, Bool, true, false, ◌<◌, ◌≤◌, List, [], ◌∷◌, length, map, Option, Some, None, inl, inr, sym, ap}
use Rattle.std.proofs.Common.{subst, ◌∙◌, arith, get_or, slice_index_or}
use Rattle.std.proofs.lemmas.List.{length-map}
use Rattle.std.specs.List.{All}
use Rattle.std.proofs.lemmas.Bool.{false≢true}
use Rattle.volume_model.specs.declared.call.Call.{Call}
use Rattle.volume_model.specs.OneWorker.{stream_of}
use Rattle.volume_core.specs.declared.world.World.{World}
use Rattle.target_traits.specs.Objects.{Objects}
use Rattle.control_worker.specs.Store.{StoreSoFar}
use Rattle.script_text.specs.Good.{backs_up}
use Rattle.stream_steps.specs.Mine.{Mine}
use Rattle.volume_core.specs.State.{state_of, opening_of}
use Rattle.volume_core.specs.Sound.{IsSound}
use Rattle.volume_core.specs.Streams.{Origin}
use Rattle.client_worker.specs.Exchanges.{told_in}
use Rattle.desk_lock.specs.Account.{Finds}
use Rattle.desk_lock.specs.Known.{HasNumber, FindsEach, Fits}
use Rattle.desk_lock.specs.declared.seats.Desk.{Desk}
use Rattle.desk_lock.specs.declared.seats.Seat.{Seat}
use Rattle.desk_lock.specs.declared.views.Known.{Known}
use Rattle.desk_lock.specs.Seats.{last_of}
use Rattle.outer_traits.specs.declared.ends.Ends.{Ends}
use Rattle.script_text.specs.declared.script.Stream.{Stream}
use Rattle.world_holder.specs.declared.kept.WorldOnDesk.{WorldOnDesk}
use Rattle.world_holder.specs.Laid.{laid, world_account}
use Rattle.world_holder.specs.View.{IsFound, own_entries}
use Rattle.world_holder.proofs.Grow.{found_same}
use Rattle.world_holder.proofs.Found.{found_later}
use Rattle.world_holder.proofs.Rests.{seat_none}
use Rattle.stream_turns.specs.Joined.{HasPair}
use Rattle.stream_turns.specs.Volume.{stream_calls}
use Rattle.stream_turns.specs.Turn.{IsBetween}
use Rattle.stream_turns.proofs.Joined.{has_number}
use Rattle.stream_turns.proofs.Lists.{element, map_at, some_same}
use Rattle.stream_turns.proofs.Rest.{rest_is, turns_are, none_gave_up}
use Rattle.stream_workers.specs.declared.task.Task.{Task}
use Rattle.stream_workers.specs.Ended.{HasEnded, HaveEnded}
use Rattle.stream_workers.specs.Tasks.{IsBack, IsIn, IsLent, AreNumbered, own_at, counts_in, carried_in}
use Rattle.stream_workers.proofs.Ends.{ended_later, ended_noted}

-- ---- one pair of number and state

pair_finds : (w : WorldOnDesk) (js : List (ℕ × WorldOnDesk)) (n : ℕ) (x : WorldOnDesk) → FindsEach world_account w js
    → HasPair n x js → Finds world_account (Some n) w x
pair_finds w [] n x fits has = absurd has
pair_finds w (p ∷ ps) n x fits (inl e) = subst (λ (z : ℕ × WorldOnDesk). Finds world_account (Some z.0) w z.1) (λ i. (e.0 i, e.1 i)) fits.0
pair_finds w (p ∷ ps) n x fits (inr has) = pair_finds w ps n x fits.1 has

-- each number that was given is back
pub has_all : {L : Type 0} (count : L → ℕ) (told : L → Option (List (List ℕ))) (tasks : List (Task L))
    (v : Known WorldOnDesk) (counts : ℕ → ℕ → ℕ) (carried : ℕ → ℕ → Option (List (List ℕ))) → AreNumbered tasks
    → All (IsIn count told v.joined counts carried) tasks → v.made ≡ length tasks → (n : ℕ) → n < v.made → HasNumber n v.joined
has_all count told tasks v counts carried numbered joined made n low =
    let there : n < length tasks = omega (arith, low, made) in
    let x = element tasks n there in
    let i = joined n x there in
    subst (λ m. HasNumber m v.joined) (numbered n x there) (has_number (get_or tasks n x).number (last_of i.seat) v.joined i.pair)

-- Of the first seat, whose tasks all are back and taken in, and of the World w that is taken up.
module _ {L : Type 0} (ends : L → Ends) (count : L → ℕ) (told : L → Option (List (List ℕ))) (d : Desk WorldOnDesk)
    (tasks : List (Task L)) (v : Known WorldOnDesk) (w : WorldOnDesk)
    (counts : ℕ → ℕ → ℕ) (carried : ℕ → ℕ → Option (List (List ℕ))) (first : v.number ≡ None)
    (fits : Fits world_account w v) (numbered : AreNumbered tasks) (back : All (IsBack ends count told d) tasks)
    (joined : All (IsIn count told v.joined counts carried) tasks) where
  -- the task at a place has ended
  one_ended : (j : Task L) → IsBack ends count told d j → IsIn count told v.joined counts carried j
      → j.number < length (laid w).indices → HasEnded j.number (stream_calls j.stream) (counts j.number) (carried j.number) (laid w)
  one_ended j b i there =
      let same : i.seat ≡ b.seat = some_same i.seat b.seat j.seat i.has b.has in
      let finds = pair_finds w v.joined j.number (last_of b.seat) fits.joined
      (subst (λ (x : Seat WorldOnDesk). HasPair j.number (last_of x) v.joined) same i.pair) in
      let later = found_later j.number w (last_of b.seat) finds in
      let found : IsFound false j.number (laid (last_of b.seat)) (laid w) =
      record { sound = fits.sound; there = there; later = later; same = λ e. absurd (false≢true e) } in
      let ended = b.ended in
      let nodes : length (laid w).nodes ≡ length j.channels.items = ap (λ (o : Origin). o.replicas) later.origin ∙ sym b.many in
      ended_noted j.number (length j.channels.items) (stream_calls j.stream) (counts_in count j.channels.items)
      (carried_in told j.channels.items) (counts j.number) (carried j.number) (laid w) fits.sound nodes
      (length-map j.channels.items (λ c. count c.line)) i.counted i.noted
      (ended_later j.number (stream_calls j.stream) (λ r. slice_index_or (counts_in count j.channels.items) r 0)
      (told_in (carried_in told j.channels.items)) (laid (last_of b.seat)) (laid w) found ended)

  -- and its own entries are those that its seat saw last
  own_later : (j : Task L) (seat : Seat WorldOnDesk) → j.seat ≡ Some seat → IsIn count told v.joined counts carried j
      → j.number < length (laid w).indices
      → own_entries j.number (opening_of (laid w)) (laid w).book.entries ≡ own_at j.number seat
  own_later j seat has i there =
      let same : i.seat ≡ seat = some_same i.seat seat j.seat i.has has in
      let finds = pair_finds w v.joined j.number (last_of seat) fits.joined
      (subst (λ (x : Seat WorldOnDesk). HasPair j.number (last_of x) v.joined) same i.pair) in
      let found : IsFound false j.number (laid (last_of seat)) (laid w) = record {
        sound = fits.sound;
        there = there;
        later = found_later j.number w (last_of seat) finds;
        same = λ e. absurd (false≢true e);
      } in
      ap (λ (m : Mine). m.entries) (found_same false j.number (laid (last_of seat)) (laid w) found)

  module _ (streams : List Stream) (are : map (λ (j : Task L). j.stream) tasks ≡ streams) (made : v.made ≡ length streams)
      (many : length (laid w).indices ≡ length streams) where
    as_many : length tasks ≡ length streams
    as_many = sym (length-map tasks (λ (j : Task L). j.stream)) ∙ ap length are

    each_ended : (n : ℕ) → n < length (map stream_calls streams)
        → HasEnded n (stream_of (map stream_calls streams) n) (counts n) (carried n) (laid w)
    each_ended n low =
        let there : n < length tasks = omega (arith, low, as_many, length-map streams stream_calls) in
        let x = element tasks n there in
        let j = get_or tasks n x in
        let at : j.number ≡ n = numbered n x there in
        let here : stream_of (map stream_calls streams) n ≡ stream_calls j.stream =
        map_at stream_calls streams n j.stream [] (omega (arith, there, as_many))
        ∙ ap stream_calls (ap (λ l. get_or l n j.stream) (sym are) ∙ map_at (λ (j : Task L). j.stream) tasks n x j.stream there) in
        let inside : j.number < length (laid w).indices = omega (arith, at, low, many, length-map streams stream_calls) in
        let ended = one_ended j (back n x there) (joined n x there) inside in
        subst (λ css. HasEnded n css (counts n) (carried n) (laid w)) (sym here)
        (subst (λ m. HasEnded m (stream_calls j.stream) (counts m) (carried m) (laid w)) at ended)

    pub have_ended : HaveEnded (map stream_calls streams) counts carried (laid w)
    have_ended = record {
      many = many ∙ sym (length-map streams stream_calls);
      each = each_ended;
      none = λ n past. seat_none n w (fits.rest first n (omega (arith, past, made, length-map streams stream_calls)));
    }

    -- what the stream at p tells of the target that was lent to it
    pub lent_tells : {T : Type 0} (tells : Bool) (holds : T → Objects) (faults : T → ℕ) (volume : List ℕ) (old now : T) (fault : Bool)
        (p : ℕ) → p < length streams → ((j : Task L) → IsLent tells holds faults volume old now fault (get_or tasks p j))
        → All (λ (j : Task L). j.served ≡ true) tasks → ((s : Stream) → backs_up (get_or streams p s) ≡ true) → tells ≡ true
        → StoreSoFar (holds old) (faults old) (holds now) (faults now) volume
        (own_entries p (opening_of (laid w)) (laid w).book.entries)
    lent_tells tells holds faults volume old now fault p low lent served backs tell =
        let there : p < length tasks = omega (arith, low, as_many) in
        let x = element tasks p there in
        let j = get_or tasks p x in
        let at : j.number ≡ p = numbered p x there in
        let b = back p x there in
        let here : get_or streams p j.stream ≡ j.stream =
        ap (λ l. get_or l p j.stream) (sym are) ∙ map_at (λ (j : Task L). j.stream) tasks p x j.stream there in
        let inside : j.number < length (laid w).indices = omega (arith, at, low, many) in
        subst (λ n. StoreSoFar (holds old) (faults old) (holds now) (faults now) volume
        (own_entries n (opening_of (laid w)) (laid w).book.entries)) at
        (subst (StoreSoFar (holds old) (faults old) (holds now) (faults now) volume)
        (sym (own_later j b.seat b.has (joined p x there) inside))
        ((lent x).store (served p x there) (ap backs_up (sym here) ∙ backs j.stream) tell b.seat b.has))

-- ---- nothing is open

pub between_is : (css : List (List Call)) (counts : ℕ → ℕ → ℕ) (told : ℕ → ℕ → Option (List (List ℕ))) (w : World)
    → IsSound (state_of w) → length w.nodes.items ≤ 8 → HaveEnded css counts told (state_of w)
    → IsBetween w
between_is css counts told w sound few ended = record {
  sound = sound;
  rest = rest_is (state_of w) sound (λ n low. (ended.each n (omega (arith, low, ended.many))).calls);
  turns = turns_are (state_of w) sound (λ n low. (ended.each n (omega (arith, low, ended.many))).turns);
  gave_up = none_gave_up (state_of w) sound (λ n low. (ended.each n (omega (arith, low, ended.many))).gave_up);
  few = few;
}
