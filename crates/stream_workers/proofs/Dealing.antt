-- The tasks of all streams: dealt out, and done.
use Rattle.std.proofs.Common.{◌≡◌, ℕ, suc, ◌<◌, ◌≤◌, true, false, List, [], ◌∷◌, ◌++◌, length, map, get_or}
use Rattle.std.proofs.Common.{Option, Some, Result, Ok, OnOk, All, refl, sym, ap, subst, ◌∙◌, arith}
use Rattle.std.proofs.Common.{Err as Failed}
use Rattle.std.specs.Prelude.{is_err}
use Rattle.std.proofs.lemmas.List.{map-append}
use Rattle.desk_lock.specs.declared.seats.Desk.{Desk}
use Rattle.desk_lock.specs.declared.seats.Seat.{Seat}
use Rattle.desk_lock.specs.Seats.{last_of}
use Rattle.outer_traits.specs.declared.ends.Ends.{Ends}
use Rattle.script_text.specs.declared.script.Stream.{Stream}
use Rattle.world_holder.specs.declared.kept.WorldOnDesk.{WorldOnDesk}
use Rattle.world_holder.specs.Laid.{laid}
use Rattle.world_holder.specs.View.{view, IsFree}
use Rattle.world_holder.specs.Rests.{IsSeated}
use Rattle.stream_turns.specs.Turn.{IsTaken, AreNewLines}
use Rattle.stream_turns.specs.Volume.{heads_of}
use Rattle.stream_turns.proofs.Lists.{each_snoc, element}
use Rattle.stream_workers.specs.declared.task.Task.{Task}
use Rattle.stream_workers.specs.Tasks.{IsTask, IsBack, AreDone, AreNumbered, ends_in, counts_in, carried_in}

pub not_err : {A E P : Type 0} (res : Result A E) → is_err res ≡ false → OnOk res P → P
not_err (Ok a) e h = h
not_err (Failed x) e h = absurd cc

pub map_twice : {A B C : Type 0} (f : A → B) (h : B → C) (xs : List A) → map (λ x. h (f x)) xs ≡ map h (map f xs)
map_twice f h [] = refl
map_twice f h (x ∷ xs) = ap (λ l. h (f x) ∷ l) (map_twice f h xs)

-- two lists with the same at each place
same_map : {A B : Type 0} (f : A → B) (xs ys : List A) → length ys ≡ length xs
    → ((k : ℕ) (x y : A) → k < length xs → f (get_or ys k y) ≡ f (get_or xs k x)) → map f ys ≡ map f xs
same_map f [] [] many each = refl
same_map f [] (y ∷ ys) many each = absurd (omega (arith, many))
same_map f (x ∷ xs) [] many each = absurd (omega (arith, many))
same_map f (x ∷ xs) (y ∷ ys) many each = λ i. each 0 x y (omega arith) i ∷ same_map f xs ys (omega (arith, many))
    (λ k a b low. each (suc k) a b (omega (arith, low))) i

module _ {L : Type 0} (ends : L → Ends) (count : L → ℕ) (told : L → Option (List (List ℕ))) (d : Desk WorldOnDesk) where
  -- ---- dealt out

  -- a stream with a seat that has just been split off, and new lines
  pub is_task : (j : Task L) (seat : Seat WorldOnDesk) (w : WorldOnDesk) (k : ℕ) → j.seat ≡ Some seat
      → IsSeated d seat j.number → IsFree j.number (laid (last_of seat)) → last_of seat ≡ w
      → (view false j.number (laid w)).running ≡ [] → (view false j.number (laid w)).entries ≡ []
      → IsTaken k j.stream → k ≡ length (laid w).nodes → k ≤ 8
      → AreNewLines j.number k (ends_in ends j.channels.items) (counts_in count j.channels.items)
      (carried_in told j.channels.items) → IsTask ends count told d j
  is_task j seat w k has rests free last idle none taken many few lines = record {
    seat = seat;
    has = has;
    begins = record {
      rests = rests;
      free = free;
      idle = subst (λ (x : WorldOnDesk). (view false j.number (laid x)).running ≡ []) (sym last) idle;
      none = subst (λ (x : WorldOnDesk). (view false j.number (laid x)).entries ≡ []) (sym last) none;
    };
    taken = subst (λ n. IsTaken n j.stream) replicas taken;
    few = subst (λ n. n ≤ 8) replicas few;
    lines = subst (λ n. AreNewLines j.number n (ends_in ends j.channels.items) (counts_in count j.channels.items)
        (carried_in told j.channels.items)) replicas lines;
  }
    where
      replicas : k ≡ length (laid (last_of seat)).nodes
      replicas = many ∙ sym (ap (λ (x : WorldOnDesk). length (laid x).nodes) last)

  pub tasks_more : (tasks more : List (Task L)) (j : Task L) → more ≡ tasks ++ j ∷ [] → All (IsTask ends count told d) tasks
      → IsTask ends count told d j → All (IsTask ends count told d) more
  tasks_more tasks more j is all one =
      subst (All (IsTask ends count told d)) (sym is) (each_snoc (λ k i. IsTask ends count told d i) tasks j all one)

  pub numbers_more : (tasks more : List (Task L)) (j : Task L) → more ≡ tasks ++ j ∷ [] → AreNumbered tasks
      → j.number ≡ length tasks → AreNumbered more
  numbers_more tasks more j is all one = subst AreNumbered (sym is) (each_snoc (λ k i. i.number ≡ k) tasks j all one)

  pub streams_more : (tasks more : List (Task L)) (j : Task L) (ss : List Stream) → more ≡ tasks ++ j ∷ []
      → map (λ (i : Task L). i.stream) tasks ≡ ss → map (λ (i : Task L). i.stream) more ≡ ss ++ j.stream ∷ []
  streams_more tasks more j ss is so_far = ap (map (λ (i : Task L). i.stream)) is
      ∙ map-append (λ (i : Task L). i.stream) tasks (j ∷ []) ∙ ap (λ l. l ++ j.stream ∷ []) so_far

  -- ---- done

  module _ (dealt tasks : List (Task L)) (done : AreDone ends count told d dealt tasks) where
    pub all_back : All (λ (j : Task L). j.served ≡ true) tasks → All (IsBack ends count told d) tasks
    all_back served k y low = let there : k < length dealt = omega (arith, low, done.many) in
        (done.each k (element dealt k there) y there).back (served k y low)

    pub all_numbered : AreNumbered dealt → AreNumbered tasks
    all_numbered numbered k y low =
        let there : k < length dealt = omega (arith, low, done.many) in
        let x = element dealt k there in
        (done.each k x y there).number ∙ numbered k x there

    pub all_streams : map (λ (j : Task L). j.stream) tasks ≡ map (λ (j : Task L). j.stream) dealt
    all_streams = same_map (λ (j : Task L). j.stream) dealt tasks done.many (λ k x y low. (done.each k x y low).stream)

    pub all_heads : (streams : List Stream) → map (λ (j : Task L). j.stream) dealt ≡ streams
        → map (λ (j : Task L). heads_of j.stream) tasks ≡ map heads_of streams
    all_heads streams are = map_twice (λ (j : Task L). j.stream) heads_of tasks ∙ ap (map heads_of) (all_streams ∙ are)
