-- The tasks of all sessions, dealt out.
use Rattle.std.proofs.Common.{◌≡◌, ℕ, List, [], ◌∷◌, ◌++◌, length, map, cond, Some, Result, Ok, All, sym, ap, subst, ◌∙◌}
use Rattle.std.specs.Result.{is_ok}
use Rattle.std.proofs.lemmas.List.{map-append}
use Rattle.desk_lock.specs.declared.seats.Desk.{Desk}
use Rattle.desk_lock.specs.declared.seats.Seat.{Seat}
use Rattle.desk_lock.specs.Seats.{last_of}
use Rattle.door_traits.specs.declared.client.Client.{Client}
use Rattle.world_holder.specs.declared.kept.WorldOnDesk.{WorldOnDesk}
use Rattle.world_holder.specs.Laid.{laid}
use Rattle.world_holder.specs.View.{runs, IsFree}
use Rattle.world_holder.specs.Rests.{IsSeated}
use Rattle.session_serve.specs.Sessions.{own_of}
use Rattle.stream_turns.proofs.Lists.{each_snoc}
use Rattle.session_workers.specs.declared.task.Task.{Task}
use Rattle.session_workers.specs.Tasks.{IsTask, AreNumbered}

-- what was pushed in room that there was
pub pushed : {A B E : Type 0} (xs ys : List A) (x : A) (r : Result B E) (u : B) → r ≡ Ok u
    → ys ≡ cond (is_ok r) (xs ++ x ∷ []) xs → ys ≡ xs ++ x ∷ []
pushed xs ys x r u is e = subst (λ o. ys ≡ cond (is_ok o) (xs ++ x ∷ []) xs) is e

module _ {I O : Type 0} where
  -- a client with a seat that has just been split off
  pub is_task : (d : Desk WorldOnDesk) (j : Task I O) (seat : Seat WorldOnDesk) (w first : WorldOnDesk) → j.seat ≡ Some seat
      → IsSeated d seat j.number → IsFree j.number (laid (last_of seat)) → last_of seat ≡ w
      → runs j.number (laid w) ≡ [] → own_of j.number (laid w) ≡ [] → w ≡ first
      → IsTask (length (laid first).nodes) d j
  is_task d j seat w first has rests free last idle none from = record {
    seat = seat;
    has = has;
    rests = rests;
    free = free;
    idle = subst (λ (x : WorldOnDesk). runs j.number (laid x) ≡ []) (sym last) idle;
    none = subst (λ (x : WorldOnDesk). own_of j.number (laid x) ≡ []) (sym last) none;
    many = ap (λ (x : WorldOnDesk). length (laid x).nodes) (last ∙ from);
  }

  pub tasks_more : (k : ℕ) (d : Desk WorldOnDesk) (tasks more : List (Task I O)) (j : Task I O) → more ≡ tasks ++ j ∷ []
      → All (IsTask k d) tasks → IsTask k d j → All (IsTask k d) more
  tasks_more k d tasks more j is all one =
      subst (All (IsTask k d)) (sym is) (each_snoc (λ i x. IsTask k d x) tasks j all one)

  pub numbers_more : (tasks more : List (Task I O)) (j : Task I O) → more ≡ tasks ++ j ∷ [] → AreNumbered tasks
      → j.number ≡ length tasks → AreNumbered more
  numbers_more tasks more j is all one = subst AreNumbered (sym is) (each_snoc (λ k i. i.number ≡ k) tasks j all one)

  pub clients_more : (tasks more : List (Task I O)) (j : Task I O) (cs : List (Client I O)) → more ≡ tasks ++ j ∷ []
      → map (λ (i : Task I O). i.client) tasks ≡ cs → map (λ (i : Task I O). i.client) more ≡ cs ++ j.client ∷ []
  clients_more tasks more j cs is so_far = ap (map (λ (i : Task I O). i.client)) is
      ∙ map-append (λ (i : Task I O). i.client) tasks (j ∷ []) ∙ ap (λ l. l ++ j.client ∷ []) so_far
