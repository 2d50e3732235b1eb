-- What is kept of each task that was taken in, while more are.
use Rattle.std.proofs.Common.{◌≡◌, ℕ, max, List, [], ◌∷◌, ◌++◌, map, Some, Result, Ok, All, inl, inr, refl, sym, ap, subst, ◌∙◌, arith}
use Rattle.std.proofs.lemmas.List.{map-append}
use Rattle.desk_lock.specs.declared.seats.Seat.{Seat}
use Rattle.desk_lock.specs.declared.views.Known.{Known}
use Rattle.desk_lock.specs.Known.{keeping}
use Rattle.desk_lock.specs.Seats.{last_of, told_of}
use Rattle.world_holder.specs.declared.kept.WorldOnDesk.{WorldOnDesk}
use Rattle.stream_turns.specs.Joined.{HasPair}
use Rattle.stream_turns.proofs.Lists.{each_snoc}
use Rattle.session_workers.specs.declared.task.Task.{Task}
use Rattle.session_workers.specs.Tasks.{IsIn}

module _ {I O : Type 0} (j : Task I O) (seat : Seat WorldOnDesk) (v v2 : Known WorldOnDesk) (told told2 : ℕ)
    (has : j.seat ≡ Some seat) (joins : v2 ≡ keeping v j.number (last_of seat)) (reach : told2 ≡ max told (told_of seat)) where
  joined_is : v2.joined ≡ (j.number, last_of seat) ∷ v.joined
  joined_is = ap (λ (k : Known WorldOnDesk). k.joined) joins

  -- of the one that is taken in
  taken_in : IsIn v2.joined told2 j
  taken_in = record {
    seat = seat;
    has = has;
    pair = subst (HasPair j.number (last_of seat)) (sym joined_is) (inl (refl, refl));
    reach = omega (arith, reach);
  }

  -- of another
  stays_in : (i : Task I O) → IsIn v.joined told i → IsIn v2.joined told2 i
  stays_in i is = record {
    seat = is.seat;
    has = is.has;
    pair = subst (HasPair i.number (last_of is.seat)) (sym joined_is) (inr is.pair);
    reach = omega (arith, reach, is.reach);
  }

  pub more_in : (done : List (Task I O)) → All (IsIn v.joined told) done → All (IsIn v2.joined told2) (done ++ j ∷ [])
  more_in done all = each_snoc (λ k i. IsIn v2.joined told2 i) done j (λ k d low. stays_in _ (all k d low)) taken_in

-- how one more has ended
pub ends_more : {A B E : Type 0} (end : A → Result B E) (xs : List A) (x : A) (ys more : List B) (y : B) → end x ≡ Ok y
    → more ≡ ys ++ y ∷ [] → map (λ e. Ok e) ys ≡ map end xs → map (λ e. Ok e) more ≡ map end (xs ++ x ∷ [])
ends_more end xs x ys more y is pushed so_far = ap (map (λ e. Ok e)) pushed ∙ map-append (λ e. Ok e) ys (y ∷ [])
    ∙ ap (λ l. l ++ Ok y ∷ []) so_far ∙ ap (λ z. map end xs ++ z ∷ []) (sym is) ∙ sym (map-append end xs (x ∷ []))
