-- What is kept of each task that was taken in, while more are.
use Rattle.std.proofs.Common.{◌≡◌, ◌≢◌, ℕ, ◌<◌, List, [], ◌∷◌, ◌++◌, length, map, get_or, Option, None, inl, inr}
use Rattle.std.proofs.Common.{refl, sym, ap, subst, ◌∙◌, arith}
use Rattle.std.specs.List.{All}
use Rattle.std.proofs.lemmas.List.{length-map}
use Rattle.desk_lock.specs.declared.views.Known.{Known}
use Rattle.desk_lock.specs.Seats.{last_of}
use Rattle.outer_traits.specs.Lines.{RecordsOf}
use Rattle.world_holder.specs.declared.kept.WorldOnDesk.{WorldOnDesk}
use Rattle.stream_turns.specs.Joined.{HasPair}
use Rattle.stream_turns.proofs.Lists.{each_snoc}
use Rattle.stream_workers.specs.declared.task.Task.{Task}
use Rattle.stream_workers.specs.Tasks.{IsIn, IsJoinedIn, counts_in, carried_in}

module _ {L : Type 0} (count : L → ℕ) (told : L → Option (List (List ℕ))) (j : Task L) (v v2 : Known WorldOnDesk)
    (counts counts' : ℕ → ℕ → ℕ) (carried carried' : ℕ → ℕ → Option (List (List ℕ)))
    (joins : IsJoinedIn j v v2) (counted : RecordsOf counts counts' j.number (counts_in count j.channels.items))
    (noted : RecordsOf carried carried' j.number (carried_in told j.channels.items)) where
  joined_is : v2.joined ≡ (j.number, last_of joins.seat) ∷ v.joined
  joined_is = ap (λ (k : Known WorldOnDesk). k.joined) joins.is

  -- of the one that is taken in
  taken_in : IsIn count told v2.joined counts' carried' j
  taken_in = record {
    seat = joins.seat;
    has = joins.has;
    pair = subst (HasPair j.number (last_of joins.seat)) (sym joined_is) (inl (refl, refl));
    counted = λ r low. counted.here r 0 (omega (arith, low, length-map j.channels.items (λ c. count c.line)));
    noted = λ r low. noted.here r None (omega (arith, low, length-map j.channels.items (λ c. told c.line)));
  }

  -- of another
  stays_in : (i : Task L) → i.number ≢ j.number → IsIn count told v.joined counts carried i → IsIn count told v2.joined counts' carried' i
  stays_in i apart is = record {
    seat = is.seat;
    has = is.has;
    pair = subst (HasPair i.number (last_of is.seat)) (sym joined_is) (inr is.pair);
    counted = λ r low. counted.others i.number r (λ both. apart both.0) ∙ is.counted r low;
    noted = λ r low. noted.others i.number r (λ both. apart both.0) ∙ is.noted r low;
  }

  -- the tasks before have the numbers of their places, and this one the next
  pub more_in : (done : List (Task L)) → ((k : ℕ) (d : Task L) → k < length done → (get_or done k d).number ≡ k)
      → j.number ≡ length done → All (IsIn count told v.joined counts carried) done
      → All (IsIn count told v2.joined counts' carried') (done ++ j ∷ [])
  more_in done numbers next all =
      each_snoc (λ k i. IsIn count told v2.joined counts' carried' i) done j
      (λ k d low. stays_in (get_or done k d) (λ e. less k (length done) low (sym (numbers k d low) ∙ e ∙ next)) (all k d low)) taken_in
    where
      less : (k n : ℕ) → k < n → k ≢ n
      less k n low e = omega (arith, low, e)

-- those of the first
pub first_of : {A : Type 0} (P : ℕ → A → Type 0) (xs rest all : List A) → xs ++ rest ≡ all
    → ((k : ℕ) (d : A) → k < length all → P k (get_or all k d)) → (k : ℕ) (d : A) → k < length xs → P k (get_or xs k d)
first_of P [] rest all whole each k d low = absurd (omega arith)
first_of P (x ∷ xs) rest all whole each k d low =
    subst (P k) (get_first (x ∷ xs) rest k d low)
    (subst (λ l. P k (get_or l k d)) (sym whole) (each k d (subst (λ l. k < length l) whole (longer (x ∷ xs) rest k low))))
  where
    get_first : {A : Type 0} (xs ys : List A) (k : ℕ) (d : A) → k < length xs → get_or (xs ++ ys) k d ≡ get_or xs k d
    get_first [] ys k d low = absurd (omega arith)
    get_first (x ∷ xs) ys Rattle.std.proofs.Common.zero d low = refl
    get_first (x ∷ xs) ys (Rattle.std.proofs.Common.suc k) d low = get_first xs ys k d (omega arith)

    longer : {A : Type 0} (xs ys : List A) (k : ℕ) → k < length xs → k < length (xs ++ ys)
    longer xs ys k low = omega (arith, low, Rattle.std.proofs.lemmas.List.length-append xs ys)
