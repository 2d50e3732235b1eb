-- Tasks that are done beside others: those before one, that one, and those behind it.
use Rattle.std.proofs.Common.{◌≡◌, ℕ, zero, suc, ◌<◌, List, [], ◌∷◌, ◌++◌, length, All, Option, sym, ap, subst, ◌∙◌, arith}
use Rattle.std.proofs.lemmas.List.Elements.{All-tail}
use Rattle.desk_lock.specs.declared.seats.Desk.{Desk}
use Rattle.outer_traits.specs.declared.ends.Ends.{Ends}
use Rattle.world_holder.specs.declared.kept.WorldOnDesk.{WorldOnDesk}
use Rattle.stream_turns.proofs.Lists.{at_next}
use Rattle.stream_workers.specs.declared.task.Task.{Task}
use Rattle.stream_workers.specs.Tasks.{IsDone, AreDone}

module _ {A : Type 0} (P : A → Type 0) where
  right_of : (xs ys : List A) → All P (xs ++ ys) → All P ys
  right_of [] ys all = all
  right_of (x ∷ xs) ys all = right_of xs ys (All-tail P x (xs ++ ys) all)

  -- of all that are cut in such parts
  module _ (all before rest behind : List A) (one : A) (whole : all ≡ before ++ rest) (is : rest ≡ one ∷ behind)
      (each : All P all) where
    pub is_one : P one
    is_one = at_next (λ k a. P a) all before behind rest one (sym whole) is each

    pub are_behind : All P behind
    are_behind = All-tail P one behind (subst (All P) is (right_of before rest (subst (All P) whole each)))

module _ {L : Type 0} (ends : L → Ends) (count : L → ℕ) (told : L → Option (List (List ℕ))) (d : Desk WorldOnDesk) where
  one_more : (x y : Task L) (xs ys : List (Task L)) → IsDone ends count told d x y → AreDone ends count told d xs ys
      → AreDone ends count told d (x ∷ xs) (y ∷ ys)
  one_more x y xs ys one more = record {
    many = omega (arith, more.many);
    each = each;
  }
    where
      each : (k : ℕ) (a b : Task L) → k < length (x ∷ xs)
          → IsDone ends count told d (Rattle.std.proofs.Common.slice_index_or (x ∷ xs) k a)
          (Rattle.std.proofs.Common.slice_index_or (y ∷ ys) k b)
      each zero a b low = one
      each (suc k) a b low = more.each k a b (omega (arith, low))

  joined : (xs xs2 ys ys2 : List (Task L)) → AreDone ends count told d xs xs2 → AreDone ends count told d ys ys2
      → AreDone ends count told d (xs ++ ys) (xs2 ++ ys2)
  joined [] [] ys ys2 first second = second
  joined [] (y ∷ xs2) ys ys2 first second = absurd (omega (arith, first.many))
  joined (x ∷ xs) [] ys ys2 first second = absurd (omega (arith, first.many))
  joined (x ∷ xs) (y ∷ xs2) ys ys2 first second =
      one_more x y (xs ++ ys) (xs2 ++ ys2) (first.each 0 x y (omega arith))
      (joined xs xs2 ys ys2 (record {
        many = omega (arith, first.many);
        each = λ k a b low. first.each (suc k) a b (omega (arith, low));
      }) second)

  pub all_done : (all before rest behind before2 behind2 : List (Task L)) (one one2 : Task L) → all ≡ before ++ rest
      → rest ≡ one ∷ behind → AreDone ends count told d before before2 → IsDone ends count told d one one2
      → AreDone ends count told d behind behind2 → AreDone ends count told d all (before2 ++ one2 ∷ behind2)
  all_done all before rest behind before2 behind2 one one2 whole is first at more =
      subst (λ l. AreDone ends count told d l (before2 ++ one2 ∷ behind2)) (sym (whole ∙ ap (λ r. before ++ r) is))
      (joined before before2 (one ∷ behind) (one2 ∷ behind2) first (one_more one one2 behind behind2 at more))
