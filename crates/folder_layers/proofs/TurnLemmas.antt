-- Places that come in turn, one more at the end, until none can come.
use Rattle.std.proofs.Common.{◌≡◌, ⊎_elim, ◌⊎◌, inl, inr, ℕ, zero, suc, ◌+◌, ◌<◌, Bool, true, false, not, cond}
use Rattle.std.proofs.Common.{List, [], ◌∷◌, ◌++◌, length, set, replicate, Option, refl, sym, ap, subst, ◌∙◌, arith}
use Rattle.std.proofs.Common.{get_or-set_other}
use Rattle.std.specs.Prelude.{Contains}
use Rattle.std.specs.List.{count_by, All}
use Rattle.std.proofs.lemmas.Bool.{cases_eq, false≢true}
use Rattle.std.proofs.lemmas.List.{get_or-replicate, length-replicate, length-set, length_push}
use Rattle.std.proofs.lemmas.List.Elements.{All-nil, All-cons}
use Rattle.std.proofs.lemmas.List.Sums.{sum_by-set}
use Rattle.std.proofs.lemmas.List.Folds.{sum_by-replicate}
use Rattle.replica_compare.proofs.OrderLemmas.{among, first_in, later_in}
use Rattle.folder_layers.specs.Turns.{done_at, NoneCanCome, OneCanCome, IsNextPlace, ComeInTurn, AllComeInTurn}

-- what is there once those have come
abbrev pub done_with : List Bool → List ℕ → List Bool
done_with done [] = done
done_with done (place ∷ more) = done_with (set done place true) more

done_more : (done : List Bool) (places : List ℕ) (place : ℕ)
    → done_with done (places ++ place ∷ []) ≡ set (done_with done places) place true
done_more done [] place = refl
done_more done (p ∷ ps) place = done_more (set done p true) ps place

turn_more : (parents : List (Option ℕ)) (done : List Bool) (places : List ℕ) (place : ℕ) → ComeInTurn parents done places
    → IsNextPlace parents (done_with done places) place → ComeInTurn parents done (places ++ place ∷ [])
turn_more parents done [] place turn next = (next, tt)
turn_more parents done (p ∷ ps) place turn next = (turn.0, turn_more parents (set done p true) ps place turn.1 next)

-- what is there was there at first, or has come
has_come : (done : List Bool) (places : List ℕ) (place : ℕ) → done_at (done_with done places) place ≡ true
    → (done_at done place ≡ true) ⊎ Contains places place
has_come done [] place is = inl is
has_come done (p ∷ ps) place is = ⊎_elim
    (λ (before : done_at (set done p true) place ≡ true). by_place (cases_eq place p) before)
    (λ later. inr (later_in p place ps later)) (has_come (set done p true) ps place is)
  where
    by_place : (place ≡ p) ⊎ (place ≡ p → ⊥) → done_at (set done p true) place ≡ true
        → (done_at done place ≡ true) ⊎ Contains (p ∷ ps) place
    by_place (inl here) before = inr (subst (Contains (p ∷ ps)) (sym here) (first_in p ps))
    by_place (inr other) before = inl (sym (get_or-set_other done p place true false other) ∙ before)

-- what comes is not there before
pub not_yet : (parents : List (Option ℕ)) (done : List Bool) (places : List ℕ) (place : ℕ) → length done ≡ length parents
    → ComeInTurn parents done places → Contains places place → done_at done place ≡ false
not_yet parents done [] place whole turn has = absurd (omega (arith, has.1))
not_yet parents done (p ∷ ps) place whole turn has = ⊎_elim
    (λ (here : p ≡ place). subst (λ q. done_at done q ≡ false) here turn.0.can.left)
    (λ (later : Contains ps place). by_place (cases_eq place p)
    (not_yet parents (set done p true) ps place (length-set done p true ∙ whole) turn.1 later))
    (among p place ps has)
  where
    by_place : (place ≡ p) ⊎ (place ≡ p → ⊥) → done_at (set done p true) place ≡ false → done_at done place ≡ false
    by_place (inl here) after = subst (λ q. done_at done q ≡ false) (sym here) turn.0.can.left
    by_place (inr other) after = sym (get_or-set_other done p place true false other) ∙ after

-- what comes is a place
pub turn_within : (parents : List (Option ℕ)) (done : List Bool) (places : List ℕ) → ComeInTurn parents done places
    → All (λ place. place < length parents) places
turn_within parents done [] turn = All-nil (λ place. place < length parents)
turn_within parents done (p ∷ ps) turn =
    All-cons (λ place. place < length parents) p ps turn.0.within (turn_within parents (set done p true) ps turn.1)

-- ---- how many are left

abbrev pub left_in : List Bool → ℕ
left_in done = count_by not done

left_at_first : (count : ℕ) → left_in (replicate count false) ≡ count
left_at_first count = let all = sum_by-replicate (λ (b : Bool). cond (not b) 1 0) count false in omega (arith, all)

left_less : (done : List Bool) (place : ℕ) → place < length done → done_at done place ≡ false
    → left_in (set done place true) + 1 ≡ left_in done
left_less done place within left =
    let value : Bool → ℕ = λ b. cond (not b) 1 0 in
    omega (arith, sum_by-set value done place true false within, ap value left)

none_left : (done : List Bool) → ((place : ℕ) → place < length done → done_at done place ≡ true) → left_in done ≡ 0
none_left [] all = refl
none_left (true ∷ done) all = none_left done (λ place less. all (suc place) (omega (arith, less)))
none_left (false ∷ done) all = absurd (false≢true (all zero (omega arith)))

-- ---- all that come, in turn

-- these have come so far, and nothing else is there
pub record HaveCome (parents : List (Option ℕ)) (places : List ℕ) (done : List Bool) : Type 0 where
  pub turn : ComeInTurn parents (replicate (length parents) false) places
  pub marks : done ≡ done_with (replicate (length parents) false) places
  pub whole : length done ≡ length parents
  pub count : length places + left_in done ≡ length parents

pub none_has_come : (parents : List (Option ℕ)) (done : List Bool) → done ≡ replicate (length parents) false
    → HaveCome parents [] done
none_has_come parents done is = record {
  turn = tt;
  marks = is;
  whole = ap length is ∙ length-replicate (length parents) false;
  count = omega (arith, ap left_in is, left_at_first (length parents));
}

pub one_more : (parents : List (Option ℕ)) (places : List ℕ) (done : List Bool) (place : ℕ) → HaveCome parents places done
    → IsNextPlace parents done place → HaveCome parents (places ++ place ∷ []) (set done place true)
one_more parents places done place come next = record {
  turn = turn_more parents (replicate (length parents) false) places place come.turn
      (subst (λ d. IsNextPlace parents d place) come.marks next);
  marks = ap (λ d. set d place true) come.marks ∙ sym (done_more (replicate (length parents) false) places place);
  whole = length-set done place true ∙ come.whole;
  count = omega (
    arith,
    length_push places place,
    come.count,
    left_less done place (omega (arith, come.whole, next.within)) next.can.left,
  );
}

pub all_have_come : (parents : List (Option ℕ)) (places : List ℕ) (done : List Bool) → HaveCome parents places done
    → OneCanCome parents → NoneCanCome parents done → AllComeInTurn parents places
all_have_come parents places done come one none = record {
  count = omega (arith, come.count, none_left done (λ place less. there place (omega (arith, less, come.whole))));
  all = λ place less. ⊎_elim
      (λ (before : done_at (replicate (length parents) false) place ≡ true).
      absurd (false≢true (sym (get_or-replicate (length parents) place false false less) ∙ before)))
      (λ come. come)
      (has_come (replicate (length parents) false) places place
      (subst (λ d. done_at d place ≡ true) come.marks (there place less)));
  turn = come.turn;
}
  where
    there : (place : ℕ) → place < length parents → done_at done place ≡ true
    there place less = go (done_at done place) refl
      where
        go : (b : Bool) → done_at done place ≡ b → done_at done place ≡ true
        go true is = is
        go false is = let next = one done place less is in absurd (none next.0 next.1 next.2)
