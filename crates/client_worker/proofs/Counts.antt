-- No line has a mark above its count.
use Rattle.std.proofs.Common.{zero, suc, Result, Ok, Err, is_ok, ◌≡◌, ℕ, ◌+◌, ◌<◌, ◌≤◌, Bool, true, false, cond, ◌&&◌}
use Rattle.std.proofs.Common.{eqb, List, [], ◌∷◌, ◌++◌, length, map, get_or, set, ⊎_elim, subst, sym, refl, ap, ◌∙◌}
use Rattle.std.proofs.Common.{arith, ne_eqb}
use Rattle.std.proofs.lemmas.Bool.{cases_eq}
use Rattle.outer_traits.specs.Causes.{HasLineCause}
use Rattle.volume_model.specs.declared.entry.Answer.{Answer}
use Rattle.volume_model.specs.History.{Spot}
use Rattle.volume_model.specs.Faults.{fault_counts, last_in, last_count}
use Rattle.volume_model.proofs.FaultLemmas.{last_count-append}
use Rattle.stream_steps.specs.Mine.{Placed, Mine, OwnCall, entries_in, with_more, answer_placed, fault_placed}
use Rattle.stream_steps.specs.Steps.{FaultsTo}
use Rattle.stream_steps.proofs.MineLemmas.{entries-append}
use Rattle.client_worker.specs.Serving.{Counted}

pub counted_same : (a b : Mine) (counts : List ℕ) → b ≡ a → Counted a counts → Counted b counts
counted_same a b counts e h = subst (λ (m : Mine). Counted m counts) (sym e) h

-- counts that are no lower
pub counted_later : (m : Mine) (before now : List ℕ) → ((k : ℕ) → get_or before k 0 ≤ get_or now k 0) → Counted m before → Counted m now
counted_later m before now later h r = omega (arith, h r, later r)

-- ---- one entry more

more_counts : (n r : ℕ) (xs : List Placed) (x : Placed)
    → last_count n r (entries_in (xs ++ x ∷ [])) ≡ last_in (last_count n r (entries_in xs))
    (fault_counts n r (x.entry ∷ []))
more_counts n r xs x = ap (last_count n r) (entries-append xs (x ∷ [])) ∙ last_count-append n r (entries_in xs) (x.entry ∷ [])

-- an answer tells no count
pub counted_answer : (spot : Spot) (answer : Answer) (os : List OwnCall) (a b : Mine) (counts : List ℕ)
    → b ≡ with_more a (answer_placed spot answer ∷ []) os → Counted a counts → Counted b counts
counted_answer spot answer os a b counts e h = counted_same (with_more a (answer_placed spot answer ∷ []) os) b counts e
    (λ r. subst (λ (n : ℕ). n ≤ get_or counts r 0) (sym (more_counts a.stream r a.entries (answer_placed spot answer))) (h r))

first_of : (b : Bool) (c n k : ℕ) → n ≤ k → (b ≡ true → c ≤ k) → last_in n (cond b (c ∷ []) []) ≤ k
first_of true c n k h f = f refl
first_of false c n k h f = h

and_right : (x y : Bool) → (x && y) ≡ true → y ≡ true
and_right true y e = e
and_right false y e = absurd cc

-- a mark tells the line's count
pub counted_fault : (r count : ℕ) (a b : Mine) (counts : List ℕ) → FaultsTo r count a b → count ≤ get_or counts r 0
    → Counted a counts → Counted b counts
counted_fault r count a b counts s low h = counted_same (with_more a (fault_placed s.spot a.stream r count ∷ []) a.running)
    b counts s.is (λ k.
    subst (λ (n : ℕ). n ≤ get_or counts k 0) (sym (more_counts a.stream k a.entries (fault_placed s.spot a.stream r count)))
    (first_of (eqb a.stream a.stream && eqb r k) count (last_count a.stream k (entries_in a.entries)) (get_or counts k 0) (h k)
    (λ e. ⊎_elim (λ (same : r ≡ k). subst (λ (j : ℕ). count ≤ get_or counts j 0) same low)
    (λ other. let f : true ≡ false = sym (and_right (eqb a.stream a.stream) (eqb r k) e) ∙ ne_eqb r k other in
    absurd (cc)) (cases_eq r k))))

-- ---- the counts of lines

-- one line's count rose
pub later_set : {L : Type 0} (faults : L → ℕ) (xs : List L) (i : ℕ) (x d : L) → i < length xs
    → faults (get_or xs i d) ≤ faults x → (k : ℕ) → get_or (map faults xs) k 0 ≤ get_or (map faults (set xs i x)) k 0
later_set faults [] i x d l h k = absurd (omega arith)
later_set faults (y ∷ ys) zero x d l h zero = h
later_set faults (y ∷ ys) zero x d l h (suc k) = omega arith
later_set faults (y ∷ ys) (suc i) x d l h zero = omega arith
later_set faults (y ∷ ys) (suc i) x d l h (suc k) = later_set faults ys i x d (omega arith) h k

pub at_map : {L : Type 0} (faults : L → ℕ) (xs : List L) (i : ℕ) (d : L) → i < length xs
    → get_or (map faults xs) i 0 ≡ faults (get_or xs i d)
at_map faults [] i d h = absurd (omega arith)
at_map faults (x ∷ xs) zero d h = refl
at_map faults (x ∷ xs) (suc i) d h = at_map faults xs i d (omega arith)

-- and at the line itself
pub rose_set : {L : Type 0} (faults : L → ℕ) (xs : List L) (i : ℕ) (x d : L) → i < length xs
    → faults (get_or xs i d) < faults x → get_or (map faults xs) i 0 < get_or (map faults (set xs i x)) i 0
rose_set faults [] i x d l h = absurd (omega arith)
rose_set faults (y ∷ ys) zero x d l h = h
rose_set faults (y ∷ ys) (suc i) x d l h = rose_set faults ys i x d (omega arith) h

-- a line that failed
pub line_rose : {A E : Type 0} (res : Result A E) (before now : ℕ) → is_ok res ≡ false → HasLineCause before now res → before < now
line_rose (Ok a) before now e h = absurd cc
line_rose (Err x) before now e h = let more : now ≡ before + 1 = h.failed in omega arith
