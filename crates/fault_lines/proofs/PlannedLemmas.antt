-- Which planned numbers have come, carry after carry.
use Rattle.std.proofs.Common.{◌≡◌, ℕ, ◌-◌, ◌^◌, ◌<◌, ◌≤◌, List, [], ◌∷◌, length, ltb, Bool, if◌then◌else◌, sym, ap, ◌∙◌, subst, arith}
use Rattle.std.specs.Prelude.{◌↔◌, IsTrue, slice_index_or, Contains}
use Rattle.std.proofs.lemmas.Grind.{common_steps, get_or_default_zero}
use Rattle.std.proofs.lemmas.Bool.Decides.{nat_tests}
use Rattle.std.proofs.lemmas.List.Elements.{Contains-get_or}
use Rattle.outer_traits.specs.Causes.{one_more}
use Rattle.fault_lines.specs.Planned.{AreSmall, FollowsCarries, IsMet, IsNext, Planned, rising_above}

above_cons : (last n : ℕ) (more kept : List ℕ) (k : ℕ) → ((i : ℕ) → i < length more → n < slice_index_or more i 0)
    → ((i : ℕ) → i < length kept → last < slice_index_or kept i 0) → k < length (if ltb last n then n ∷ more else kept)
    → last < slice_index_or (if ltb last n then n ∷ more else kept) k 0
above_cons last n more kept k above below h = grind (arith, common_steps, nat_tests, above (k - 1), below k)

rises_cons : (last n : ℕ) (more kept : List ℕ) (j k : ℕ) → ((i : ℕ) → i < length more → n < slice_index_or more i 0)
    → ((i l : ℕ) → i < l → l < length more → slice_index_or more i 0 < slice_index_or more l 0)
    → ((i l : ℕ) → i < l → l < length kept → slice_index_or kept i 0 < slice_index_or kept l 0) → j < k
    → k < length (if ltb last n then n ∷ more else kept)
    → slice_index_or (if ltb last n then n ∷ more else kept) j 0 < slice_index_or (if ltb last n then n ∷ more else kept) k
    0
rises_cons last n more kept j k above rises others h below =
    grind (arith, common_steps, nat_tests, above (k - 1), rises (j - 1) (k - 1), others j k)

-- what rises above a number is above it
pub rising_above-above : (last : ℕ) (numbers : List ℕ) (k : ℕ) → k < length (rising_above last numbers)
    → last < slice_index_or (rising_above last numbers) k 0
rising_above-above last [] k h = absurd (omega arith)
rising_above-above last (n ∷ ns) k h = above_cons last n (rising_above n ns) (rising_above last ns) k
    (rising_above-above n ns) (rising_above-above last ns) h

-- and rises
pub rising_above-rises : (last : ℕ) (numbers : List ℕ) (j k : ℕ) → j < k → k < length (rising_above last numbers)
    → slice_index_or (rising_above last numbers) j 0 < slice_index_or (rising_above last numbers) k 0
rising_above-rises last [] j k h below = absurd (omega arith)
rising_above-rises last (n ∷ ns) j k h below = rises_cons last n (rising_above n ns) (rising_above last ns) j k
    (rising_above-above n ns) (rising_above-rises n ns) (rising_above-rises last ns) h below

-- before the first carry no planned number has come
pub IsMet-new : (numbers : List ℕ) → AreSmall (rising_above 0 numbers) → IsMet (rising_above 0 numbers) 0 0
IsMet-new numbers small = record {
  small = small;
  within = omega arith;
  rises = rising_above-rises 0 numbers;
  been = λ k h. absurd (omega arith);
  ahead = λ k h below. rising_above-above 0 numbers k below;
}

-- The next carry is planned exactly where its number is the next of the plan.
pub planned-next : (fails : List ℕ) (carries met : ℕ) → IsMet fails carries met
    → IsNext fails met (one_more carries) ↔ Contains fails (one_more carries)
planned-next fails carries met m = (there, next)
  where
    there : IsNext fails met (one_more carries) → Contains fails (one_more carries)
    there h = subst (Contains fails) h.1 (Contains-get_or fails met 0 h.0)

    next : Contains fails (one_more carries) → IsNext fails met (one_more carries)
    next h =
        let k = h.0 in
        let below : k < length fails = h.1 in
        let is : slice_index_or fails k 0 ≡ one_more carries = sym (get_or_default_zero fails k (one_more carries) below) ∙ h.2 in
        let small : slice_index_or fails k 0 < 2 ^ 32 = m.small k below in
        let before : k < met → slice_index_or fails k 0 ≤ carries = m.been k in
        let least : met ≤ k → carries < slice_index_or fails met 0 = λ from. m.ahead met (omega arith) (omega arith) in
        let later : met < k → slice_index_or fails met 0 < slice_index_or fails k 0 = λ from. m.rises met k from below in
        let place : k ≡ met = grind arith in
        (omega arith, sym (ap (λ i. slice_index_or fails i 0) place) ∙ is)

-- so what is found out by the next number follows the plan
pub FollowsPlan-next : (old new : Planned) (fails : Bool) → IsMet old.fails old.carries old.count
    → (IsTrue fails ↔ IsNext old.fails old.count (one_more old.carries)) → new.carries ≡ one_more old.carries
    → new.fails ≡ old.fails → FollowsCarries old new (IsTrue fails)
FollowsPlan-next old new fails m found carries plan = record {
  fails = (λ h. planned.0 (found.0 h), λ h. found.1 (planned.1 h));
  carries = carries;
  plan = plan;
}
  where
    planned : IsNext old.fails old.count (one_more old.carries) ↔ Contains old.fails (one_more old.carries)
    planned = planned-next old.fails old.carries old.count m
