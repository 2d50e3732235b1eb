-- Parts and modes at one place.
use Rattle.std.proofs.Common.{◌≡◌, ◌≢◌, ℕ, zero, suc, ◌<◌, ⊎_elim, false, List, [], ◌∷◌, length, map, set}
use Rattle.std.proofs.Common.{get_or-set_other, subst, sym, refl}
use Rattle.std.proofs.lemmas.Bool.{cases_lt}
use Rattle.std.proofs.lemmas.List.{get_or_past}
use Rattle.volume_model.specs.declared.mode.Mode.{Mode}
use Rattle.volume_model.specs.declared.mode.Mode.TheVariants.{Rw, Wo, Err}
use Rattle.volume_model.specs.Modes.{mode_of}
use Rattle.step_answers.specs.declared.parts.Part.{Part}
use Rattle.step_answers.specs.declared.parts.Part.TheVariants.{Apart, Owed, Taken, Acked}
use Rattle.step_answers.specs.Parts.{part_at, part_for, is_pending_at, IsTaken}
use Rattle.open_calls.proofs.ListLemmas.{at_set}

-- ---- modes

pub up_in : (modes : List Mode) (r : ℕ) → mode_of modes r ≢ Err → r < length modes
up_in modes r n = ⊎_elim (λ l. l) (λ l. absurd (n (get_or_past modes r Err l))) (cases_lt r (length modes))

pub rw_up : (m : Mode) → m ≡ Rw → m ≢ Err
rw_up m e f = cc

-- a replica that is read, or that has not failed, was so before one failed
pub rw_before : (modes : List Mode) (r q : ℕ) → r < length modes → mode_of (set modes r Err) q ≡ Rw → mode_of modes q ≡ Rw
rw_before modes r q h = at_set (λ (m : Mode). m ≡ Rw → mode_of modes q ≡ Rw) modes r q Err Err h (λ _ e. cc) (λ _ e. e)

pub up_before : (modes : List Mode) (r q : ℕ) → r < length modes → mode_of (set modes r Err) q ≢ Err → mode_of modes q ≢ Err
up_before modes r q h = at_set (λ (m : Mode). m ≢ Err → mode_of modes q ≢ Err) modes r q Err Err h (λ _ n. absurd (n refl)) (λ _ n. n)

-- ---- parts

not_taken : IsTaken Apart → ⊥
not_taken t = t

pub taken_in : (parts : List Part) (r : ℕ) → IsTaken (part_at parts r) → r < length parts
taken_in parts r t = ⊎_elim (λ l. l) (λ l. absurd (not_taken (subst IsTaken (get_or_past parts r Apart l) t))) (cases_lt r (length parts))

-- a part that is owed stays so where one is set to another
pub part_owed : (parts : List Part) (r q : ℕ) (x : Part) → r < length parts → x ≢ Apart → part_at parts q ≢ Apart
    → part_at (set parts r x) q ≢ Apart
part_owed parts r q x h n m = at_set (λ (p : Part). p ≢ Apart) parts r q x Apart h (λ _. n) (λ _. m)

-- a part that is taken was, but for the one that is set, and for that too where it was taken
pub part_was : (parts : List Part) (r q : ℕ) (x : Part) → q ≢ r → IsTaken (part_at (set parts r x) q) → IsTaken (part_at parts q)
part_was parts r q x n t = subst IsTaken (get_or-set_other parts r q x Apart n) t

pub acked_was : (parts : List Part) (r q : ℕ) → IsTaken (part_at parts r) → IsTaken (part_at (set parts r Acked) q)
    → IsTaken (part_at parts q)
acked_was parts r q mine =
    at_set (λ (p : Part). IsTaken p → IsTaken (part_at parts q)) parts r q Acked Apart (taken_in parts r mine)
    (λ e _. subst (λ n. IsTaken (part_at parts n)) (sym e) mine) (λ _ t. t)

pub taken≢apart : Taken ≢ Apart
taken≢apart e = cc

pub acked≢apart : Acked ≢ Apart
acked≢apart e = cc

-- ---- the parts of a call that starts

pub part_of : (modes : List Mode) (q : ℕ) → part_at (map part_for modes) q ≡ part_for (mode_of modes q)
part_of [] q = refl
part_of (m ∷ ms) zero = refl
part_of (m ∷ ms) (suc q) = part_of ms q

pub part_for_up : (m : Mode) → m ≢ Err → part_for m ≢ Apart
part_for_up Rw n e = cc
part_for_up Wo n e = cc
part_for_up Err n e = n refl

pub part_for_new : (m : Mode) → IsTaken (part_for m) → ⊥
part_for_new Rw t = t
part_for_new Wo t = t
part_for_new Err t = t

-- a replica that is read and owes its part has taken it, if it is not pending
pub taken_unless_pending : (m : Mode) (p : Part) → m ≡ Rw → is_pending_at m p ≡ false → p ≢ Apart → IsTaken p
taken_unless_pending Rw Apart e f n = absurd (n refl)
taken_unless_pending Rw Owed e f n = absurd cc
taken_unless_pending Rw Taken e f n = tt
taken_unless_pending Rw Acked e f n = tt
taken_unless_pending Wo p e f n = absurd cc
taken_unless_pending Err p e f n = absurd cc
