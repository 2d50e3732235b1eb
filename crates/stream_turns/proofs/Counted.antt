-- What a journal shows of faults is as far as the lines counted them, and nothing where they counted none.
use Rattle.std.proofs.Common.{◌≡◌, ℕ, ◌≤◌, List, [], ◌∷◌, refl, arith}
use Rattle.volume_model.specs.declared.entry.Entry.{Entry}
use Rattle.volume_model.specs.Faults.{fault_counts, RisesTo, last_count, CountsRise, FaultsShown}

rises_further : (a b before : ℕ) (ns : List ℕ) → a ≤ b → RisesTo a before ns → RisesTo b before ns
rises_further a b before [] up rise = tt
rises_further a b before (n ∷ ns) up rise = (rise.0, omega (arith, rise.1, up), rises_further a b n ns up rise.2)

pub faults_shown : (counted : ℕ → ℕ → ℕ) (es : List Entry) → CountsRise es → ((w r : ℕ) → last_count w r es ≤ counted w r)
    → FaultsShown counted es
faults_shown counted es rise most w r = rises_further (last_count w r es) (counted w r) 0 (fault_counts w r es) (most w r) (rise w r)

rises_to_none : (ns : List ℕ) → RisesTo 0 0 ns → ns ≡ []
rises_to_none [] rise = refl
rises_to_none (n ∷ ns) rise = absurd (omega (arith, rise.0, rise.1))

-- a line that counted none has no mark
pub none_counted : (w r : ℕ) (es : List Entry) → CountsRise es → last_count w r es ≤ 0 → fault_counts w r es ≡ []
none_counted w r es rise none =
    rises_to_none (fault_counts w r es) (rises_further (last_count w r es) 0 0 (fault_counts w r es) none (rise w r))
