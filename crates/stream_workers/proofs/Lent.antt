-- What is told of the target that was lent to the task at a place, if there is one there.
use Rattle.std.proofs.Common.{◌≡◌, ℕ, ◌<◌, ◌≤◌, Bool, true, false, List, length, All, get_or, inl, inr, sym, ap, subst, ◌∙◌, arith}
use Rattle.std.proofs.lemmas.Bool.{cases_lt, true≢false}
use Rattle.target_traits.specs.Objects.{Objects}
use Rattle.control_worker.specs.Store.{TellsFault}
use Rattle.script_text.specs.declared.script.Stream.{Stream}
use Rattle.script_text.specs.Good.{backs_up}
use Rattle.stream_turns.proofs.Lists.{element}
use Rattle.stream_workers.specs.declared.task.Task.{Task}
use Rattle.stream_workers.specs.Tasks.{IsLent}

module _ {L T : Type 0} (tells : Bool) (holds : T → Objects) (faults : T → ℕ) (volume : List ℕ) (old now : T) (fault : Bool)
    (tasks : List (Task L)) (many p : ℕ) (as_many : length tasks ≡ many)
    (lent : p < many → (d : Task L) → IsLent tells holds faults volume old now fault (get_or tasks p d))
    (unlent : many ≤ p → (now ≡ old) × (fault ≡ false)) where
  last : (low : p < many) → IsLent tells holds faults volume old now fault (get_or tasks p (element tasks p (omega (arith, low, as_many))))
  last low = lent low (element tasks p (omega (arith, low, as_many)))

  pub lent_later : faults old ≤ faults now
  lent_later = elim (cases_lt p many) [
    | inl low ↦ (last low).later
    | inr past ↦ omega (arith, ap faults (unlent past).0)
  ]

  pub lent_told : All (λ (j : Task L). j.served ≡ true) tasks → TellsFault fault (faults old) (faults now)
  lent_told served = elim (cases_lt p many) [
    | inl low ↦ (last low).told (served p (element tasks p (omega (arith, low, as_many))) (omega (arith, low, as_many)))
    | inr past ↦ subst (λ b. TellsFault b (faults old) (faults now)) (sym (unlent past).1) (ap faults (unlent past).0)
  ]

  pub unlent_same : (streams : List Stream) → length streams ≡ many
      → (p < length streams → (s : Stream) → backs_up (get_or streams p s) ≡ true) → All (λ s. backs_up s ≡ false) streams → now ≡ old
  unlent_same streams same backs none = elim (cases_lt p many) [
    | inl low ↦
        let there : p < length streams = omega (arith, low, same) in
        let s = element streams p there in
        absurd (true≢false (sym (backs there s) ∙ none p s there))
    | inr past ↦ (unlent past).0
  ]
