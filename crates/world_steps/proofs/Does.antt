-- How the records that the contracts of the steps have in common are put together.
use Rattle.std.proofs.Common.{◌≡◌, Result, Ok, IfOk, IfSome, ◌∙◌}
use Rattle.std.proofs.Common.{Err as Failed}
use Rattle.stream_steps.specs.Mine.{Mine}
use Rattle.stream_steps.specs.Does.{StartsOrWaits}

-- home of a stream of frames: the holder's, and the stream
pub home_free : {A B : Type 0} {n : B} {h h1 h2 : A} → h1 ≡ h → h2 ≡ h1 → ◌≡◌ {A = A × B} (h2, n) (h, n)
home_free {n = n} first next = λ i. ((next ∙ first) i, n)

-- what asking to start comes to, of its parts
pub starts_or_waits : {A E : Type 0} (m : Mine) (this no_wait cause : A → Type 0) (res : Result A E) → IfOk res this
    → IfOk res (λ a. IfSome m.log (λ log. no_wait a)) → IfOk res cause
    → IfOk res (λ a. StartsOrWaits m (this a) (no_wait a) (cause a))
starts_or_waits m this no_wait cause (Ok a) is free waits = record { ok = is; free = free; waits = waits }
starts_or_waits m this no_wait cause (Failed e) is free waits = tt
