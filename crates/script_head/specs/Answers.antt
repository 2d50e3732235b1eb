-- When an answer is the only one, whatever was asked.
use Rattle.std.specs.Prelude.{◌≡◌, ◌≢◌, ◌⊎◌, Result, Err}

-- unless memory runs out, which has an error of its own, no other answer is true
abbrev pub IsOnlyAnswer : {A E : Type 0} → E → (Result A E → Type 0) → Result A E → Type 0
IsOnlyAnswer {A} {E} no_memory IsTrueAnswer result = (other : Result A E) → other ≢ Err no_memory
    → IsTrueAnswer other → (result ≡ other) ⊎ (result ≡ Err no_memory)
