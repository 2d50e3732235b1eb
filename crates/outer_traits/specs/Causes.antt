-- What an answer of the outside says of its count of faults.
use Rattle.std.specs.Prelude.{◌≡◌, ℕ, ◌+◌, ◌-◌, ◌^◌, ◌≤◌, min, Result, MatchResult, OnOk, OnErr}
use Rattle.outer_traits.specs.declared.error.OuterError.{OuterError}
use Rattle.outer_traits.specs.declared.error.OuterError.TheVariants.{Failed, NoMemory}

-- the count with one fault more: it stands still at its type's end
abbrev pub one_more : ℕ → ℕ
one_more count = min (count + 1) (2 ^ 64 - 1)

-- A count of faults rose between two moments. One that stands at its type's end cannot show it.
abbrev pub Rose : ℕ → ℕ → Type 0
Rose before now = one_more before ≤ now

-- A failure is one fault, which is counted once, and no other answer moves the count.
pub record HasCause {T E : Type 0} (before now : ℕ) (result : Result T E) : Type 0 where
  pub later : before ≤ now
  pub failed : OnErr result (now ≡ one_more before)
  pub done : OnOk result (now ≡ before)

-- The same of a line, whose failures always show: with its count at its type's end it fails no more.
pub record HasLineCause {T E : Type 0} (before now : ℕ) (result : Result T E) : Type 0 where
  pub later : before ≤ now
  pub failed : OnErr result (now ≡ before + 1)
  pub done : OnOk result (now ≡ before)

-- what an error says of the count
abbrev pub ErrorCause : ℕ → ℕ → OuterError → Type 0
ErrorCause before now Failed = now ≡ one_more before
ErrorCause before now NoMemory = now ≡ before

-- The same of a call that may run out of memory.
pub record HasOuterCause {T : Type 0} (before now : ℕ) (result : Result T OuterError) : Type 0 where
  pub later : before ≤ now
  pub cause : MatchResult result (λ _. now ≡ before) (ErrorCause before now)
