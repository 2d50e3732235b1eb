-- Which file a call was to change that failed.
use Rattle.std.specs.Prelude.{◌≡◌, ℕ, List, Option, None, IfSome, Result, MatchResult}
use Rattle.outer_traits.specs.declared.error.OuterError.{OuterError}
use Rattle.outer_traits.specs.declared.error.OuterError.TheVariants.{Failed, NoMemory}

-- a file of a shelf
pub record FileOn : Type 0 where
  pub shelf : ℕ
  pub file : List ℕ

-- what is told after an error: of a failure this, and of want of memory what was told before
abbrev pub ToldAfter : (Option FileOn → Type 0) → Option FileOn → Option FileOn → OuterError → Type 0
ToldAfter Told old new Failed = Told new
ToldAfter Told old new NoMemory = new ≡ old

-- a call that was to change the file tells that, where it fails and tells anything
abbrev pub FailsAt : {T : Type 0} → ℕ → List ℕ → Option FileOn → Option FileOn → Result T OuterError → Type 0
FailsAt shelf file old new result = MatchResult result (λ _. new ≡ old)
    (ToldAfter (λ told. IfSome told (λ at. at ≡ record { shelf = shelf; file = file })) old new)

-- a call that changes no file tells none, where it fails
abbrev pub FailsNowhere : {T : Type 0} → Option FileOn → Option FileOn → Result T OuterError → Type 0
FailsNowhere old new result = MatchResult result (λ _. new ≡ old) (ToldAfter (λ told. told ≡ None) old new)
