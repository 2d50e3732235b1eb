-- What an answer says of an object's count of faults, where some of the errors tell of its faults.
use Rattle.std.specs.Prelude.{◌≡◌, ℕ, ◌≤◌, Bool, if◌then◌else◌, Result, MatchResult}
use Rattle.outer_traits.specs.Causes.{one_more}

-- the count as it was, but for an error that tells of a fault of that object: then with one fault more
pub record HasFault {T E : Type 0} (is_fault : E → Bool) (before now : ℕ) (result : Result T E) : Type 0 where
  pub later : before ≤ now
  pub cause : MatchResult result (λ _. now ≡ before) (λ e. now ≡ (if is_fault e then one_more before else before))
