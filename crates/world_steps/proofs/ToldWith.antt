-- What is so of an answer is so of it told with the source.
use Rattle.std.proofs.Common.{ℕ, Option, Result, Ok, IfOk, OnErr}
use Rattle.std.proofs.Common.{Err as Failed}
use Rattle.world_steps.specs.Told.{told_with}

module _ {A E : Type 0} (q : Option ℕ) where
  pub ok_with : (P : A → Type 0) (res : Result A E) → IfOk res P → IfOk (told_with res q) (λ a. P a.answer)
  ok_with P (Ok a) h = h
  ok_with P (Failed e) h = tt

  pub source_with : (Q : Option ℕ → Type 0) (res : Result A E) → Q q → IfOk (told_with res q) (λ a. Q a.source)
  source_with Q (Ok a) h = h
  source_with Q (Failed e) h = tt

  pub err_with : (X : Type 0) (res : Result A E) → OnErr res X → OnErr (told_with res q) X
  err_with X (Ok a) h = tt
  err_with X (Failed e) h = h
