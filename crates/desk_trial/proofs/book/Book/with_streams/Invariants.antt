use Rattle.std.proofs.Common.{◌≡◌, ℕ, length, None}
use Rattle.desk_trial.specs.Books.{call_at}
use Rattle.desk_trial.proofs.book.Book.with_streams.Given as goal

abbrev pub invariant-loop : goal.invariant-loop
invariant-loop l = (length l.begun.items ≡ l.counter) × ((n : ℕ) → call_at l.begun.items n ≡ None)
