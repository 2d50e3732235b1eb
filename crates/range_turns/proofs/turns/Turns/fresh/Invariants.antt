use Rattle.std.proofs.Common.{ℕ, ◌<◌}
use Rattle.range_turns.proofs.Numbers.{IsTaken}
use Rattle.range_turns.proofs.turns.Turns.fresh.Given as goal

abbrev pub invariant-loop-number : goal.invariant-loop-number
invariant-loop-number l = (number : ℕ) → number < l.number → IsTaken l.self.tickets number
