use Rattle.std.proofs.Common.{◌≢◌, ℕ, ◌<◌}
use Rattle.step_answers.specs.declared.parts.Part.TheVariants.{Acked}
use Rattle.step_answers.specs.Parts.{part_at}
use Rattle.step_answers.proofs.parts.Parts.first_acked.Given as goal

abbrev pub invariant-loop-r : goal.invariant-loop-r
invariant-loop-r l = (k : ℕ) → k < l.r → part_at l.self k ≢ Acked
