use Rattle.std.proofs.Common.{◌≢◌, ℕ, ◌<◌}
use Rattle.step_answers.specs.declared.parts.Part.TheVariants.{Owed}
use Rattle.step_answers.specs.Parts.{part_at}
use Rattle.client_worker.proofs.serve.first_owed.Given as goal

-- none of the replicas below it owes its part
abbrev pub invariant-loop-r : goal.invariant-loop-r
invariant-loop-r l = (q : ℕ) → q < l.r → part_at l.fn.parts q ≢ Owed
