use Rattle.std.proofs.Common.{◌≡◌, ℕ, ◌<◌, false}
use Rattle.volume_model.specs.Modes.{mode_of}
use Rattle.step_answers.specs.Parts.{part_at, is_pending_at}
use Rattle.step_answers.proofs.parts.Parts.first_pending.Given as goal

abbrev pub invariant-loop-r : goal.invariant-loop-r
invariant-loop-r l = (k : ℕ) → k < l.r → is_pending_at (mode_of l.modes k) (part_at l.self k) ≡ false
