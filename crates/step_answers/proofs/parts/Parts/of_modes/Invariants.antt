use Rattle.std.proofs.Common.{◌≡◌, map, take, length}
use Rattle.step_answers.specs.Parts.{part_for}
use Rattle.step_answers.proofs.parts.Parts.of_modes.Given as goal

abbrev pub invariant-loop-r : goal.invariant-loop-r
invariant-loop-r l = record {
  count : length l.parts ≡ 8;
  done : take l.r l.parts ≡ map part_for (take l.r l.modes);
}
