use Rattle.std.proofs.Common.{◌≡◌, ◌++◌, drop}
use Rattle.fault_lines.specs.Planned.{AreSmall, rising_above}
use Rattle.fault_lines.proofs.carry_plan.rising.Given as goal

abbrev pub invariant-loop-number : goal.invariant-loop-number
invariant-loop-number l = (l.copy.items ++ rising_above l.last (drop l.number-index l.numbers) ≡ rising_above 0 l.numbers)
    × AreSmall l.copy.items
