use Rattle.std.proofs.Common.{◌≡◌, take}
use Rattle.outer_memory.proofs.memory_wiring.wide.Given as goal

abbrev pub invariant-loop-number : goal.invariant-loop-number
invariant-loop-number l = l.wide.items ≡ take l.number-index l.numbers
