use Rattle.std.proofs.Common.{◌≡◌, ◌-◌, drop, length}
use Rattle.backup_config.specs.Lists.{pages_of}
use Rattle.backup_config.proofs.list.pages_of.Given as goal

abbrev pub invariant-loop-i : goal.invariant-loop-i
invariant-loop-i l = l.blocks.items ≡ pages_of l.fn.count (drop (length l.listed - l.i) l.listed)
