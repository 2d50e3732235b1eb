use Rattle.std.proofs.Common.{◌≡◌, take}
use Rattle.backup_units.specs.Blocks.{is_zeros}
use Rattle.backup_units.proofs.page.are_zeros.Given as goal

abbrev pub invariant-loop-byte : goal.invariant-loop-byte
invariant-loop-byte l = l.zeros ≡ is_zeros (take l.byte-index l.bytes)
