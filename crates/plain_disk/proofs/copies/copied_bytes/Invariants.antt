use Rattle.std.proofs.Common.{◌≡◌, drop}
use Rattle.volume_model.specs.PlainState.{copy_of}
use Rattle.plain_disk.proofs.copies.copied_bytes.Given as goal

abbrev pub invariant-loop-copy : goal.invariant-loop-copy
invariant-loop-copy l = copy_of (drop l.copy-index l.copies) l.name ≡ copy_of l.copies l.name
