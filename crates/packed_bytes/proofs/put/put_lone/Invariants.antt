use Rattle.std.proofs.Common.{◌≡◌, ◌*◌, length, take, flat_map}
use Rattle.packed_bytes.specs.Packed.{lone_code}
use Rattle.packed_bytes.proofs.put.put_lone.Given as goal

abbrev pub invariant-loop-i : goal.invariant-loop-i
invariant-loop-i l = (length l.codes ≡ 160) × (take (5 * l.i) l.codes ≡ flat_map lone_code (take l.i l.bytes))
