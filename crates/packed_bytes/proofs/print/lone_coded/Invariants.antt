use Rattle.std.proofs.Common.{◌≡◌, ◌*◌, ◌≤◌, length, take, flat_map}
use Rattle.packed_bytes.specs.Packed.{lone_code}
use Rattle.packed_bytes.proofs.print.lone_coded.Given as goal

abbrev pub invariant-loop-i : goal.invariant-loop-i
invariant-loop-i l = record {
  long : length l.bytes ≡ 32;
  within : 5 * l.i ≤ length l.codes;
  codes : take (5 * l.i) l.codes ≡ flat_map lone_code (take l.i l.bytes);
}
