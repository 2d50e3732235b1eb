use Rattle.std.proofs.Common.{◌+◌, ◌-◌, not, eqb, get_or, arith}
use Rattle.packed_bytes.proofs.RunLemmas.{count_more_at, bool_byte_most}
use Rattle.packed_bytes.proofs.count.run_count.Goals as goal

pub loop-i-preserved : goal.loop-i-preserved
loop-i-preserved c =
    let i = c.loop-i.i in
    let bytes = c.args.bytes.now in
    let more = count_more_at (i - 1) i (i + 1) bytes (omega arith) (omega arith) (omega arith) in
    let one = bool_byte_most (not (eqb (get_or bytes i 0) (get_or bytes (i - 1) 0))) in
    record {
      value = omega (arith, more, c.from-count.ensures, c.loop-i.invariant.value);
      most = omega (arith, one, c.from-count.ensures);
    }
