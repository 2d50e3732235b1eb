use Rattle.std.proofs.Common.{◌+◌, not, eqb, get_or, arith}
use Rattle.packed_bytes.proofs.RunLemmas.{count_more_at, bool_byte_most}
use Rattle.packed_bytes.proofs.count.changes_in.Goals as goal

pub loop-i-preserved : goal.loop-i-preserved
loop-i-preserved c =
    let i = c.loop-i.i in
    let piece = c.args.piece.now in
    let more = count_more_at i (i + 1) (i + 1 + 1) piece (omega arith) (omega arith) (omega (arith, c.told-piece)) in
    let one = bool_byte_most (not (eqb (get_or piece (i + 1) 0) (get_or piece i 0))) in
    record {
      value = omega (arith, more, c.from-changes.ensures, c.loop-i.invariant.value);
      most = omega (arith, one, c.from-changes.ensures);
    }
