use Rattle.std.proofs.Common.{take, ap, ◌∙◌, sym, arith, length-set}
use Rattle.packed_bytes.proofs.LoneLemmas.{lone_more}
use Rattle.packed_bytes.proofs.print.lone_coded.Goals as goal

pub loop-i-preserved : goal.loop-i-preserved
loop-i-preserved c =
    let here = c.loop-i.invariant in
    let next = sym (ap (take 5) c.split_at.ensures.back) ∙ c.in-Some.ensures in
    let more = lone_more c.loop-i.i c.in-Some.byte c.args.codes.now c.loop-i.bytes (omega (arith, here.long)) here.codes next in
    record {
      long = rw length-set here.long;
      within = more.0;
      codes = more.1;
    }
