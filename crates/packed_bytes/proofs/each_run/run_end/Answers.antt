use Rattle.std.proofs.Common.{◌==◌, arith}
use Rattle.packed_bytes.proofs.PartLemmas.{prefix_ends, prefix_goes_on}
use Rattle.packed_bytes.proofs.each_run.run_end.Goals as goal

pub returns-then-count-bytes-clause-run : goal.returns-then-count-bytes-clause-run
returns-then-count-bytes-clause-run c =
    let n = c.run_length-count.result in
    let is = c.run_length-count.ensures.value in
    let ends = prefix_ends (λ b. b == c.args.byte) c.args.store.now.items c.first_part-bytes.result.now c.loop-end.end c.args.until
    c.first_part-bytes.ensures n is c.if-count-bytes.true in
    omega (arith, ends, c.loop-end.invariant.run)

pub loop-end-preserved : goal.loop-end-preserved
loop-end-preserved c =
    let n = c.run_length-count.result in
    let is = c.run_length-count.ensures.value in
    let goes_on = prefix_goes_on (λ b. b == c.args.byte) c.args.store.now.items c.first_part-bytes.result.now c.loop-end.end
    c.args.until c.first_part-bytes.ensures n is (omega (arith, c.run_length-count.ensures.bound)) in
    record {
      order = omega arith;
      within = omega (arith, c.run_length-count.ensures.bound, c.first_part-bytes.ensures.within);
      run = omega (arith, goes_on, c.loop-end.invariant.run);
    }
