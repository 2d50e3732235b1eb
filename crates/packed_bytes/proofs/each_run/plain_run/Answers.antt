use Rattle.std.proofs.Common.{◌-◌, arith}
use Rattle.packed_bytes.proofs.PartLemmas.{part_run}
use Rattle.packed_bytes.proofs.each_run.plain_run.Goals as goal

pub returns-clause-some : goal.returns-clause-some
returns-clause-some c =
    let n = c.run_end-end.result - c.args.at in
    (part_run c.args.store.now.items c.args.at c.args.until c.get-byte.result.now n c.get-byte.ensures
    c.requires.order c.requires.within (omega (arith, c.run_end-end.ensures.run))).0

pub returns-clause-run : goal.returns-clause-run
returns-clause-run c =
    let n = c.run_end-end.result - c.args.at in
    (part_run c.args.store.now.items c.args.at c.args.until c.get-byte.result.now n c.get-byte.ensures
    c.requires.order c.requires.within (omega (arith, c.run_end-end.ensures.run))).1
