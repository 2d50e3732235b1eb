use Rattle.std.proofs.Common.{rules, ◌*◌, ap, length, arith, ◌+◌}
use Rattle.std.specs.Prelude.{◌==◌, ◌&&◌, nat_le, nat_lt}
use Rattle.replica_open.proofs.ReadLemmas.{told_more, range_more}
use Rattle.replica_open.proofs.image.read_run.Goals as goal

pub loop-block-preserved : goal.loop-block-preserved
loop-block-preserved g c =
    let first = c.args.run.first in
    let block = c.loop-block.block in
    record {
      same = search rules;
      faults = search rules;
      count = search rules;
      told = told_more (g.S.Shelves.holds c.args.shelves.now) (g.S.Shelves.holds c.loop-block.shelves) c.args.shelf
          (length c.args.into.now * 2097152) (length c.loop-block.into * 2097152) c.args.file.now
          (λ k. nat_le first k && nat_lt k block) (λ k. k == block) (λ k. nat_le first k && nat_lt k (block + 1))
          c.args.into.now c.loop-block.into c.read_block.new.into c.in_ok-read_block.field-0 c.loop-block.invariant.same
          (ap (λ n. n * 2097152) c.loop-block.invariant.count) c.in-None.is
          (λ k. range_more first block k (omega arith)) c.loop-block.invariant.told c.in_ok-read_block.ensures.told;
    }
