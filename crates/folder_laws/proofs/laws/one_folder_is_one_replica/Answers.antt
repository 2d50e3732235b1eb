use Rattle.std.proofs.Common.{arith}
use Rattle.folder_laws.proofs.PairLemmas.{IsSound, one_folder}
use Rattle.folder_laws.proofs.laws.one_folder_is_one_replica.Goals as goal

pub returns : goal.returns
returns c =
    let one : IsSound c.args.one.now c.block_count-blocks.result = record {
      once = c.layer_count-count.ensures.once;
      small = omega arith;
      size = c.block_count-blocks.ensures.value;
      own = c.block_count-blocks.ensures.own;
      chained = c.block_count-blocks.ensures.chained;
    } in
    let other : IsSound c.args.other.now c.block_count-blocks-2.result = record {
      once = c.layer_count-count-2.ensures.once;
      small = omega arith;
      size = c.block_count-blocks-2.ensures.value;
      own = c.block_count-blocks-2.ensures.own;
      chained = c.block_count-blocks-2.ensures.chained;
    } in
    record {
      alike = λ folder stamps later failed failed_later is too. (one_folder folder stamps later failed failed_later c.args.one.now
          c.args.other.now c.block_count-blocks.result c.block_count-blocks-2.result one other is too).0;
      told = λ folder stamps later failed failed_later is too. (one_folder folder stamps later failed failed_later c.args.one.now
          c.args.other.now c.block_count-blocks.result c.block_count-blocks-2.result one other is too).1;
      head = λ folder stamps later failed failed_later is too. (one_folder folder stamps later failed failed_later c.args.one.now
          c.args.other.now c.block_count-blocks.result c.block_count-blocks-2.result one other is too).2;
      failed = λ folder stamps later failed failed_later is too. (one_folder folder stamps later failed failed_later c.args.one.now
          c.args.other.now c.block_count-blocks.result c.block_count-blocks-2.result one other is too).3;
    }
