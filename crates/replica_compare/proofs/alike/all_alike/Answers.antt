use Rattle.std.proofs.Common.{arith}
use Rattle.replica_compare.proofs.HolderLemmas.{all_settled}
use Rattle.replica_compare.proofs.alike.all_alike.Goals as goal

pub returns-then-holders_settle : goal.returns-then-holders_settle
returns-then-holders_settle c = λ yes.
    all_settled c.args.one.now c.args.other.now c.args.block c.args.twins.now (record {
      pair = c.requires.pair;
      stand = c.requires.twins;
      inside = omega (arith, c.requires.inside, c.requires.pair.size);
    }) (c.holders_settle.ensures c.if-holders_settle.true) (c.heads_settle.ensures yes)
