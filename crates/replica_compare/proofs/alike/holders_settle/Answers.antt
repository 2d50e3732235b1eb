use Rattle.std.proofs.Common.{arith}
use Rattle.replica_compare.proofs.HolderLemmas.{holders_settled}
use Rattle.replica_compare.proofs.alike.holders_settle.Goals as goal

pub returns : goal.returns
returns c = λ yes place less.
    holders_settled c.args.one.now c.args.other.now c.args.block c.args.holders.now c.requires.holders
    (λ i before. c.loop-i.invariant i (omega (arith, before, c.loop-i-test.false))) place less
