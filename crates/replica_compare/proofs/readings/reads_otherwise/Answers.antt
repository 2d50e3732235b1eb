use Rattle.std.proofs.Common.{sym, subst, arith}
use Rattle.std.specs.Prelude.{◌↔◌, IsTrue}
use Rattle.replica_node.specs.Places.{kept_at}
use Rattle.replica_compare.specs.Blocks.{DiffersAt}
use Rattle.replica_compare.proofs.ReadLemmas.{none_own}
use Rattle.replica_compare.proofs.readings.reads_otherwise.Goals as goal

pub returns-in-None : goal.returns-in-None
returns-in-None c =
    subst (λ t. IsTrue t ↔ DiffersAt c.args.one.now c.args.other.now c.args.block
    (kept_at c.args.one.now.layers c.args.place).meta.name)
    (sym c.is_told.ensures)
    (none_own c.args.one.now c.args.other.now c.args.block c.args.place _ c.args.differs.now (record {
      pair = c.requires.pair;
      stands = c.requires.twins.each c.args.place c.requires.within;
      within = c.requires.within;
      inside = omega (arith, c.requires.inside, c.requires.pair.size);
    }) c.in-None.ensures c.requires.told)
