use Rattle.replica_compare.proofs.ShapeLemmas.{place_kept}
use Rattle.replica_compare.proofs.HolderLemmas.{not_differs}
use Rattle.replica_compare.proofs.alike.settles.Goals as goal

pub returns-in-Some : goal.returns-in-Some
returns-in-Some c =
    not_differs c.args.one.now c.args.other.now c.args.block _ c.in-Some.differs
    (place_kept c.args.one.now c.args.place c.requires.within) c.in-Some.ensures
