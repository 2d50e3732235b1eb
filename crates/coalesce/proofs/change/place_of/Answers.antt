use Rattle.coalesce.proofs.PlaceLemmas.{not_there}
use Rattle.coalesce.proofs.change.place_of.Goals as goal

pub unreachable-requires : goal.unreachable-requires
unreachable-requires c = not_there c.args.tree.now c.args.name.now c.in-None.ensures.place c.requires
