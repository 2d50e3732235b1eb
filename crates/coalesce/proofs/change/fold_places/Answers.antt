use Rattle.coalesce.proofs.PlaceLemmas.{parent_there, child_there}
use Rattle.coalesce.proofs.change.fold_places.Goals as goal

pub place_of-requires : goal.place_of-requires
place_of-requires c = parent_there c.args.tree.now c.args.parent.now c.args.child.now c.requires

pub place_of-requires-2 : goal.place_of-requires-2
place_of-requires-2 c = child_there c.args.tree.now c.args.parent.now c.args.child.now c.requires

pub returns : goal.returns
returns c = record {
  can = c.requires;
  at = record { parent = c.place_of.ensures.at; child = c.place_of-2.ensures.at };
}
