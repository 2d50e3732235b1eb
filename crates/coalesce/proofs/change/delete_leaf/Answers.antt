use Rattle.coalesce.proofs.KeepLemmas.{dropped_keeps, dropped_rest}
use Rattle.coalesce.proofs.SnapshotLemmas.{dropped_snapshots}
use Rattle.coalesce.proofs.PlaceLemmas.{leaf_there, drop_leaf}
use Rattle.coalesce.proofs.change.delete_leaf.Goals as goal

pub place_of-place-requires : goal.place_of-place-requires
place_of-place-requires c = leaf_there c.args.tree.now c.args.name.now c.requires

pub take_out-requires-clause-within : goal.take_out-requires-clause-within
take_out-requires-clause-within c = c.place_of-place.ensures.at.within

pub take_out-requires-clause-leaf : goal.take_out-requires-clause-leaf
take_out-requires-clause-leaf c = drop_leaf c.args.tree.now c.args.name.now c.place_of-place.result c.place_of-place.ensures.at c.requires

pub returns-clause-drops : goal.returns-clause-drops
returns-clause-drops c = record { place = c.place_of-place.result; at = c.place_of-place.ensures.at; is = c.take_out.ensures }

pub returns-clause-readings : goal.returns-clause-readings
returns-clause-readings c = dropped_keeps c.args.tree.now c.take_out.new.self c.args.name.now c.place_of-place.result
    c.place_of-place.ensures.at c.requires c.take_out.ensures

pub returns-clause-snapshots : goal.returns-clause-snapshots
returns-clause-snapshots c = dropped_snapshots c.args.tree.now c.take_out.new.self c.args.name.now c.place_of-place.result
    c.place_of-place.ensures.whole c.place_of-place.ensures.at c.take_out.ensures

pub returns-clause-rest : goal.returns-clause-rest
returns-clause-rest c = dropped_rest c.args.tree.now c.take_out.new.self c.place_of-place.result c.take_out.ensures
