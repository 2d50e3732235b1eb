use Rattle.coalesce.proofs.KeepLemmas.{replaced_keeps, replaced_rest}
use Rattle.coalesce.proofs.SnapshotLemmas.{replaced_snapshots}
use Rattle.coalesce.proofs.PlaceLemmas.{parent_there, child_there, fold_only}
use Rattle.coalesce.proofs.change.replace.Goals as goal

pub place_of-below-requires : goal.place_of-below-requires
place_of-below-requires c = parent_there c.args.tree.now c.args.parent.now c.args.child.now c.requires.can

pub place_of-above-requires : goal.place_of-above-requires
place_of-above-requires c = child_there c.args.tree.now c.args.parent.now c.args.child.now c.requires.can

pub replace-requires-clause-only : goal.replace-requires-clause-only
replace-requires-clause-only c =
    fold_only c.args.tree.now c.args.parent.now c.args.child.now c.place_of-below.result c.place_of-above.result
    c.place_of-below.ensures.whole
    (record { parent = c.place_of-below.ensures.at; child = c.place_of-above.ensures.at }) c.requires.can

pub replace-requires-clause-within : goal.replace-requires-clause-within
replace-requires-clause-within c = c.place_of-below.ensures.at.within

pub returns-clause-replaces : goal.returns-clause-replaces
returns-clause-replaces c = record {
  parent = c.place_of-below.result;
  child = c.place_of-above.result;
  at = record { parent = c.place_of-below.ensures.at; child = c.place_of-above.ensures.at };
  is = c.replace.ensures;
}

pub returns-clause-readings : goal.returns-clause-readings
returns-clause-readings c =
    replaced_keeps c.args.tree.now c.replace.new.self c.args.parent.now c.args.child.now c.place_of-below.result
    c.place_of-above.result c.place_of-below.ensures.whole
    (record { parent = c.place_of-below.ensures.at; child = c.place_of-above.ensures.at }) c.requires.can c.requires.empty c.replace.ensures

pub returns-clause-snapshots : goal.returns-clause-snapshots
returns-clause-snapshots c =
    replaced_snapshots c.args.tree.now c.replace.new.self c.args.parent.now c.args.child.now c.place_of-below.result
    c.place_of-above.result c.place_of-below.ensures.whole
    (record { parent = c.place_of-below.ensures.at; child = c.place_of-above.ensures.at }) c.requires.can c.replace.ensures

pub returns-clause-rest : goal.returns-clause-rest
returns-clause-rest c = replaced_rest c.args.tree.now c.replace.new.self c.place_of-below.result c.place_of-above.result c.replace.ensures
