use Rattle.replica_compare.proofs.OrderLemmas.{one_tree, one_reading, one_volume}
use Rattle.replica_compare.proofs.laws.alike_are_one_volume.Goals as goal

pub returns-clause-disks : goal.returns-clause-disks
returns-clause-disks c =
    one_reading c.args.one.now c.args.other.now c.layer_count-count.ensures.once c.layer_count-count-2.ensures.once
    c.requires.one c.requires.other c.requires.alike

pub returns-clause-volume : goal.returns-clause-volume
returns-clause-volume c =
    let a = c.args.one.now in
    let b = c.args.other.now in
    let once = c.layer_count-count.ensures.once in
    let other = c.layer_count-count-2.ensures.once in
    one_volume a b (one_tree a b once other c.requires.one c.requires.other c.requires.alike.shape.layers)
    (one_reading a b once other c.requires.one c.requires.other c.requires.alike) c.requires.alike
