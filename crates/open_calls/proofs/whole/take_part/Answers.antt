use Rattle.std.proofs.Common.{◌≡◌, true, rules}
use Rattle.volume_model.specs.Snapshots.{is_live}
use Rattle.replica_node.specs.Fold.{tree_of}
use Rattle.replica_node.proofs.VolumeLemmas.{kept_of}
use Rattle.open_calls.proofs.whole.take_part.Goals as goal

pub mark-requires : goal.mark-requires
mark-requires c =
    let live : is_live (tree_of c.args.node.now) c.in-Remove.name ≡ true = search rules in
    kept_of c.args.node.now c.in-Remove.name live
