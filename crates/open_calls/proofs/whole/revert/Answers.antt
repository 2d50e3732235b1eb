use Rattle.replica_node.proofs.VolumeLemmas.{kept_of}
use Rattle.open_calls.proofs.whole.revert.Goals as goal

pub revert-requires-clause-kept : goal.revert-requires-clause-kept
revert-requires-clause-kept c = kept_of c.args.node.now c.args.name c.requires.can.live
