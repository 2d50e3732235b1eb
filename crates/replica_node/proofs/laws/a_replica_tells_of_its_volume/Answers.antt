use Rattle.replica_node.proofs.VolumeLemmas.{kept_of, free_of}
use Rattle.replica_node.proofs.laws.a_replica_tells_of_its_volume.Goals as goal

pub returns-clause-kept : goal.returns-clause-kept
returns-clause-kept c = kept_of

pub returns-clause-free : goal.returns-clause-free
returns-clause-free c = free_of
