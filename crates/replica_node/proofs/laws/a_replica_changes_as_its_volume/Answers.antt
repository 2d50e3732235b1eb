use Rattle.replica_node.proofs.VolumeLemmas.{reverted_volume, marked_volume}
use Rattle.replica_node.proofs.laws.a_replica_changes_as_its_volume.Goals as goal

pub returns-clause-revert : goal.returns-clause-revert
returns-clause-revert c = reverted_volume

pub returns-clause-remove : goal.returns-clause-remove
returns-clause-remove c = marked_volume
