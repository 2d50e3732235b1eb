use Rattle.replica_node.proofs.PurgeLemmas.{page_folded_volume, replaced_volume, dropped_volume}
use Rattle.replica_node.proofs.laws.a_replica_is_purged_as_its_volume.Goals as goal

pub returns-clause-page : goal.returns-clause-page
returns-clause-page c = page_folded_volume

pub returns-clause-fold : goal.returns-clause-fold
returns-clause-fold c = replaced_volume

pub returns-clause-drop : goal.returns-clause-drop
returns-clause-drop c = dropped_volume
