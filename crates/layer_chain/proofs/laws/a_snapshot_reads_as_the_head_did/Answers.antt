use Rattle.layer_chain.proofs.ChangeLemmas.{snapped_reads}
use Rattle.layer_chain.proofs.laws.a_snapshot_reads_as_the_head_did.Goals as goal

pub returns : goal.returns
returns c = snapped_reads
