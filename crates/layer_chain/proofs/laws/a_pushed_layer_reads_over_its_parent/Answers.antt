use Rattle.layer_chain.proofs.ChangeLemmas.{pushed_reads}
use Rattle.layer_chain.proofs.laws.a_pushed_layer_reads_over_its_parent.Goals as goal

pub returns : goal.returns
returns c = pushed_reads
