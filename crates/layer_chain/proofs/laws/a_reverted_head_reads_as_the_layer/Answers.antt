use Rattle.layer_chain.proofs.ChangeLemmas.{reverted_head}
use Rattle.layer_chain.proofs.laws.a_reverted_head_reads_as_the_layer.Goals as goal

pub returns : goal.returns
returns c = reverted_head
