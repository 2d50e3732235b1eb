use Rattle.layer_chain.proofs.ChangeLemmas.{snapped_head}
use Rattle.layer_chain.proofs.laws.a_snapshot_keeps_the_head.Goals as goal

pub returns : goal.returns
returns c = snapped_head
