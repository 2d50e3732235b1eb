use Rattle.layer_chain.proofs.ChangeLemmas.{pushed_head}
use Rattle.layer_chain.proofs.laws.a_push_keeps_the_head.Goals as goal

pub returns : goal.returns
returns c = pushed_head
