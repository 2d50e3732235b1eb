use Rattle.layer_chain.proofs.ChangeLemmas.{pushed_others}
use Rattle.layer_chain.proofs.laws.a_push_changes_no_other_layer.Goals as goal

pub returns : goal.returns
returns c = pushed_others
