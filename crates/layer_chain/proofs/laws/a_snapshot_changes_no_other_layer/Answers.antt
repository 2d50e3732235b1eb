use Rattle.layer_chain.proofs.ChangeLemmas.{snapped_others}
use Rattle.layer_chain.proofs.laws.a_snapshot_changes_no_other_layer.Goals as goal

pub returns : goal.returns
returns c = snapped_others
