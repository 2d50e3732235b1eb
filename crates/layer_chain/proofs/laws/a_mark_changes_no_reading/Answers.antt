use Rattle.layer_chain.proofs.ChangeLemmas.{mark_keeps}
use Rattle.layer_chain.proofs.laws.a_mark_changes_no_reading.Goals as goal

pub returns : goal.returns
returns c = mark_keeps
