use Rattle.layer_chain.proofs.TreeLemmas.{one_place}
use Rattle.layer_chain.proofs.laws.a_name_has_one_place.Goals as goal

pub returns : goal.returns
returns c = one_place
