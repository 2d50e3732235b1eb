use Rattle.script_text.proofs.GoodLemmas.{few_replicas}
use Rattle.script_text.proofs.laws.a_script_has_few_replicas.Goals as goal

pub returns : goal.returns
returns c = few_replicas
