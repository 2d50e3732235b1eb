use Rattle.script_text.proofs.GoodLemmas.{good_script}
use Rattle.script_text.proofs.laws.a_script_is_good.Goals as goal

pub returns : goal.returns
returns c = good_script
