use Rattle.script_text.proofs.GoodLemmas.{few_streams}
use Rattle.script_text.proofs.laws.a_script_has_few_streams.Goals as goal

pub returns : goal.returns
returns c = few_streams
