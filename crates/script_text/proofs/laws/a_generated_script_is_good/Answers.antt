use Rattle.script_text.proofs.GeneratedGood.{generated_is_good}
use Rattle.script_text.proofs.laws.a_generated_script_is_good.Goals as goal

pub returns : goal.returns
returns c = generated_is_good
