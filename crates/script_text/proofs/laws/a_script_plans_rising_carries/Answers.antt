use Rattle.script_text.proofs.GoodLemmas.{rising_carries}
use Rattle.script_text.proofs.laws.a_script_plans_rising_carries.Goals as goal

pub returns : goal.returns
returns c = rising_carries
