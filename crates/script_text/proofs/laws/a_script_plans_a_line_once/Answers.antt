use Rattle.script_text.proofs.GoodLemmas.{good_plans}
use Rattle.script_text.proofs.laws.a_script_plans_a_line_once.Goals as goal

pub returns : goal.returns
returns c = λ input script is. (good_plans input script is).1
