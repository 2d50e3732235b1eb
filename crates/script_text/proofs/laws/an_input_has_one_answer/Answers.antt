use Rattle.script_text.proofs.EachInput.{script_or_refused}
use Rattle.script_text.proofs.OneAnswer.{not_both, one_script, one_refusal}
use Rattle.script_text.proofs.laws.an_input_has_one_answer.Goals as goal

pub returns-clause-either : goal.returns-clause-either
returns-clause-either c = script_or_refused

pub returns-clause-not_both : goal.returns-clause-not_both
returns-clause-not_both c = not_both

pub returns-clause-one_script : goal.returns-clause-one_script
returns-clause-one_script c = one_script

pub returns-clause-one_refusal : goal.returns-clause-one_refusal
returns-clause-one_refusal c = one_refusal
