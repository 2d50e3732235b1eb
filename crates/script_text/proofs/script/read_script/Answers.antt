use Rattle.script_text.proofs.OneAnswer.{one_answer}
use Rattle.script_text.proofs.script.read_script.Goals as goal

pub returns-clause-only : goal.returns-clause-only
returns-clause-only c = one_answer c.args.input.now c.script_in.result c.script_in.ensures
