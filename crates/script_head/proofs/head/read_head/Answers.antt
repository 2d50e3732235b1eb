use Rattle.script_head.proofs.OneAnswer.{one_answer}
use Rattle.script_head.proofs.head.read_head.Goals as goal

pub returns-clause-only : goal.returns-clause-only
returns-clause-only c = one_answer c.args.line.now c.head_of.result c.head_of.ensures
