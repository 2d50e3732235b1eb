use Rattle.script_head.proofs.EachLine.{says_or_refused}
use Rattle.script_head.proofs.laws.a_line_says_something_or_is_refused.Goals as goal

pub returns : goal.returns
returns c = says_or_refused
