use Rattle.script_text.proofs.GoodLemmas.{one_backs_up}
use Rattle.script_text.proofs.laws.a_script_backs_up_in_one_stream.Goals as goal

pub returns : goal.returns
returns c = one_backs_up
