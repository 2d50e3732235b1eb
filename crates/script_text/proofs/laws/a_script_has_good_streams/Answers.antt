use Rattle.script_text.proofs.GoodLemmas.{good_streams}
use Rattle.script_text.proofs.laws.a_script_has_good_streams.Goals as goal

pub returns : goal.returns
returns c = good_streams
