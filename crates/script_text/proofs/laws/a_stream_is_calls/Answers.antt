use Rattle.script_text.proofs.StreamLemmas.{All-asked}
use Rattle.script_text.proofs.laws.a_stream_is_calls.Goals as goal

pub returns : goal.returns
returns c = λ bytes frames is. All-asked frames is.1.calls
