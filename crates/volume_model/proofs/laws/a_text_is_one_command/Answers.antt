use Rattle.volume_model.proofs.TextLemmas.{same_text}
use Rattle.volume_model.proofs.laws.a_text_is_one_command.Goals as goal

pub returns : goal.returns
returns c = same_text
