use Rattle.summary_laws.proofs.TextLemmas.{has_load_text}
use Rattle.summary_laws.proofs.laws.a_load_has_one_summary.Goals as goal

pub returns : goal.returns
returns c = has_load_text
