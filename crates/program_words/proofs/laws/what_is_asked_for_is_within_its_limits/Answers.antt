use Rattle.program_words.proofs.LimitLemmas.{asked_keeps}
use Rattle.program_words.proofs.laws.what_is_asked_for_is_within_its_limits.Goals as goal

pub returns : goal.returns
returns c = asked_keeps
