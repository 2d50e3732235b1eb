use Rattle.volume_model.proofs.CopyLemmas.{stay_whole}
use Rattle.volume_model.proofs.laws.a_legal_journal_keeps_the_copies.Goals as goal

pub returns : goal.returns
returns c = stay_whole
