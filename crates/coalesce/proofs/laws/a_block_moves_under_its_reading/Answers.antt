use Rattle.coalesce.proofs.KeepLemmas.{block_keeps}
use Rattle.coalesce.proofs.NameLemmas.{folded_not_live}
use Rattle.coalesce.proofs.laws.a_block_moves_under_its_reading.Goals as goal

pub returns-clause-readings : goal.returns-clause-readings
returns-clause-readings c = block_keeps

pub returns-clause-unread : goal.returns-clause-unread
returns-clause-unread c = λ t p d w can. (folded_not_live t p d w can, can.head)
