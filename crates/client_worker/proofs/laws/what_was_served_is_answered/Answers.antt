use Rattle.client_worker.proofs.ServedLaws.{served_calls}
use Rattle.client_worker.proofs.laws.what_was_served_is_answered.Goals as goal

pub returns : goal.returns
returns c = λ stream place cs es served. served_calls stream place cs es served 0
