use Rattle.client_worker.proofs.ServedLaws.{asked_call}
use Rattle.client_worker.proofs.laws.a_call_of_a_script_is_taken.Goals as goal

pub returns : goal.returns
returns c = asked_call
