use Rattle.std.proofs.Common.{inr}
use Rattle.control_worker.proofs.carrier.Carrier.end_add.Goals as goal

pub returns-in-Ended-clause-done : goal.returns-in-Ended-clause-done
returns-in-Ended-clause-done g c = λ r o h. inr (c.in-Ended.place, c.answer_aborted.ensures.done r o h)
