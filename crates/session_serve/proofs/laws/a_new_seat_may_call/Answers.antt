use Rattle.session_serve.proofs.Joined.{new_may_call}
use Rattle.session_serve.proofs.laws.a_new_seat_may_call.Goals as goal

pub returns : goal.returns
returns g c = new_may_call g.L.Line.count g.L.Line.carried
