use Rattle.std.proofs.Common.{inr, ap}
use Rattle.client_worker.specs.Working.{Work}
use Rattle.control_worker.proofs.AddLemmas.{ends_stays}
use Rattle.control_worker.proofs.CarrierLemmas.{serves_step}
use Rattle.control_worker.proofs.CopierLemmas.{add_same}
use Rattle.control_worker.proofs.carrier.Carrier.answer_aborted.Goals as goal

pub invariant_of-self : goal.invariant_of-self
invariant_of-self g c =
    let h = add_same c.args.t _ (g.C.CommandSteps.mine c.self.inside.steps)
    (ap (λ (w : Work g.row.C.Denot g.row.L.Denot). g.C.CommandSteps.mine w.steps) c.self.view_is) c.requires.turn in
    serves_step g.C.CommandSteps.mine _ _ c.end_aborted.ensures.stands.ready
    (ends_stays c.args.t h.0 h.1 _ _ h.2 (inr (c.args.place, c.in-Some.ensures.done h.0 h.1 h.2))) c.self.invariant

pub returns-clause-done : goal.returns-clause-done
returns-clause-done g c = rw (← c.self.view_is) c.in-Some.ensures.done
