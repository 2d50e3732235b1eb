use Rattle.std.proofs.Common.{rules, ◌≡◌, ◌∙◌, is_some, true, None, inl, inr, ap, subst}
use Rattle.stream_steps.specs.Mine.{Mine}
use Rattle.stream_steps.specs.Add.{EndsAborted}
use Rattle.client_worker.specs.Working.{Work}
use Rattle.control_worker.proofs.AddLemmas.{some_holds, none_holds, ends_stays}
use Rattle.control_worker.proofs.CarrierLemmas.{serves_step}
use Rattle.control_worker.proofs.CopierLemmas.{add_same, add_at}
use Rattle.control_worker.proofs.carrier.Carrier.promote_or_end.Goals as goal

pub invariant_of-self : goal.invariant_of-self
invariant_of-self g c =
    let came : is_some c.promote.result ≡ true = search rules in
    let h = add_same c.args.t _ (g.C.CommandSteps.mine c.self.inside.steps)
    (ap (λ (w : Work g.row.C.Denot g.row.L.Denot). g.C.CommandSteps.mine w.steps) c.self.view_is) c.requires.turn in
    serves_step g.C.CommandSteps.mine _ _ c.promote.ensures.stands.ready
    (ends_stays c.args.t h.0 h.1 _ _ h.2
    (inl (some_holds c.promote.result came c.promote.ensures.done h.0 h.1 h.2))) c.self.invariant

pub returns-clause-done : goal.returns-clause-done
returns-clause-done g c = λ r o h.
    let none : c.promote.result ≡ None = none_holds c.promote.result (search rules) in
    let same = c.aborted.ensures.stands.same ∙ (c.promote.ensures.none none).same
    ∙ ap (λ (w : Work g.row.C.Denot g.row.L.Denot). g.C.CommandSteps.mine w.steps) c.self.view_is in
    inr (
      c.in-Some.place,
      subst (λ (m : Mine). EndsAborted r c.in-Some.place o m (g.C.CommandSteps.mine c.answer_aborted.new.self.steps)) same
          (c.answer_aborted.ensures.done r o
          (add_at c.args.t r o _ _ same h)),
    )
