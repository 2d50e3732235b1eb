use Rattle.std.proofs.Common.{rules, ◌≡◌, ◌∙◌, ap, sym, subst}
use Rattle.step_answers.specs.declared.answers.AdmitWhole.TheVariants as admit
use Rattle.stream_steps.specs.Mine.{Mine, with_running}
use Rattle.stream_steps.specs.Maint.{HasWhole}
use Rattle.control_worker.proofs.CarrierLemmas.{serves_step, unchanged_first, unchanged_next}
use Rattle.control_worker.proofs.PartLemmas.{starts, refused, waits, admits_stays}
use Rattle.control_worker.proofs.ShownLemmas.{stays_running}
use Rattle.control_worker.proofs.carrier.Carrier.start.Goals as goal

pub loop-init : goal.loop-init
loop-init g c = unchanged_first _ _ c.self.view_is c.self.invariant

pub invariant_of-self : goal.invariant_of-self
invariant_of-self g c =
    serves_step g.C.CommandSteps.mine _ _ c.in-Ok-Go.ensures.stands.ready
    (admits_stays c.in-Ok-Go.field-0 c.loop.invariant.same c.in-Ok-Go.ensures.ok.ok (c.requires.waits.0, c.requires.waits.1))
    c.loop.invariant.serves

pub returns-in-Ok-Go-clause-ok : goal.returns-in-Ok-Go-clause-ok
returns-in-Ok-Go-clause-ok g c =
    let e : c.in-Ok-Go.field-0 ≡ admit.Go = search rules in
    starts _ c.in-Ok-Go.field-0 c.loop.invariant.same c.in-Ok-Go.ensures.ok.ok e

pub invariant_of-self-in-Ok-Refused : goal.invariant_of-self-in-Ok-Refused
invariant_of-self-in-Ok-Refused g c =
    serves_step g.C.CommandSteps.mine _ _ c.in-Ok-Refused.ensures.stands.ready
    (admits_stays c.in-Ok-Refused.field-0 c.loop.invariant.same c.in-Ok-Refused.ensures.ok.ok
    (c.requires.waits.0, c.requires.waits.1)) c.loop.invariant.serves

pub returns-in-Ok-Refused-clause-ok : goal.returns-in-Ok-Refused-clause-ok
returns-in-Ok-Refused-clause-ok g c =
    let e : c.in-Ok-Refused.field-0 ≡ admit.Refused c.in-Ok-Refused.field-0-0 c.in-Ok-Refused.field-0-1 = search rules in
    refused _ c.in-Ok-Refused.field-0 c.loop.invariant.same c.in-Ok-Refused.ensures.ok.ok
    c.in-Ok-Refused.field-0-0 c.in-Ok-Refused.field-0-1 e

pub loop-preserved : goal.loop-preserved
loop-preserved g c =
    let e : c.in-Ok-After.field-0 ≡ admit.After c.in-Ok-After.field-0-0 = search rules in
    unchanged_next _ _ _ c.in-Ok-After.ensures.stands.ready c.in-Ok-After.ensures.stands.home
    (waits _ c.in-Ok-After.field-0 c.loop.invariant.same c.in-Ok-After.ensures.ok.ok c.in-Ok-After.field-0-0 e
    (c.requires.waits.0, c.requires.waits.1)) c.loop.invariant

pub invariant_of-self-in-Err : goal.invariant_of-self-in-Err
invariant_of-self-in-Err g c =
    let w = c.requires.waits.1 in
    let left = c.withdraw_whole.ensures.gone c.requires.waits.0 w.0 w.1
    (subst (HasWhole c.args.t c.requires.waits.0 w.0 w.1) (sym (c.in-Err.ensures.err ∙ c.loop.invariant.same)) w.2) in
    serves_step g.C.CommandSteps.mine _ _ c.withdraw_whole.ensures.stands.ready
    (stays_running w.0 _ _ (left ∙ ap (λ (m : Mine). with_running m w.0) c.in-Err.ensures.err)) c.loop.invariant.serves
