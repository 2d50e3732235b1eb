use Rattle.std.proofs.Common.{[], ◌∷◌, subst}
use Rattle.step_answers.specs.declared.whole_op.WholeOp.TheVariants as whole
use Rattle.stream_steps.specs.Maint.{EnrolsWhole}
use Rattle.client_worker.specs.Working.{Work}
use Rattle.control_worker.proofs.CarrierLemmas.{serves_step}
use Rattle.control_worker.proofs.CommandLemmas.{enrolled_waits, snapshot_grew, snapshot_left}
use Rattle.control_worker.proofs.ShownLemmas.{stays_running}
use Rattle.control_worker.proofs.carrier.Carrier.snapshot.Goals as goal

pub invariant_of-self-2 : goal.invariant_of-self-2
invariant_of-self-2 g c =
    let e = c.in_ok-ticket.ensures.ok.whole in
    serves_step g.C.CommandSteps.mine _ _ c.in_ok-ticket.ensures.stands.ready (stays_running (e.own ∷ []) _ _ e.is) c.self.invariant

pub take_up-requires-clause-waits : goal.take_up-requires-clause-waits
take_up-requires-clause-waits g c =
    enrolled_waits c.in_ok-ticket.ticket (whole.Snapshot c.args.name.now) [] _ _ c.in_ok-ticket.ensures.ok.whole

pub returns-clause-ok : goal.returns-clause-ok
returns-clause-ok g c =
    rw (← c.self.view_is)
    (snapshot_grew c.take_up.result c.in_ok-ticket.ticket (whole.Snapshot c.args.name.now) tt _ _ _ c.in_ok-ticket.ensures.ok.whole
    c.in_ok-ticket.ensures.ok.saw c.take_up.ensures.ok)

pub returns-clause-err : goal.returns-clause-err
returns-clause-err g c =
    let e = subst (λ (w : Work g.row.C.Denot g.row.L.Denot). EnrolsWhole c.in_ok-ticket.ticket (whole.Snapshot c.args.name.now) []
    (g.C.CommandSteps.mine w.steps) (g.C.CommandSteps.mine c.enrol_snapshot.new.self)) c.self.view_is c.in_ok-ticket.ensures.ok.whole in
    snapshot_left c.take_up.result c.in_ok-ticket.ticket (whole.Snapshot c.args.name.now) _ _ _ c.requires.idle e c.take_up.ensures.err
