use Rattle.std.proofs.Common.{rules, ◌≡◌}
use Rattle.step_answers.specs.declared.answers.Enrolled.TheVariants as enrol
use Rattle.client_worker.proofs.Calls.{enrol_begun, enrol_refused}
use Rattle.client_worker.proofs.Carrying.{serving_on}
use Rattle.client_worker.proofs.Served.{grew_now, enrol_served}
use Rattle.client_worker.proofs.Shown.{shows_now}
use Rattle.client_worker.proofs.carrier.Carrier.serve_one.Goals as goal

pub invariant_of-self-then-is_now : goal.invariant_of-self-then-is_now
invariant_of-self-then-is_now g c = serving_on c.self.inside.steps c.answer_now.new.self c.self.inside.channels.items
    c.self.invariant c.answer_now.ensures.stands.ready
    (shows_now c.args.call (g.C.ClientSteps.mine c.self.inside.steps) (g.C.ClientSteps.mine c.answer_now.new.self)
    c.in_ok-answer_now.ensures.ok)

pub returns-then-is_now-clause-ok : goal.returns-then-is_now-clause-ok
returns-then-is_now-clause-ok g c = rw (← c.self.view_is) (grew_now c.args.call (g.C.ClientSteps.mine c.self.inside.steps)
    (g.C.ClientSteps.mine c.answer_now.new.self) c.in_ok-answer_now.ensures.ok)

pub invariant_of-self-in-OutOfRange : goal.invariant_of-self-in-OutOfRange
invariant_of-self-in-OutOfRange g c =
    let before = g.C.ClientSteps.mine c.self.inside.steps in
    let after = g.C.ClientSteps.mine c.enrol.new.self in
    let e : c.in_ok-enrol.field-0 ≡ enrol.OutOfRange c.in-OutOfRange.field-0 = search rules in
    serving_on c.self.inside.steps c.enrol.new.self
    c.self.inside.channels.items c.self.invariant c.enrol.ensures.stands.ready (shows_now c.args.call before after
    (enrol_refused c.in-OutOfRange.field-0 c.args.call c.in_ok-enrol.field-0 before after e c.in_ok-enrol.ensures.ok))

pub returns-in-OutOfRange-clause-ok : goal.returns-in-OutOfRange-clause-ok
returns-in-OutOfRange-clause-ok g c =
    let before = g.C.ClientSteps.mine c.self.inside.steps in
    let after = g.C.ClientSteps.mine c.enrol.new.self in
    let e : c.in_ok-enrol.field-0 ≡ enrol.OutOfRange c.in-OutOfRange.field-0 = search rules in
    rw (← c.self.view_is) (grew_now c.args.call before after
    (enrol_refused c.in-OutOfRange.field-0 c.args.call c.in_ok-enrol.field-0 before after e c.in_ok-enrol.ensures.ok))

pub returns-clause-ok : goal.returns-clause-ok
returns-clause-ok g c =
    let before = g.C.ClientSteps.mine c.self.inside.steps in
    let after = g.C.ClientSteps.mine c.enrol.new.self in
    let e : c.in_ok-enrol.field-0 ≡ enrol.Ticket c.in-Ticket.t = search rules in
    rw (← c.self.view_is) (enrol_served c.serve_open.result c.in-Ticket.t c.args.call before after
    (g.C.ClientSteps.mine c.serve_open.new.self.steps)
    (enrol_begun c.in-Ticket.t c.args.call c.in_ok-enrol.field-0 before after e c.in_ok-enrol.ensures.ok) c.serve_open.ensures.ok)
