use Rattle.std.proofs.Common.{rules, ◌≡◌, is_ok, false}
use Rattle.client_worker.proofs.Asked.{none_why}
use Rattle.client_worker.proofs.Carrying.{own_inside, serving_on}
use Rattle.client_worker.proofs.Shown.{shows_done}
use Rattle.client_worker.proofs.carrier.Carrier.finish.Goals as goal

pub invariant_of-self : goal.invariant_of-self
invariant_of-self g c =
    let op = c.requires.own in
    serving_on c.self.inside.steps
    c.complete.new.self c.self.inside.channels.items c.self.invariant c.complete.ensures.stands.ready
    (shows_done c.complete.result c.args.t (g.C.ClientSteps.mine c.self.inside.steps) (g.C.ClientSteps.mine c.complete.new.self)
    (op.0, own_inside g.C.ClientSteps.mine _ _ c.self.view_is c.args.t op.0 op.1, op.2)
    c.complete.ensures.does.ok c.complete.ensures.does.err)

pub returns-clause-none : goal.returns-clause-none
returns-clause-none g c = λ e op.
    let no : is_ok c.complete.result ≡ false = search rules in
    none_why c.complete.result c.args.t (g.C.ClientSteps.modes c.complete.new.self) (g.C.ClientSteps.mine c.self.inside.steps)
    (g.C.ClientSteps.mine c.complete.new.self) no c.complete.ensures.does.err c.complete.ensures.does.why
    (op.0, own_inside g.C.ClientSteps.mine _ _ c.self.view_is c.args.t op.0 op.1, op.2)
