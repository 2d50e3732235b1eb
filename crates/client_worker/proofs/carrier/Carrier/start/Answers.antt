use Rattle.std.proofs.Common.{rules, ◌≡◌, ◌∙◌, sym, subst}
use Rattle.step_answers.specs.declared.answers.Admit.TheVariants as admit
use Rattle.client_worker.specs.Working.{IsServing}
use Rattle.client_worker.proofs.Carrying.{own_inside, serving_on}
use Rattle.client_worker.proofs.Shown.{shows_refuses, shows_starts}
use Rattle.client_worker.proofs.Starting.{starts, refused, waits}
use Rattle.client_worker.proofs.carrier.Carrier.start.Goals as goal

pub invariant_of-self : goal.invariant_of-self
invariant_of-self g c =
    let before = g.C.ClientSteps.mine c.self.inside.steps in
    let after = g.C.ClientSteps.mine c.admit.new.self in
    let op = c.requires.waits in
    let e : c.in-Ok.field-0.answer ≡ admit.Go c.in-Go.answer = search rules in
    let s = starts c.args.t before (g.C.ClientSteps.mine c.loop.self-inside.steps) after c.in-Ok.field-0.answer c.loop.invariant.same
    c.in-Ok.ensures.ok.ok c.in-Go.answer e op.0 (own_inside g.C.ClientSteps.mine _ _ c.self.view_is c.args.t op.0 op.1) in
    subst (λ v. IsServing g.C.ClientSteps.ready g.C.ClientSteps.mine g.L.Line.count g.L.Line.carried
    (record { steps = c.admit.new.self; channels = v.items })) (sym c.loop.invariant.lines)
    (serving_on c.self.inside.steps
    c.admit.new.self c.self.inside.channels.items c.self.invariant c.admit.ensures.stands.ready
    (shows_starts op.0 c.in-Go.answer before after s))

pub returns-in-Go-clause-ok : goal.returns-in-Go-clause-ok
returns-in-Go-clause-ok g c =
    let e : c.in-Ok.field-0.answer ≡ admit.Go c.in-Go.answer = search rules in
    rw (← c.self.view_is) (starts c.args.t (g.C.ClientSteps.mine c.self.inside.steps)
    (g.C.ClientSteps.mine c.loop.self-inside.steps) (g.C.ClientSteps.mine c.admit.new.self) c.in-Ok.field-0.answer
    c.loop.invariant.same c.in-Ok.ensures.ok.ok c.in-Go.answer e)

pub invariant_of-self-in-NoReplica : goal.invariant_of-self-in-NoReplica
invariant_of-self-in-NoReplica g c =
    let before = g.C.ClientSteps.mine c.self.inside.steps in
    let after = g.C.ClientSteps.mine c.admit.new.self in
    let op = c.requires.waits in
    let e : c.in-Ok.field-0.answer ≡ admit.NoReplica c.in-NoReplica.field-0 = search rules in
    let s = refused c.args.t before (g.C.ClientSteps.mine c.loop.self-inside.steps) after c.in-Ok.field-0.answer
    c.loop.invariant.same c.in-Ok.ensures.ok.ok c.in-NoReplica.field-0 e op.0
    (own_inside g.C.ClientSteps.mine _ _ c.self.view_is c.args.t op.0 op.1) in
    subst (λ v. IsServing g.C.ClientSteps.ready g.C.ClientSteps.mine g.L.Line.count g.L.Line.carried
    (record { steps = c.admit.new.self; channels = v.items })) (sym c.loop.invariant.lines)
    (serving_on c.self.inside.steps
    c.admit.new.self c.self.inside.channels.items c.self.invariant c.admit.ensures.stands.ready (shows_refuses op.0 before after s))

pub returns-in-NoReplica-clause-ok : goal.returns-in-NoReplica-clause-ok
returns-in-NoReplica-clause-ok g c =
    let e : c.in-Ok.field-0.answer ≡ admit.NoReplica c.in-NoReplica.field-0 = search rules in
    rw (← c.self.view_is) (refused c.args.t (g.C.ClientSteps.mine c.self.inside.steps)
    (g.C.ClientSteps.mine c.loop.self-inside.steps) (g.C.ClientSteps.mine c.admit.new.self) c.in-Ok.field-0.answer
    c.loop.invariant.same c.in-Ok.ensures.ok.ok c.in-NoReplica.field-0 e)

pub loop-preserved : goal.loop-preserved
loop-preserved g c =
    let e : c.in-Ok.field-0.answer ≡ admit.After c.in-After.field-0 = search rules in
    let op = c.requires.waits in
    record {
      ready = c.admit.ensures.stands.ready;
      home = c.admit.ensures.stands.home ∙ c.loop.invariant.home;
      same = waits c.args.t (g.C.ClientSteps.mine c.self.inside.steps) (g.C.ClientSteps.mine c.loop.self-inside.steps)
          (g.C.ClientSteps.mine c.admit.new.self) c.in-Ok.field-0.answer c.loop.invariant.same c.in-Ok.ensures.ok.ok
          c.in-After.field-0 e (op.0, own_inside g.C.ClientSteps.mine _ _ c.self.view_is c.args.t op.0 op.1, op.2);
      lines = c.loop.invariant.lines;
    }
