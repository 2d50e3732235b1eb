use Rattle.std.proofs.Common.{rules, ◌≡◌, [], ◌∷◌, Some, sym, subst}
use Rattle.step_answers.specs.Asked.{command_of}
use Rattle.stream_steps.specs.Maint.{HasTurn}
use Rattle.client_worker.specs.Working.{Work}
use Rattle.control_worker.proofs.CarrierLemmas.{serves_step}
use Rattle.control_worker.proofs.CommandLemmas.{no_add}
use Rattle.control_worker.proofs.RoundLemmas.{some_of}
use Rattle.control_worker.proofs.ShownLemmas.{stays_running}
use Rattle.control_worker.proofs.carrier.Carrier.enrol_under.Given.{Over}
use Rattle.control_worker.proofs.carrier.Carrier.enrol_under.Goals as goal
use Rattle.control_worker.proofs.carrier.Carrier.enrol_under.Goals.{After-enrol_whole}

-- the command has the turn
turn : (g : Over) (c : After-enrol_whole g)
    → HasTurn c.args.t (command_of c.args.op.now) c.requires.turn.0 (g.C.CommandSteps.mine c.self.inside.steps)
turn g c = subst (λ (w : Work g.row.C.Denot g.row.L.Denot). HasTurn c.args.t (command_of c.args.op.now) c.requires.turn.0
    (g.C.CommandSteps.mine w.steps)) (sym c.self.view_is) c.requires.turn.1

pub invariant_of-self : goal.invariant_of-self
invariant_of-self g c =
    let o = c.requires.turn.0 in
    let is : c.in-Ok-Some.field-0 ≡ Some c.in-Ok-Some.whole = search rules in
    let e = some_of c.in-Ok-Some.field-0 c.in-Ok-Some.whole _ is c.in-Ok-Some.ensures.ok.some o
    (turn g (goal.at.invariant_of-self g c).After-enrol_whole) in
    serves_step g.C.CommandSteps.mine _ _ c.in-Ok-Some.ensures.stands.ready (stays_running (o ∷ e.whole.own ∷ []) _ _ e.whole.is)
    c.self.invariant

pub returns-in-Ok-Some-clause-ok : goal.returns-in-Ok-Some-clause-ok
returns-in-Ok-Some-clause-ok g c =
    let is : c.in-Ok-Some.field-0 ≡ Some c.in-Ok-Some.whole = search rules in
    rw (is, ← c.self.view_is) (some_of c.in-Ok-Some.field-0 c.in-Ok-Some.whole _ is c.in-Ok-Some.ensures.ok.some)

pub abandon-requires-clause-turn : goal.abandon-requires-clause-turn
abandon-requires-clause-turn g c = (
  command_of c.args.op.now,
  c.requires.turn.0,
  subst (HasTurn c.args.t (command_of c.args.op.now) c.requires.turn.0) (sym c.in-Err.ensures.err)
      (turn g (goal.at.abandon-requires-clause-turn g c).After-enrol_whole),
  no_add c.args.op.now c.requires.plain,
)
