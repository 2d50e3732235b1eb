use Rattle.std.proofs.Common.{◌≡◌, ℕ, [], ◌∷◌, sym, subst}
use Rattle.step_answers.specs.Asked.{command_of}
use Rattle.step_answers.specs.declared.whole_op.WholeOp.TheVariants as whole
use Rattle.stream_steps.specs.Mine.{OwnCall}
use Rattle.stream_steps.specs.Maint.{HasTurn, EnrolsUnder}
use Rattle.stream_steps.specs.Add.{HasAdd}
use Rattle.client_worker.specs.Working.{Work}
use Rattle.control_worker.proofs.CarrierLemmas.{serves_step}
use Rattle.control_worker.proofs.RoundLemmas.{some_of}
use Rattle.control_worker.proofs.ShownLemmas.{stays_running}
use Rattle.control_worker.proofs.carrier.Carrier.enrol_barrier.Given.{Over}
use Rattle.control_worker.proofs.carrier.Carrier.enrol_barrier.Goals as goal
use Rattle.control_worker.proofs.carrier.Carrier.enrol_barrier.Goals.{In-Some}

-- it is enrolled behind the add that has the turn
under : (g : Over) (c : In-Some g) (r : ℕ) (o : OwnCall) → c.args.op.now ≡ whole.Barrier r
    → HasAdd c.args.t r o (g.C.CommandSteps.mine c.self.inside.steps)
    → EnrolsUnder c.in-Some.barrier c.args.op.now o (g.C.CommandSteps.mine c.self.inside.steps)
    (g.C.CommandSteps.mine c.enrol_whole.new.self)
under g c r o is h =
    some_of c.in_ok-barrier.field-0 c.in-Some.barrier _ c.in-Some.is c.in_ok-barrier.ensures.ok.some o
    (subst (λ op. HasTurn c.args.t (command_of op) o (g.C.CommandSteps.mine c.self.inside.steps)) (sym is) h)

pub invariant_of-self-2 : goal.invariant_of-self-2
invariant_of-self-2 g c =
    let t = c.requires.turn in
    let h = subst (λ (w : Work g.row.C.Denot g.row.L.Denot). HasAdd c.args.t t.0 t.1 (g.C.CommandSteps.mine w.steps))
    (sym c.self.view_is) t.3 in
    let e = under g (goal.at.invariant_of-self-2 g c).In-Some t.0 t.1 t.2 h in
    serves_step g.C.CommandSteps.mine _ _ c.in_ok-barrier.ensures.stands.ready (stays_running (t.1 ∷ e.whole.own ∷ []) _ _ e.whole.is)
    c.self.invariant

pub returns-clause-ok : goal.returns-clause-ok
returns-clause-ok g c =
    rw (← c.self.view_is) (under g (goal.at.returns-clause-ok g c).In-Some)
