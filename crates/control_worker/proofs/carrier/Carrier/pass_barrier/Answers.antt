use Rattle.std.proofs.Common.{rules, ◌≡◌, ◌∙◌, ◌<◌, [], ◌∷◌, length, None, refl, subst, sym, ap}
use Rattle.step_answers.specs.declared.whole_op.WholeOp.TheVariants as whole
use Rattle.stream_steps.specs.Mine.{Mine, OwnCall, with_running}
use Rattle.stream_steps.specs.Maint.{EnrolsUnder, HasWhole}
use Rattle.stream_steps.specs.Add.{HasAdd, BeginsBy}
use Rattle.client_worker.specs.Working.{Work, told_by}
use Rattle.control_worker.proofs.CommandLemmas.{enrolled_has, enrolled_waits, on_err}
use Rattle.control_worker.proofs.PartLemmas.{starts_shown}
use Rattle.control_worker.proofs.RoundLemmas.{some_of}
use Rattle.control_worker.proofs.AddLemmas.{refused_barrier, begun_barrier, barrier_has, turn_same}
use Rattle.control_worker.proofs.BarrierLemmas.{starts_by, refused_by, two_lines}
use Rattle.control_worker.proofs.carrier.Carrier.pass_barrier.Given.{Over}
use Rattle.control_worker.proofs.carrier.Carrier.pass_barrier.Goals as goal
use Rattle.control_worker.proofs.carrier.Carrier.pass_barrier.Goals.{After-start_barrier, In-Some}

-- the barrier is enrolled under the turn
abbrev under : (g : Over) (c : After-start_barrier g) (o : OwnCall)
    → HasAdd c.args.t c.args.replica o (g.C.CommandSteps.mine c.args.self.now.steps)
    → EnrolsUnder c.in_ok-ticket.ticket (whole.Barrier c.args.replica) o (g.C.CommandSteps.mine c.args.self.now.steps)
    (g.C.CommandSteps.mine c.enrol_barrier.new.self.steps)
under g c o h = c.in_ok-ticket.ensures.ok c.args.replica o refl h

has : (g : Over) (c : After-start_barrier g) (o : OwnCall)
    → (h : HasAdd c.args.t c.args.replica o (g.C.CommandSteps.mine c.args.self.now.steps))
    → HasWhole c.in_ok-ticket.ticket (whole.Barrier c.args.replica) (o ∷ []) (under g c o h).whole.own
    (g.C.CommandSteps.mine c.enrol_barrier.new.self.steps)
has g c o h = enrolled_has _ _ _ _ _ (under g c o h).whole

-- and its rebuild begins
begins : (g : Over) (c : In-Some g) (o : OwnCall)
    → (h : HasAdd c.args.t c.args.replica o (g.C.CommandSteps.mine c.args.self.now.steps))
    → BeginsBy c.in-Some.begun c.args.replica (o ∷ []) (c.in_ok-ticket.ensures.ok c.args.replica o refl h).whole.own
    (g.C.CommandSteps.mine c.enrol_barrier.new.self.steps) (g.C.CommandSteps.mine c.start_barrier.new.self.steps)
begins g c o h =
    let w = c.in_ok-ticket.ensures.ok c.args.replica o refl h in
    starts_by c.in_ok-begun.field-0 c.in-Some.begun c.args.replica (o ∷ []) w.whole.own _ _ c.in-Some.is
    (c.in_ok-begun.ensures.ok c.args.replica (o ∷ []) w.whole.own (enrolled_has _ _ _ _ _ w.whole))

pub enrol_barrier-requires : goal.enrol_barrier-requires
enrol_barrier-requires g c = record { turn = (c.args.replica, c.requires.turn.0, refl, c.requires.turn.1) }

pub returns-in_err-ticket-clause-err : goal.returns-in_err-ticket-clause-err
returns-in_err-ticket-clause-err g c =
    on_err c.from_residual.result (λ o h. turn_same _ _ o _ _ h c.in_err-ticket.ensures.err)

pub start_barrier-requires-clause-waits : goal.start_barrier-requires-clause-waits
start_barrier-requires-clause-waits g c =
    let mine_enrolled = g.C.CommandSteps.mine c.enrol_barrier.new.self.steps in
    let o = c.requires.turn.0 in
    let w = c.in_ok-ticket.ensures.ok c.args.replica o refl c.requires.turn.1 in
    let same : mine_enrolled.replicas ≡ (g.C.CommandSteps.mine c.args.self.now.steps).replicas =
    ap (λ (m : Mine). m.replicas) w.whole.is in (
      c.args.replica,
      enrolled_waits c.in_ok-ticket.ticket (whole.Barrier c.args.replica) (o ∷ []) _ _ w.whole,
      subst (λ n. c.args.replica < n) (sym same) c.requires.there,
    )

pub returns-in_err-begun-clause-err : goal.returns-in_err-begun-clause-err
returns-in_err-begun-clause-err g c = on_err c.from_residual-in_err-begun.result (λ o h.
    let at = (goal.at.returns-in_err-begun-clause-err g c).After-start_barrier in
    c.in_err-begun.ensures.err c.args.replica (o ∷ []) (under g at o h).whole.own (has g at o h)
    ∙ ap (λ (m : Mine). with_running m (o ∷ [])) (under g at o h).whole.is)

pub returns-in_default-clause-ok : goal.returns-in_default-clause-ok
returns-in_default-clause-ok g c = λ o h.
    let at = (goal.at.returns-in_default-clause-ok g c).After-start_barrier in
    let w = under g at o h in
    let none : c.in_ok-begun.field-0 ≡ None = search rules in
    refused_barrier o w.whole.own _ _ _ w.whole.is (w.whole.call ∙ sym h.call) w.saw
    (refused_by c.in_ok-begun.field-0 c.args.replica (o ∷ []) w.whole.own _ _ none
    (c.in_ok-begun.ensures.ok c.args.replica (o ∷ []) w.whole.own (has g at o h)))

pub carry_barrier-requires-clause-barrier : goal.carry_barrier-requires-clause-barrier
carry_barrier-requires-clause-barrier g c = (c.args.replica, refl)

pub carry_barrier-requires-clause-shown : goal.carry_barrier-requires-clause-shown
carry_barrier-requires-clause-shown g c =
    let at = goal.at.carry_barrier-requires-clause-shown g c in
    let o = c.requires.turn.0 in
    let h = c.requires.turn.1 in
    starts_shown _ (whole.Barrier c.args.replica) (o ∷ []) (under g at.After-start_barrier o h).whole.own _ _
    (told_by g.L.Line.carried c.start_barrier.new.self) (has g at.After-start_barrier o h) (begins g at.In-Some o h).starts

pub returns-clause-source : goal.returns-clause-source
returns-clause-source g c =
    let at = (goal.at.returns-clause-source g c).After-start_barrier in
    let o = c.requires.turn.0 in
    let h = c.requires.turn.1 in
    let w = under g at o h in
    let count = subst (λ (w : Work g.row.C.Denot g.row.L.Denot). length w.channels ≡ (g.C.CommandSteps.mine w.steps).replicas)
    c.self.view_is c.self.invariant.lines in
    let from = some_of c.in_ok-begun.field-0 c.in-Some.begun _ c.in-Some.is c.in_ok-begun.ensures.begun c.args.replica (o ∷ [])
    w.whole.own (has g at o h) in
    two_lines _ c.in-Some.begun.source c.args.replica _ _ _ (ap (λ (m : Mine). m.replicas) w.whole.is) count from

pub returns-clause-begun : goal.returns-clause-begun
returns-clause-begun g c =
    let at = (goal.at.returns-clause-begun g c).After-start_barrier in
    let o = c.requires.turn.0 in
    let h = c.requires.turn.1 in
    let from = some_of c.in_ok-begun.field-0 c.in-Some.begun _ c.in-Some.is c.in_ok-begun.ensures.begun c.args.replica (o ∷ [])
    (under g at o h).whole.own (has g at o h) in
    c.carry_barrier.ensures.past c.args.replica refl c.in-Some.begun.source from.is

pub returns-clause-ok : goal.returns-clause-ok
returns-clause-ok g c = λ o h.
    let at = goal.at.returns-clause-ok g c in
    let w = under g at.After-start_barrier o h in
    let b = begins g at.In-Some o h in
    begun_barrier c.args.replica o w.whole.own _ _ _ _ w.whole.is (w.whole.call ∙ sym h.call) b.starts
    (c.carry_barrier.ensures.done (o ∷ []) b.starts.own (barrier_has _ c.args.replica _ _ _ _ (has g at.After-start_barrier o h)
    b.starts))
