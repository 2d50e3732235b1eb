use Rattle.std.proofs.Common.{rules, ◌≡◌, [], ◌∷◌, true, false, subst, sym, None}
use Rattle.volume_model.specs.declared.command.Command.TheVariants as command
use Rattle.step_answers.specs.declared.whole_op.WholeOp.TheVariants as whole
use Rattle.stream_steps.specs.Mine.{OwnCall}
use Rattle.stream_steps.specs.Maint.{HasTurn, HasWhole, EnrolsUnder}
use Rattle.client_worker.specs.Working.{Work}
use Rattle.control_worker.specs.Whole.{GoesOn, StartsOr}
use Rattle.control_worker.proofs.CarrierLemmas.{serves_step}
use Rattle.control_worker.proofs.CommandLemmas.{enrolled_has, enrolled_waits, on_err}
use Rattle.control_worker.proofs.PartLemmas.{started_whole, starts_shown}
use Rattle.control_worker.proofs.RoundLemmas.{some_of, turn_there, out_same, out_left, out_refused, out_done}
use Rattle.control_worker.proofs.ShownLemmas.{stays_running}
use Rattle.control_worker.proofs.carrier.Carrier.take_out.Given.{Over}
use Rattle.control_worker.proofs.carrier.Carrier.take_out.Goals as goal
use Rattle.control_worker.proofs.carrier.Carrier.take_out.Goals.{After-enrol_whole, In-Some}

-- lines may have failed while its pages were folded
folds : (g : Over) (c : After-enrol_whole g)
    → GoesOn (g.C.CommandSteps.mine c.args.self.now.steps) (g.C.CommandSteps.mine c.self.inside.steps)
folds g c =
    subst (λ (w : Work g.row.C.Denot g.row.L.Denot). GoesOn (g.C.CommandSteps.mine c.args.self.now.steps) (g.C.CommandSteps.mine w.steps))
    (sym c.self.view_is) c.fold_before.ensures.goes

-- it is enrolled under the turn
under : (g : Over) (c : In-Some g) (o : OwnCall)
    → HasTurn c.args.t command.Purge o (g.C.CommandSteps.mine c.args.self.now.steps)
    → EnrolsUnder c.in-Some.ticket (whole.Purge c.args.part) o (g.C.CommandSteps.mine c.self.inside.steps)
    (g.C.CommandSteps.mine c.enrol_whole.new.self)
under g c o h =
    some_of c.in_ok-ticket.field-0 c.in-Some.ticket _ c.in-Some.is c.in_ok-ticket.ensures.ok.some o
    (turn_there c.args.t o (g.C.CommandSteps.mine c.args.self.now.steps) (g.C.CommandSteps.mine c.self.inside.steps) c.args.part h
    (subst (λ (w : Work g.row.C.Denot g.row.L.Denot). GoesOn (g.C.CommandSteps.mine c.args.self.now.steps) (g.C.CommandSteps.mine w.steps))
    (sym c.self.view_is) c.fold_before.ensures.goes))

-- and waits there for its start
has : (g : Over) (c : In-Some g) (o : OwnCall)
    → (h : HasTurn c.args.t command.Purge o (g.C.CommandSteps.mine c.args.self.now.steps))
    → HasWhole c.in-Some.ticket (whole.Purge c.args.part) (o ∷ []) (under g c o h).whole.own
    (g.C.CommandSteps.mine c.enrol_whole.new.self)
has g c o h =
    enrolled_has c.in-Some.ticket (whole.Purge c.args.part) (o ∷ []) _ _ (under g c o h).whole

pub returns-in_err-ticket-clause-err : goal.returns-in_err-ticket-clause-err
returns-in_err-ticket-clause-err g c =
    on_err c.from_residual.result
    (λ o h. out_same c.args.t o _ _ c.args.part h (folds g (goal.at.returns-in_err-ticket-clause-err g c).After-enrol_whole) _
    c.in_err-ticket.ensures.err)

pub returns-in_default-clause-ok : goal.returns-in_default-clause-ok
returns-in_default-clause-ok g c = λ o h.
    let none : c.in_ok-ticket.field-0 ≡ None = search rules in
    out_same c.args.t o _ _ c.args.part h (folds g (goal.at.returns-in_default-clause-ok g c).After-enrol_whole) _
    (c.in_ok-ticket.ensures.ok.none none)

pub invariant_of-self-2 : goal.invariant_of-self-2
invariant_of-self-2 g c =
    let w = under g (goal.at.invariant_of-self-2 g c).In-Some c.requires.turn.0 c.requires.turn.1 in
    serves_step g.C.CommandSteps.mine _ _ c.enrol_whole.ensures.stands.ready
    (stays_running (c.requires.turn.0 ∷ w.whole.own ∷ []) _ _ w.whole.is) c.self.invariant

pub start-requires : goal.start-requires
start-requires g c =
    let w = under g (goal.at.start-requires g c).In-Some c.requires.turn.0 c.requires.turn.1 in
    record {
      waits = (
        whole.Purge c.args.part,
        enrolled_waits c.in-Some.ticket (whole.Purge c.args.part) (c.requires.turn.0 ∷ []) _ _ w.whole,
        tt,
      );
    }

pub returns-in_err-start-clause-err : goal.returns-in_err-start-clause-err
returns-in_err-start-clause-err g c = on_err c.from_residual-in_err-start.result (λ o h.
    let at = goal.at.returns-in_err-start-clause-err g c in
    let w = under g at.In-Some o h in
    out_left c.args.t o _ _ c.args.part h (folds g at.After-enrol_whole) c.in-Some.ticket _ w _
    (c.in_err-start.ensures.err (whole.Purge c.args.part) (o ∷ []) w.whole.own (has g at.In-Some o h)))

pub returns-then-not-branch-clause-ok : goal.returns-then-not-branch-clause-ok
returns-then-not-branch-clause-ok g c = λ o h.
    let at = goal.at.returns-then-not-branch-clause-ok g c in
    let w = under g at.In-Some o h in
    let no : c.in_ok-start.field-0 ≡ false = search rules in
    let mine_enrolled = g.C.CommandSteps.mine c.enrol_whole.new.self in
    let mine_started = g.C.CommandSteps.mine c.start.new.self.steps in
    out_refused c.args.t o _ _ c.args.part h (folds g at.After-enrol_whole) c.in-Some.ticket _ w _
    (subst (λ x. StartsOr x (whole.Purge c.args.part) (o ∷ []) w.whole.own mine_enrolled mine_started) no
    (c.in_ok-start.ensures.ok (whole.Purge c.args.part) (o ∷ []) w.whole.own (has g at.In-Some o h)))

pub carry_whole-requires : goal.carry_whole-requires
carry_whole-requires g c =
    let at = (goal.at.carry_whole-requires g c).In-Some in
    let o = c.requires.turn.0 in
    let w = under g at o c.requires.turn.1 in
    let yes : c.in_ok-start.field-0 ≡ true = search rules in
    let mine_enrolled = g.C.CommandSteps.mine c.enrol_whole.new.self in
    let mine_started = g.C.CommandSteps.mine c.start.new.self.steps in
    record {
      shown = starts_shown c.in-Some.ticket (whole.Purge c.args.part) (o ∷ []) w.whole.own _ _ _ (has g at o c.requires.turn.1)
          (subst (λ x. StartsOr x (whole.Purge c.args.part) (o ∷ []) w.whole.own mine_enrolled mine_started) yes
          (c.in_ok-start.ensures.ok (whole.Purge c.args.part) (o ∷ []) w.whole.own (has g at o c.requires.turn.1)));
    }

pub returns-clause-ok : goal.returns-clause-ok
returns-clause-ok g c = λ o h.
    let at = goal.at.returns-clause-ok g c in
    let w = under g at.In-Some o h in
    let yes : c.in_ok-start.field-0 ≡ true = search rules in
    let mine_enrolled = g.C.CommandSteps.mine c.enrol_whole.new.self in
    let mine_started = g.C.CommandSteps.mine c.start.new.self.steps in
    let s = subst (λ x. StartsOr x (whole.Purge c.args.part) (o ∷ []) w.whole.own mine_enrolled mine_started) yes
    (c.in_ok-start.ensures.ok (whole.Purge c.args.part) (o ∷ []) w.whole.own (has g at.In-Some o h)) in
    out_done c.args.t o _ _ c.args.part h (folds g at.After-enrol_whole) c.in-Some.ticket _ w _ _ s
    (c.carry_whole.ensures.done (o ∷ []) s.own
    (started_whole c.in-Some.ticket (whole.Purge c.args.part) (o ∷ []) w.whole.own _ _ (has g at.In-Some o h) s))
    c.requires.next
