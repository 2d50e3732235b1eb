use Rattle.std.proofs.Common.{rules, ◌≡◌, ◌∙◌, [], ◌∷◌, is_ok, false, subst, sym, refl, ap}
use Rattle.step_answers.specs.Asked.{command_of}
use Rattle.volume_model.specs.declared.call.Call.TheVariants as call
use Rattle.stream_steps.specs.Mine.{with_running}
use Rattle.stream_steps.specs.Steps.{EnrolsAt}
use Rattle.stream_steps.specs.Maint.{HasTurn}
use Rattle.client_worker.specs.Working.{Work}
use Rattle.control_worker.specs.Whole.{TurnBegins}
use Rattle.control_worker.proofs.CarrierLemmas.{serves_step}
use Rattle.control_worker.proofs.CommandLemmas.{awaits, has_turn, no_add, with_turn, enrolled_waits, enrolled_has, turn_grew, turn_left}
use Rattle.control_worker.proofs.CommandLemmas.{turn_there, under_left, on_err}
use Rattle.control_worker.proofs.PartLemmas.{err_of}
use Rattle.control_worker.proofs.ShownLemmas.{stays_running}
use Rattle.control_worker.proofs.carrier.Carrier.under_turn.Given.{Over}
use Rattle.control_worker.proofs.carrier.Carrier.under_turn.Goals as goal
use Rattle.control_worker.proofs.carrier.Carrier.under_turn.Goals.{After-await_turn}

-- the command is enrolled
enrolled : (g : Over) (c : After-await_turn g) → EnrolsAt c.in_ok-t.t (call.Command (command_of c.args.op))
    (g.C.CommandSteps.mine c.args.self.now.steps) (g.C.CommandSteps.mine c.enrol_maint.new.self)
enrolled g c = rw (← c.self.view_is, ← c.command.ensures) c.in_ok-t.ensures.ok

-- and has the turn then
begins : (g : Over) (c : After-await_turn g)
    → TurnBegins (enrolled g c).own (g.C.CommandSteps.mine c.enrol_maint.new.self) (g.C.CommandSteps.mine c.await_turn.new.self.steps)
begins g c =
    let e = enrolled g c in
    c.await_turn.ensures.turn (command_of c.args.op) e.own (awaits _ (command_of c.args.op) c.requires.wants.0 _ _ e)

turn : (g : Over) (c : After-await_turn g) → HasTurn c.in_ok-t.t (command_of c.args.op) (with_turn (enrolled g c).own)
    (g.C.CommandSteps.mine c.await_turn.new.self.steps)
turn g c =
    let e = enrolled g c in
    has_turn _ _ e.own _ _ (awaits _ (command_of c.args.op) c.requires.wants.0 _ _ e) (begins g c)

pub invariant_of-self-2 : goal.invariant_of-self-2
invariant_of-self-2 g c =
    let e = c.in_ok-t.ensures.ok in
    serves_step g.C.CommandSteps.mine _ _ c.in_ok-t.ensures.stands.ready (stays_running (e.own ∷ []) _ _ e.is) c.self.invariant

pub enrol_under-requires-clause-turn : goal.enrol_under-requires-clause-turn
enrol_under-requires-clause-turn g c =
    let at = (goal.at.enrol_under-requires-clause-turn g c).After-await_turn in
    (with_turn (enrolled g at).own, turn g at)

pub returns-in_err-ticket-clause-err : goal.returns-in_err-ticket-clause-err
returns-in_err-ticket-clause-err g c =
    let at = (goal.at.returns-in_err-ticket-clause-err g c).After-await_turn in
    on_err c.from_residual-in_err-ticket.result
    (turn_left c.in_ok-t.t (command_of c.args.op) _ _ _ _ c.requires.idle (enrolled g at) (begins g at) c.in_err-ticket.ensures.err)

pub take_up-done-requires-clause-waits : goal.take_up-done-requires-clause-waits
take_up-done-requires-clause-waits g c =
    let at = (goal.at.take_up-done-requires-clause-waits g c).After-await_turn in
    let w = c.in_ok-ticket.ensures.ok (with_turn (enrolled g at).own) (turn g at) in
    enrolled_waits c.in_ok-ticket.ticket c.args.op (with_turn (enrolled g at).own ∷ []) _ _ w.whole

pub abandon-requires-clause-turn : goal.abandon-requires-clause-turn
abandon-requires-clause-turn g c =
    let at = (goal.at.abandon-requires-clause-turn g c).After-await_turn in
    let o = with_turn (enrolled g at).own in
    let mine_turn = g.C.CommandSteps.mine c.await_turn.new.self.steps in
    let mine_under = g.C.CommandSteps.mine c.enrol_under.new.self.steps in
    let w = c.in_ok-ticket.ensures.ok o (turn g at) in
    let no : is_ok c.take_up-done.result ≡ false = search rules in
    let left = err_of c.take_up-done.result no c.take_up-done.ensures.err (o ∷ []) w.whole.own (enrolled_has _ _ _ _ _ w.whole) in (
      command_of c.args.op,
      o,
      subst (λ (w : Work g.row.C.Denot g.row.L.Denot). HasTurn c.in_ok-t.t (command_of c.args.op) o (g.C.CommandSteps.mine w.steps))
          (sym c.self-2.view_is) (turn_there _ c.in_ok-ticket.ticket c.args.op o _ _ _ (turn g at) w left),
      no_add c.args.op c.requires.wants.1,
    )

pub returns-then-is_err-clause-err : goal.returns-then-is_err-clause-err
returns-then-is_err-clause-err g c =
    let at = (goal.at.returns-then-is_err-clause-err g c).After-await_turn in
    let o = with_turn (enrolled g at).own in
    let mine_turn = g.C.CommandSteps.mine c.await_turn.new.self.steps in
    let mine_under = g.C.CommandSteps.mine c.enrol_under.new.self.steps in
    let w = c.in_ok-ticket.ensures.ok o (turn g at) in
    let no : is_ok c.take_up-done.result ≡ false = search rules in
    let left = err_of c.take_up-done.result no c.take_up-done.ensures.err (o ∷ []) w.whole.own (enrolled_has _ _ _ _ _ w.whole) in
    on_err c.take_up-done.result (c.abandon.ensures.gone
    ∙ ap (λ (w : Work g.row.C.Denot g.row.L.Denot). with_running (g.C.CommandSteps.mine w.steps) []) c.self-2.view_is
    ∙ under_left _ c.args.op _ _ _ _ w left
    ∙ turn_left c.in_ok-t.t (command_of c.args.op) _ _ _ (with_running mine_turn []) c.requires.idle (enrolled g at) (begins g at) refl)

pub returns-else-is_err-clause-ok : goal.returns-else-is_err-clause-ok
returns-else-is_err-clause-ok g c =
    let at = (goal.at.returns-else-is_err-clause-ok g c).After-await_turn in
    let w = c.in_ok-ticket.ensures.ok (with_turn (enrolled g at).own) (turn g at) in
    turn_grew c.take_up-done.result c.in_ok-t.t c.in_ok-ticket.ticket c.args.op c.requires.wants.1 _ _ _ _ _ (enrolled g at)
    (begins g at) w c.take_up-done.ensures.ok
