use Rattle.std.proofs.Common.{rules, ◌≡◌, ◌∙◌, ◌<◌, [], ◌∷◌, length, is_ok, true, false, ap, sym, subst}
use Rattle.volume_model.specs.declared.command.Command.TheVariants as command
use Rattle.stream_steps.specs.Mine.{Mine}
use Rattle.stream_steps.specs.Add.{HasAdd, LeavesAdd}
use Rattle.client_worker.specs.Working.{Work}
use Rattle.control_worker.specs.Adding.{GoesAdding}
use Rattle.control_worker.proofs.AddLemmas.{on_ok, not_ok, adding_has, grew_added, left_added, leaves_stays}
use Rattle.control_worker.proofs.CarrierLemmas.{serves_step}
use Rattle.control_worker.proofs.CommandLemmas.{awaits, on_err}
use Rattle.control_worker.proofs.InTurn.{TakesTurn, takes_turn, left_of}
use Rattle.control_worker.proofs.PartLemmas.{ok_of, err_of}
use Rattle.control_worker.proofs.PurgeLemmas.{gave_none}
use Rattle.control_worker.proofs.ShownLemmas.{stays_running}
use Rattle.control_worker.proofs.carrier.Carrier.add.Given.{Over}
use Rattle.control_worker.proofs.carrier.Carrier.add.Goals as goal
use Rattle.control_worker.proofs.carrier.Carrier.add.Goals.{After-await_turn, After-abandon_add}

-- the add has the turn
turn : (g : Over) (c : After-await_turn g) → TakesTurn c.in_ok-t.t (command.Add c.args.replica)
    (g.C.CommandSteps.mine c.args.self.now.steps) (g.C.CommandSteps.mine c.await_turn.new.self.steps)
turn g c = rw (← c.self.view_is)
    (takes_turn c.in_ok-t.t (command.Add c.args.replica) tt _ _ _ c.in_ok-t.ensures.ok c.await_turn.ensures.turn)

-- memory ran out
goes : (g : Over) (c : After-abandon_add g) → (k : TakesTurn c.in_ok-t.t (command.Add c.args.replica)
    (g.C.CommandSteps.mine c.args.self.now.steps) (g.C.CommandSteps.mine c.await_turn.new.self.steps))
    → GoesAdding k.own (g.C.CommandSteps.mine c.await_turn.new.self.steps) (g.C.CommandSteps.mine c.self-2.inside.steps)
goes g c k =
    let failed : is_ok c.rebuild-done.result ≡ false = search rules in
    subst (λ (w : Work g.row.C.Denot g.row.L.Denot). GoesAdding k.own (g.C.CommandSteps.mine c.await_turn.new.self.steps)
    (g.C.CommandSteps.mine w.steps)) (sym c.self-2.view_is)
    (err_of c.rebuild-done.result failed c.rebuild-done.ensures.err k.own k.has)

leaves : (g : Over) (c : After-abandon_add g) → (k : TakesTurn c.in_ok-t.t (command.Add c.args.replica)
    (g.C.CommandSteps.mine c.args.self.now.steps) (g.C.CommandSteps.mine c.await_turn.new.self.steps))
    → LeavesAdd k.own (g.C.CommandSteps.mine c.self-2.inside.steps) (g.C.CommandSteps.mine c.abandon_add.new.self)
leaves g c k =
    c.abandon_add.ensures.left c.args.replica k.own
    (adding_has c.in_ok-t.t c.args.replica k.own _ _ k.has (goes g c k))

pub returns-in_err-t-clause-err : goal.returns-in_err-t-clause-err
returns-in_err-t-clause-err g c =
    on_err c.from_residual.result
    (left_of (command.Add c.args.replica) _ _ (gave_none _ _ c.requires.idle (rw (← c.self.view_is) c.in_err-t.ensures.err)))

pub invariant_of-self-2 : goal.invariant_of-self-2
invariant_of-self-2 g c =
    let e = c.in_ok-t.ensures.ok in
    serves_step g.C.CommandSteps.mine _ _ c.in_ok-t.ensures.stands.ready (stays_running (e.own ∷ []) _ _ e.is) c.self.invariant

pub await_turn-requires : goal.await_turn-requires
await_turn-requires g c =
    let e = c.in_ok-t.ensures.ok in
    record { waits = (command.Add c.args.replica, e.own, awaits _ (command.Add c.args.replica) tt _ _ e) }

pub rebuild-done-requires-clause-there : goal.rebuild-done-requires-clause-there
rebuild-done-requires-clause-there g c =
    let k = turn g (goal.at.rebuild-done-requires-clause-there g c).After-await_turn in
    let count = subst (λ (w : Work g.row.C.Denot g.row.L.Denot). length w.channels ≡ (g.C.CommandSteps.mine w.steps).replicas)
    c.self.view_is c.self.invariant.lines in
    subst (λ n. c.args.replica < n) (count ∙ sym (ap (λ (m : Mine). m.replicas) k.is)) c.requires.line

pub rebuild-done-requires-clause-turn : goal.rebuild-done-requires-clause-turn
rebuild-done-requires-clause-turn g c =
    let k = turn g (goal.at.rebuild-done-requires-clause-turn g c).After-await_turn in
    (k.own, k.has)

pub abandon_add-requires-clause-turn : goal.abandon_add-requires-clause-turn
abandon_add-requires-clause-turn g c =
    let k = turn g (goal.at.abandon_add-requires-clause-turn g c).After-await_turn in
    let failed : is_ok c.rebuild-done.result ≡ false = search rules in (
      c.args.replica,
      k.own,
      subst (λ (w : Work g.row.C.Denot g.row.L.Denot). HasAdd c.in_ok-t.t c.args.replica k.own (g.C.CommandSteps.mine w.steps))
          (sym c.self-2.view_is)
          (adding_has c.in_ok-t.t c.args.replica k.own _ _ k.has
          (err_of c.rebuild-done.result failed c.rebuild-done.ensures.err k.own k.has)),
    )

pub invariant_of-self-then-is_err : goal.invariant_of-self-then-is_err
invariant_of-self-then-is_err g c =
    let at = goal.at.invariant_of-self-then-is_err g c in
    let k = turn g at.After-await_turn in
    serves_step g.C.CommandSteps.mine _ _ c.abandon_add.ensures.ready
    (leaves_stays c.args.replica k.own _ _ k.call (leaves g at.After-abandon_add k)) c.self-2.invariant

pub returns-then-is_err-clause-home : goal.returns-then-is_err-clause-home
returns-then-is_err-clause-home g c =
    let failed : is_ok c.rebuild-done.result ≡ false = search rules in
    not_ok c.rebuild-done.result _ failed

pub returns-then-is_err-clause-err : goal.returns-then-is_err-clause-err
returns-then-is_err-clause-err g c =
    let at = goal.at.returns-then-is_err-clause-err g c in
    let k = turn g at.After-await_turn in
    on_err c.rebuild-done.result
    (left_added c.args.replica k.own _ _ _ k.is k.call k.saw _ (goes g at.After-abandon_add k) (leaves g at.After-abandon_add k))

pub returns-else-is_err-clause-home : goal.returns-else-is_err-clause-home
returns-else-is_err-clause-home g c =
    on_ok c.rebuild-done.result (c.rebuild-done.ensures.stays.home ∙ c.await_turn.ensures.stays.home ∙ c.enrol_maint.ensures.stands.home
    ∙ ap (λ (w : Work g.row.C.Denot g.row.L.Denot). g.C.CommandSteps.home w.steps) c.self.view_is)

pub returns-else-is_err-clause-ok : goal.returns-else-is_err-clause-ok
returns-else-is_err-clause-ok g c =
    let k = turn g (goal.at.returns-else-is_err-clause-ok g c).After-await_turn in
    let done : is_ok c.rebuild-done.result ≡ true = search rules in
    on_ok c.rebuild-done.result
    (grew_added c.args.replica k.own _ _ _ k.is k.call k.saw
    (ok_of c.rebuild-done.result done c.rebuild-done.ensures.ok k.own k.has))
