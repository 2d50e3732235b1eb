use Rattle.std.proofs.Common.{[], ◌∷◌}
use Rattle.volume_model.specs.declared.command.Command.TheVariants as command
use Rattle.control_worker.proofs.CarrierLemmas.{serves_step}
use Rattle.control_worker.proofs.CommandLemmas.{awaits, on_err}
use Rattle.control_worker.proofs.InTurn.{TakesTurn, takes_turn}
use Rattle.control_worker.proofs.PurgeLemmas.{gave_none}
use Rattle.control_worker.proofs.RoundLemmas.{purge_grew, purge_left}
use Rattle.control_worker.proofs.ShownLemmas.{stays_running}
use Rattle.control_worker.proofs.carrier.Carrier.purge.Given.{Over}
use Rattle.control_worker.proofs.carrier.Carrier.purge.Goals as goal
use Rattle.control_worker.proofs.carrier.Carrier.purge.Goals.{After-await_turn}

-- the purge has the turn
turn : (g : Over) (c : After-await_turn g) → TakesTurn c.in_ok-t.t command.Purge (g.C.CommandSteps.mine c.args.self.now.steps)
    (g.C.CommandSteps.mine c.await_turn.new.self.steps)
turn g c = rw (← c.self.view_is) (takes_turn c.in_ok-t.t command.Purge tt _ _ _ c.in_ok-t.ensures.ok c.await_turn.ensures.turn)

pub returns-in_err-t-clause-err : goal.returns-in_err-t-clause-err
returns-in_err-t-clause-err g c =
    on_err c.from_residual.result
    (gave_none _ _ c.requires.idle (rw (← c.self.view_is) c.in_err-t.ensures.err))

pub invariant_of-self-2 : goal.invariant_of-self-2
invariant_of-self-2 g c =
    let e = c.in_ok-t.ensures.ok in
    serves_step g.C.CommandSteps.mine _ _ c.in_ok-t.ensures.stands.ready (stays_running (e.own ∷ []) _ _ e.is) c.self.invariant

pub await_turn-requires : goal.await_turn-requires
await_turn-requires g c =
    let e = c.in_ok-t.ensures.ok in
    record { waits = (command.Purge, e.own, awaits _ command.Purge tt _ _ e) }

pub take_all-requires : goal.take_all-requires
take_all-requires g c =
    let k = turn g (goal.at.take_all-requires g c).After-await_turn in
    record { turn = (k.own, k.has) }

pub returns-clause-ok : goal.returns-clause-ok
returns-clause-ok g c =
    purge_grew c.take_all.result _ _ _ _ (turn g (goal.at.returns-clause-ok g c).After-await_turn) c.take_all.ensures.ok

pub returns-clause-err : goal.returns-clause-err
returns-clause-err g c =
    purge_left c.take_all.result _ _ _ _ (turn g (goal.at.returns-clause-err g c).After-await_turn) c.take_all.ensures.err
