use Rattle.stream_steps.specs.Mine.{Mine, Placed}
use Rattle.control_worker.specs.Backups.{IsLast}
use Rattle.control_worker.proofs.BackupLemmas.{turn_at}
use Rattle.control_worker.proofs.StoreLemmas.{gave_back, ok_fault, ok_grew, ok_store}
use Rattle.control_worker.proofs.PartLemmas.{err_of}
use Rattle.std.proofs.Common.{is_ok, false, rules, sym, ap, subst, ◌≡◌, [], ◌∷◌, List, IfSome}
use Rattle.volume_model.specs.declared.command.Command.TheVariants as command
use Rattle.client_worker.specs.Working.{Work}
use Rattle.control_worker.proofs.CarrierLemmas.{serves_step}
use Rattle.control_worker.proofs.CommandLemmas.{awaits, on_err}
use Rattle.control_worker.proofs.InTurn.{TakesTurn, takes_turn}
use Rattle.control_worker.proofs.PurgeLemmas.{gave_none}
use Rattle.control_worker.proofs.ShownLemmas.{stays_running}
use Rattle.control_worker.proofs.carrier.Carrier.backup.Given.{Over}
use Rattle.control_worker.proofs.carrier.Carrier.backup.Goals as goal
use Rattle.control_worker.proofs.carrier.Carrier.backup.Goals.{After-deref_mut}

pub returns-in_err-t-clause-err : goal.returns-in_err-t-clause-err
returns-in_err-t-clause-err g c =
    on_err c.from_residual.result
    (gave_none _ _ c.requires.idle (rw (← c.self.view_is) c.in_err-t.ensures.err))

pub invariant_of-self-2 : goal.invariant_of-self-2
invariant_of-self-2 g c =
    let e = c.in_ok-t.ensures.ok in
    serves_step g.C.CommandSteps.mine _ _ c.in_ok-t.ensures.stands.ready (stays_running (e.own ∷ []) _ _ e.is) c.self.invariant

pub await_turn-requires : goal.await_turn-requires
await_turn-requires g c =
    let e = c.in_ok-t.ensures.ok in
    let asked = command.Backup c.args.backup.now c.args.snapshot.now in
    record { waits = (asked, e.own, awaits _ asked tt _ _ e) }

-- the backup has the turn, where the lines are lent
here : (g : Over) (c : After-deref_mut g) → TakesTurn c.in_ok-t.t (command.Backup c.args.backup.now c.args.snapshot.now)
    (g.C.CommandSteps.mine c.args.self.now.steps) (g.C.CommandSteps.mine c.self-2.inside.steps)
here g c = subst (λ (w : Work g.row.C.Denot g.row.L.Denot). TakesTurn c.in_ok-t.t
    (command.Backup c.args.backup.now c.args.snapshot.now) (g.C.CommandSteps.mine c.args.self.now.steps) (g.C.CommandSteps.mine w.steps))
    (sym c.self-2.view_is) (rw (← c.self.view_is) (takes_turn c.in_ok-t.t (command.Backup c.args.backup.now c.args.snapshot.now) tt
    _ _ _ c.in_ok-t.ensures.ok c.await_turn.ensures.turn))

pub back_up-done-requires-clause-turn : goal.back_up-done-requires-clause-turn
back_up-done-requires-clause-turn g c =
    let k = here g (goal.at.back_up-done-requires-clause-turn g c).After-deref_mut in
    (k.own, k.has)

pub back_up-done-requires-clause-last : goal.back_up-done-requires-clause-last
back_up-done-requires-clause-last g c =
    let k = here g (goal.at.back_up-done-requires-clause-last g c).After-deref_mut in
    subst (λ (ps : List Placed). IfSome c.args.last.now (IsLast g.T.Target.tells (g.T.Target.holds c.args.target.now) c.args.volume.now ps))
    (sym (ap (λ (m : Mine). m.entries) k.is)) c.requires.last

pub abandon-requires-clause-turn : goal.abandon-requires-clause-turn
abandon-requires-clause-turn g c =
    let k = here g (goal.at.abandon-requires-clause-turn g c).After-deref_mut in
    let failed : is_ok c.back_up-done.result ≡ false = search rules in
    let goes = err_of c.back_up-done.result failed c.back_up-done.ensures.err in (
      command.Backup c.args.backup.now c.args.snapshot.now,
      k.own,
      turn_at c.in_ok-t.t (command.Backup c.args.backup.now c.args.snapshot.now) k.own _ _ goes k.has,
      tt,
    )

pub returns-then-is_err-clause-err : goal.returns-then-is_err-clause-err
returns-then-is_err-clause-err g c =
    let k = here g (goal.at.returns-then-is_err-clause-err g c).After-deref_mut in
    let failed : is_ok c.back_up-done.result ≡ false = search rules in
    let goes = err_of c.back_up-done.result failed c.back_up-done.ensures.err in
    on_err c.back_up-done.result (gave_back _ _ _ _ _ _ k goes c.abandon.ensures.gone)

pub returns-else-is_err-clause-ok : goal.returns-else-is_err-clause-ok
returns-else-is_err-clause-ok g c =
    ok_grew c.back_up-done.result _ _ _ _ _ _ _ _ _ _ _ _ (here g (goal.at.returns-else-is_err-clause-ok g c).After-deref_mut)
    c.back_up-done.ensures.ok

pub returns-else-is_err-clause-store : goal.returns-else-is_err-clause-store
returns-else-is_err-clause-store g c =
    ok_store c.back_up-done.result _ _ _ _ _ _ _ _ _ _ _ _ (here g (goal.at.returns-else-is_err-clause-store g c).After-deref_mut)
    c.back_up-done.ensures.ok

pub returns-else-is_err-clause-fault : goal.returns-else-is_err-clause-fault
returns-else-is_err-clause-fault g c =
    ok_fault c.back_up-done.result _ _ _ _ _ _ _ _ _ _ _ _ (here g (goal.at.returns-else-is_err-clause-fault g c).After-deref_mut)
    c.back_up-done.ensures.ok
