use Rattle.std.proofs.Common.{rules, ◌∷◌, [], ◌++◌}
use Rattle.volume_model.specs.declared.entry.Entry.TheVariants as entry
use Rattle.control_worker.proofs.AnswerLemmas.{grew_now}
use Rattle.control_worker.proofs.CarrierLemmas.{serves_step}
use Rattle.control_worker.proofs.CommandLemmas.{on_err}
use Rattle.control_worker.proofs.InTurn.{left_of, gave_up}
use Rattle.control_worker.proofs.PurgeLemmas.{gave_none, left_none}
use Rattle.control_worker.proofs.ShownLemmas.{stays_answer}
use Rattle.control_worker.proofs.carrier.Carrier.answer.Goals as goal

pub returns-in_err-answer_at_once-in-Fail-clause-err : goal.returns-in_err-answer_at_once-in-Fail-clause-err
returns-in_err-answer_at_once-in-Fail-clause-err g c =
    on_err c.from_residual.result
    (left_of c.args.command.now _ _
    (gave_none _ _ c.requires.idle (rw (← c.self.view_is) c.in_err-answer_at_once-in-Fail.ensures.err)))

pub invariant_of-self-in-Fail : goal.invariant_of-self-in-Fail
invariant_of-self-in-Fail g c =
    let s = c.in_ok-answer_at_once-in-Fail.ensures.ok in
    serves_step g.C.CommandSteps.mine _ _ c.answer_at_once.ensures.stands.ready
    (stays_answer c.args.command.now s.spot s.answer (s.marks ++ entry.Answer s.answer ∷ []) _ _ s.is s.call) c.self.invariant

pub returns-in_ok-answer_at_once-in-Fail-clause-ok : goal.returns-in_ok-answer_at_once-in-Fail-clause-ok
returns-in_ok-answer_at_once-in-Fail-clause-ok g c =
    rw (← c.self.view_is) (grew_now c.args.command.now _ _ (search rules) c.in_ok-answer_at_once-in-Fail.ensures.ok)

pub returns-in-Snapshot-clause-err : goal.returns-in-Snapshot-clause-err
returns-in-Snapshot-clause-err g c =
    gave_up c.snapshot.result c.args.command.now _ _ (left_none c.snapshot.result _ _ c.requires.idle c.snapshot.ensures.err)

pub returns-in-Remove-clause-err : goal.returns-in-Remove-clause-err
returns-in-Remove-clause-err g c =
    gave_up c.under_turn.result c.args.command.now _ _ (left_none c.under_turn.result _ _ c.requires.idle c.under_turn.ensures.err)

pub returns-in-Revert-clause-err : goal.returns-in-Revert-clause-err
returns-in-Revert-clause-err g c =
    let done = c.under_turn-in-Revert in
    gave_up done.result c.args.command.now _ _ (left_none done.result _ _ c.requires.idle done.ensures.err)

pub returns-in-Purge-clause-err : goal.returns-in-Purge-clause-err
returns-in-Purge-clause-err g c = gave_up c.purge.result c.args.command.now _ _ c.purge.ensures.err
