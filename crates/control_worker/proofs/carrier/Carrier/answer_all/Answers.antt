use Rattle.std.proofs.Common.{◌≡◌, ◌∙◌, arith, sym, subst}
use Rattle.control_worker.specs.Store.{IsNoBackup, TellsFault}
use Rattle.control_worker.proofs.StoreLemmas.{fault_then}
use Rattle.std.proofs.lemmas.Grind.{common_steps}
use Rattle.std.proofs.Math.ListN.{get_or}
use Rattle.control_worker.specs.Serving.{GrewByCommand, LeftUndone}
use Rattle.control_worker.proofs.CarrierLemmas.{stays_both}
use Rattle.control_worker.proofs.CommandLemmas.{on_err}
use Rattle.control_worker.proofs.InTurn.{commanded_more, commanded_some, commanded_stopped}
use Rattle.control_worker.proofs.carrier.Carrier.answer_all.Goals as goal

pub returns-in_err-rooms-clause-err : goal.returns-in_err-rooms-clause-err
returns-in_err-rooms-clause-err g c =
    on_err c.from_residual.result
    (commanded_stopped c.args.commands.now _ c.requires.idle)

pub returns-in_err-failed-clause-err : goal.returns-in_err-failed-clause-err
returns-in_err-failed-clause-err g c =
    let mine_loop = g.C.CommandSteps.mine c.loop-command.self.steps in
    let mine_answer = g.C.CommandSteps.mine c.answer_next.new.self.steps in
    let i = c.loop-command.command-index in
    let x = c.command-item.result in
    let at : get_or c.args.commands.now i x ≡ x = grind (arith, common_steps) in
    on_err c.from_residual-in_err-failed.result
    (commanded_some c.args.commands.now i x _ _ _
    c.loop-command-test.true c.loop-command.invariant.done
    (subst (λ y. LeftUndone y mine_loop mine_answer) (sym at) c.in_err-failed.ensures.err))

pub loop-command-preserved : goal.loop-command-preserved
loop-command-preserved g c =
    let mine_loop = g.C.CommandSteps.mine c.loop-command.self.steps in
    let mine_answer = g.C.CommandSteps.mine c.answer_next.new.self.steps in
    let i = c.loop-command.command-index in
    let x = c.command-item.result in
    let at : get_or c.args.commands.now i x ≡ x = grind (arith, common_steps) in
    record {
      stays = stays_both _ _ _ c.loop-command.invariant.stays
          (record { home = c.in_ok-failed.ensures.home; lines = c.answer_next.ensures.lines });
      done = commanded_more c.args.commands.now i x _ _ _
          c.loop-command-test.true c.loop-command.invariant.done
          (subst (λ y. GrewByCommand y mine_loop mine_answer) (sym at) c.in_ok-failed.ensures.ok);
      last = c.in_ok-failed.ensures.last;
      store = λ so first from far. c.in_ok-failed.ensures.store so first from (c.loop-command.invariant.store so first from far);
      fault = subst (λ f. TellsFault f (g.T.Target.faults c.args.target.now) (g.T.Target.faults c.answer_next.new.target))
          (sym c.either-so_far.ensures)
          (fault_then _ _ _ _ _ c.loop-command.invariant.later c.answer_next.ensures.later c.loop-command.invariant.fault
          c.in_ok-failed.ensures.fault);
      later = omega (arith, c.loop-command.invariant.later, c.answer_next.ensures.later);
      unasked = λ none. c.answer_next.ensures.unasked (subst IsNoBackup at (none i x c.loop-command-test.true))
          ∙ c.loop-command.invariant.unasked none;
    }
