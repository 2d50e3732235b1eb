use Rattle.control_worker.proofs.InTurn.{none_open}
use Rattle.control_worker.proofs.worker.ControlWorker.run_control.Goals as goal

pub invariant_of-self : goal.invariant_of-self
invariant_of-self g c =
    none_open c.answer_all.result c.args.commands.now _ _ c.answer_all.ensures.ok c.answer_all.ensures.err
