use Rattle.std.proofs.Common.{false, subst}
use Rattle.stream_steps.specs.Maint.{HasWhole}
use Rattle.control_worker.proofs.CarrierLemmas.{stays_both}
use Rattle.control_worker.proofs.PartLemmas.{ends_behind}
use Rattle.control_worker.proofs.carrier.Carrier.carry_filled.Goals as goal

pub await_end-requires : goal.await_end-requires
await_end-requires g c = record { started = (c.args.whole.now.op, c.ask_all.ensures.shown.started) }

pub returns-clause-stays : goal.returns-clause-stays
returns-clause-stays g c = stays_both c.args.self.now c.ask_all.new.self c.await_end.new.self c.ask_all.ensures.keeps.stays
    c.await_end.ensures.stays

pub returns-clause-done : goal.returns-clause-done
returns-clause-done g c = ends_behind _ c.args.whole.now.op _ _ _ c.ask_all.ensures.goes c.await_end.ensures.done

pub returns-clause-past : goal.returns-clause-past
returns-clause-past g c = λ r is source begun.
    let w = c.ask_all.ensures.shown.started in
    c.await_end.ensures.past r w.0 w.1
    (subst (λ op. HasWhole c.args.whole.now.ticket op w.0 w.1 (g.C.CommandSteps.mine c.ask_all.new.self.steps)) is w.2)
    source (c.ask_all.ensures.keeps.begun false source r begun)
