use Rattle.std.proofs.Common.{rules, ◌≡◌, is_ok, true, false, sym, subst}
use Rattle.step_answers.specs.declared.whole_op.WholeOp.TheVariants as whole
use Rattle.stream_steps.specs.Maint.{HasWhole}
use Rattle.client_worker.specs.Working.{Work}
use Rattle.control_worker.proofs.CarrierLemmas.{serves_step, unchanged_first}
use Rattle.control_worker.proofs.PartLemmas.{ends_still, ends_stays, waits_still, ok_of}
use Rattle.control_worker.proofs.carrier.Carrier.await_end.Goals as goal

pub loop-init : goal.loop-init
loop-init g c = record {
  unchanged = unchanged_first _ _ c.self.view_is c.self.invariant;
  begun = λ past source r begun.
      subst (λ (w : Work g.row.C.Denot g.row.L.Denot). g.C.CommandSteps.begun w.steps past source r) (sym c.self.view_is) begun;
}

pub complete_whole-requires-clause-started : goal.complete_whole-requires-clause-started
complete_whole-requires-clause-started g c =
    let w = waits_still c.loop.invariant.unchanged.same c.requires.started in
    (w.0, w.1.0, w.1.1, w.1.2, w.1.3)

pub invariant_of-self : goal.invariant_of-self
invariant_of-self g c =
    let yes : is_ok c.complete_whole.result ≡ true = search rules in
    serves_step g.C.CommandSteps.mine _ _ c.complete_whole.ensures.stands.ready
    (ends_stays c.loop.invariant.unchanged.same (ok_of c.complete_whole.result yes c.complete_whole.ensures.does.ok) c.requires.started)
    c.loop.invariant.unchanged.serves

pub returns-then-is_ok-clause-done : goal.returns-then-is_ok-clause-done
returns-then-is_ok-clause-done g c =
    let yes : is_ok c.complete_whole.result ≡ true = search rules in
    ends_still c.loop.invariant.unchanged.same (ok_of c.complete_whole.result yes c.complete_whole.ensures.does.ok)

pub returns-then-is_ok-clause-past : goal.returns-then-is_ok-clause-past
returns-then-is_ok-clause-past g c = λ r turn o h source begun.
    let yes : is_ok c.complete_whole.result ≡ true = search rules in
    ok_of c.complete_whole.result yes c.complete_whole.ensures.past r source turn o
    (subst (HasWhole c.args.t (whole.Barrier r) turn o) (sym c.loop.invariant.unchanged.same) h)
    (c.loop.invariant.begun false source r begun)
