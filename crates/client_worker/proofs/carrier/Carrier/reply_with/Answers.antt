use Rattle.std.proofs.Common.{◌≡◌, map, ap, sym, subst, ◌∙◌}
use Rattle.stream_steps.specs.Mine.{IsOwn}
use Rattle.client_worker.specs.Asking.{TellsFrame, WasAsked}
use Rattle.client_worker.specs.Working.{Work, told_by}
use Rattle.client_worker.proofs.Acked.{shown_acked, replicas_acked, asked_acked}
use Rattle.client_worker.proofs.carrier.Carrier.reply_with.Given.{Over}
use Rattle.client_worker.proofs.carrier.Carrier.reply_with.Goals.{After-after}
use Rattle.client_worker.proofs.carrier.Carrier.reply_with.Goals as goal

-- nothing has changed for the stream when the reply came through
steps_same : (g : Over) (c : After-after g) → c.self.inside.steps ≡ c.args.self.now.steps
steps_same g c = ap (λ (w : Work g.row.C.Denot g.row.L.Denot). w.steps) c.self.view_is ∙ c.in_default.ensures.came.same

still_own : (g : Over) (c : After-after g) → IsOwn c.args.t c.requires.own.0 (g.C.ClientSteps.mine c.self.inside.steps)
still_own g c =
    subst (IsOwn c.args.t c.requires.own.0) (ap g.C.ClientSteps.mine (sym (steps_same g c))) c.requires.own.1

pub invariant_of-self : goal.invariant_of-self
invariant_of-self g c =
    let has = c.self.invariant in
    let op = c.requires.own in
    let step = c.ack-acked in
    let modes = g.C.ClientSteps.modes step.new.self in
    let before = g.C.ClientSteps.mine c.self.inside.steps in
    let after = g.C.ClientSteps.mine step.new.self in
    let before_told = told_by g.L.Line.carried c.args.self.now in
    let told = subst (λ (w : Work g.row.C.Denot g.row.L.Denot).
    TellsFrame before_told (told_by g.L.Line.carried w) c.args.replica c.args.reply.now) (sym c.self.view_is)
    c.in_default.ensures.came.carried in
    record {
      ready = step.ensures.stands.ready;
      few = has.few;
      lines = has.lines ∙ sym (replicas_acked c.args.t c.args.replica modes op.0 before after (still_own g c) step.result.answer
          step.ensures.does.ok step.ensures.does.err);
      shown = shown_acked c.args.t c.args.replica modes op.0 before after (still_own g c)
          (map (λ x. g.L.Line.count x.line) c.self.inside.channels.items) before_told
          (map (λ x. g.L.Line.carried x.line) c.self.inside.channels.items) c.args.reply.now op.4 told op.2.0 has.shown
          step.result.answer step.ensures.does.ok step.ensures.does.err;
    }

pub returns-clause-asked : goal.returns-clause-asked
returns-clause-asked g c =
    let op = c.requires.own in
    let step = c.ack-acked in
    let modes = g.C.ClientSteps.modes step.new.self in
    let before = g.C.ClientSteps.mine c.self.inside.steps in
    let after = g.C.ClientSteps.mine step.new.self in
    subst (WasAsked modes c.args.replica (g.C.ClientSteps.mine c.args.self.now.steps) after) (sym c.after.ensures)
    (rw (← steps_same g c) (asked_acked c.args.t c.args.replica modes op.0 before after (still_own g c) step.result.answer
    step.result.next op.3 step.ensures.next step.ensures.does.ok step.ensures.does.why step.ensures.does.err))
