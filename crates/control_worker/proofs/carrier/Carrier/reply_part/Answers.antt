use Rattle.std.proofs.Common.{inl, pos, sym, subst}
use Rattle.step_answers.specs.declared.parts.Part.TheVariants.{Acked}
use Rattle.client_worker.specs.Asking.{TellsFrame}
use Rattle.client_worker.specs.Working.{Work, told_by}
use Rattle.control_worker.specs.Carrying.{PassesOr}
use Rattle.control_worker.specs.Whole.{KeepsWhole, PartsShown}
use Rattle.control_worker.proofs.CarrierLemmas.{serves_step}
use Rattle.control_worker.proofs.FrameLemmas.{replies_now}
use Rattle.control_worker.proofs.PartLemmas.{keeps_on, keeps_then, keeps_set, stays_set, not_acked, part_replied, shown_on, shown_acks}
use Rattle.control_worker.proofs.carrier.Carrier.reply_part.Given.{Over}
use Rattle.control_worker.proofs.carrier.Carrier.reply_part.Goals as goal
use Rattle.control_worker.proofs.carrier.Carrier.reply_part.Goals.{After-ack_whole}

-- behind the carry: what is shown, and what was told
shown : (g : Over) (c : After-ack_whole g) → PartsShown c.args.whole.now.ticket c.args.whole.now.op
    (g.C.CommandSteps.mine c.self.inside.steps)
    (told_by {C = g.row.C.Denot} g.L.Line.carried (record { steps = c.self.inside.steps; channels = c.self.inside.channels.items }))
shown g c =
    subst (λ (w : Work g.row.C.Denot g.row.L.Denot). PartsShown c.args.whole.now.ticket c.args.whole.now.op
    (g.C.CommandSteps.mine w.steps) (told_by g.L.Line.carried w)) (sym c.self.view_is)
    (shown_on _ _ _ _ _ _ c.pass.ensures.goes c.pass.ensures.told c.requires.shown)

pub invariant_of-self : goal.invariant_of-self
invariant_of-self g c =
    let at = (goal.at.invariant_of-self g c).After-ack_whole in
    serves_step g.C.CommandSteps.mine _ _ c.ack_whole.ensures.stands.ready
    (stays_set c.ack_whole.result Acked _ c.args.replica _ _ _ (shown g at).started c.ack_whole.ensures.does.ok
    c.ack_whole.ensures.does.err) c.self.invariant

pub returns-then-pass-clause-shown : goal.returns-then-pass-clause-shown
returns-then-pass-clause-shown g c =
    let at = (goal.at.returns-then-pass-clause-shown g c).After-ack_whole in
    let before = told_by g.L.Line.carried c.args.self.now in
    let came = subst (λ b. PassesOr g.C.CommandSteps.modes g.L.Line.carried c.args.replica c.encode_header-reply.result b
    c.args.self.now c.pass.new.self) c.if-pass.true c.pass.ensures.passes in
    shown_acks c.ack_whole.result _ c.args.replica c.args.seq _ _ _ before _
    c.encode_header-reply.result c.requires.asked
    (replies_now c.args.seq (pos 0) c.encode_header-reply.result c.done_head.result c.done_head.ensures.value
    c.encode_header-reply.ensures)
    (subst (λ (w : Work g.row.C.Denot g.row.L.Denot). TellsFrame before (told_by g.L.Line.carried w) c.args.replica
    c.encode_header-reply.result) (sym c.self.view_is) came.carried)
    c.ack_whole.ensures.does.ok c.ack_whole.ensures.does.err (shown g at)

pub returns-then-pass-clause-goes : goal.returns-then-pass-clause-goes
returns-then-pass-clause-goes g c =
    let mine_before = g.C.CommandSteps.mine c.args.self.now.steps in
    keeps_then _ _ _ _
    (subst (λ (w : Work g.row.C.Denot g.row.L.Denot). KeepsWhole c.args.whole.now.ticket mine_before (g.C.CommandSteps.mine w.steps))
    (sym c.self.view_is) (keeps_on c.args.whole.now.ticket _ _ c.pass.ensures.goes))
    (keeps_set c.ack_whole.result Acked not_acked c.args.whole.now.ticket c.args.replica _ _ c.ack_whole.ensures.does.ok
    c.ack_whole.ensures.does.err)

pub returns-then-pass-clause-replied : goal.returns-then-pass-clause-replied
returns-then-pass-clause-replied g c =
    let at = (goal.at.returns-then-pass-clause-replied g c).After-ack_whole in
    inl (part_replied c.ack_whole.result _ c.args.replica _ _ _ (shown g at).started
    c.ack_whole.ensures.does.ok c.ack_whole.ensures.does.why c.ack_whole.ensures.does.err)

pub returns-else-pass-clause-shown : goal.returns-else-pass-clause-shown
returns-else-pass-clause-shown g c =
    shown_on _ _ _ _ _ _ c.pass.ensures.goes c.pass.ensures.told c.requires.shown
