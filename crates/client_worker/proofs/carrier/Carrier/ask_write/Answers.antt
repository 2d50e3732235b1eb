use Rattle.std.proofs.Common.{rules, ◌≡◌, ◌-◌, map, drop, length, length-drop, slice_set, refl, ap, sym, subst, ◌∙◌}
use Rattle.frame_wire.specs.declared.head.Head.{Head}
use Rattle.frame_wire.specs.Spelling.{header_length}
use Rattle.step_answers.specs.declared.parts.Part.TheVariants.{Taken}
use Rattle.stream_steps.specs.Mine.{Mine, IsOwn}
use Rattle.stream_steps.specs.Steps.{TakesTo}
use Rattle.client_worker.specs.Exchanges.{told_in}
use Rattle.client_worker.specs.Working.{Work}
use Rattle.client_worker.proofs.Acked.{was_asked}
use Rattle.client_worker.proofs.Asked.{has_taken}
use Rattle.client_worker.proofs.Carrying.{serving_same, stays_home, stays_lent, stays_then}
use Rattle.client_worker.proofs.Going.{goes_then, goes_same, goes_takes, taken_own}
use Rattle.client_worker.proofs.Told.{is_framed, is_framed_alone, write_lacks}
use Rattle.client_worker.proofs.Writing.{write_is_started}
use Rattle.client_worker.proofs.carrier.Carrier.ask_write.Goals as goal

pub invariant_of-self : goal.invariant_of-self
invariant_of-self g c =
    serving_same c.self.inside.steps
    c.self.inside.channels.items c.deref_mut.result.now c.next_exchange-seq.new.channels
    (drop (length c.next_exchange-seq.new.channels) c.self.inside.channels.items) c.self.inside.channels.len c.self.invariant
    c.deref_mut.ensures.value c.next_exchange-seq.ensures.count c.next_exchange-seq.ensures.faults c.next_exchange-seq.ensures.carried
    (search rules)

pub pass-requires-clause-frame : goal.pass-requires-clause-frame
pass-requires-clause-frame g c =
    let count : length (drop header_length c.args.request.now) ≡ length c.args.request.now - header_length =
    length-drop header_length c.args.request.now in
    let len : c.write_head.result.len ≡ length c.args.request.now - header_length = search rules in
    record {
      whole = is_framed c.write_head.result (drop header_length c.args.request.now) c.put_header.new.bytes
          c.write_head.ensures.fits (count ∙ sym len) c.put_header.ensures;
      room = search rules;
    }

pub reply_with-requires-clause-frame : goal.reply_with-requires-clause-frame
reply_with-requires-clause-frame g c =
    let none : c.write_reply_head.result.len ≡ 0 = ap (λ (h : Head). h.len) c.write_reply_head.ensures.value in
    record {
      whole = is_framed_alone c.write_reply_head.result c.encode_header-reply.result c.write_reply_head.ensures.fits none
          c.encode_header-reply.ensures;
      room = search rules;
    }

pub reply_with-requires-clause-own : goal.reply_with-requires-clause-own
reply_with-requires-clause-own g c =
    let mine_pass = g.C.ClientSteps.mine c.pass.new.self.steps in
    let mine_take_write = g.C.ClientSteps.mine c.take_write.new.self.steps in
    let op = c.requires.own in
    let same : mine_pass ≡ g.C.ClientSteps.mine c.args.self.now.steps =
    ap g.C.ClientSteps.mine (c.in_default.ensures.came.same ∙ ap (λ (w : Work g.row.C.Denot g.row.L.Denot). w.steps) c.self.view_is) in
    let own : IsOwn c.args.part.now.ticket op.0 mine_pass = subst (IsOwn c.args.part.now.ticket op.0) (sym same) op.2 in
    let took : TakesTo op.0 c.args.part.now.replica op.0.buffer mine_pass mine_take_write =
    c.in_default-take_write.ensures.taken op.0 own in
    rw c.take_write.ensures.stays.lines (
      record op.0 { parts = slice_set op.0.parts c.args.part.now.replica Taken },
      taken_own c.args.part.now.ticket c.args.part.now.replica op.0.buffer op.0 mine_pass mine_take_write own took,
      write_is_started op.0 op.3.writes,
      has_taken op.0 c.args.part.now.replica op.0.buffer,
      write_lacks op.0 (record op.0 { parts = slice_set op.0.parts c.args.part.now.replica Taken }) _
          (told_in (map (λ x. g.L.Line.carried x.line) c.pass.new.self.channels) c.args.part.now.replica)
          c.next_exchange-seq.result c.args.part.now.first op.1 c.args.request.now c.put_header.new.bytes
          c.encode_header-reply.result c.write_head.result c.write_reply_head.result op.3 refl
          (search rules) (search rules) (search rules) (search rules) c.in_default.ensures.came.carried,
    )

pub returns-clause-asked : goal.returns-clause-asked
returns-clause-asked g c =
    let before = g.C.ClientSteps.mine c.args.self.now.steps in
    let mine_pass = g.C.ClientSteps.mine c.pass.new.self.steps in
    let mine_take_write = g.C.ClientSteps.mine c.take_write.new.self.steps in
    let last = g.C.ClientSteps.mine c.reply_with.new.self.steps in
    let op = c.requires.own in
    let same : mine_pass ≡ before =
    ap g.C.ClientSteps.mine (c.in_default.ensures.came.same ∙ ap (λ (w : Work g.row.C.Denot g.row.L.Denot). w.steps) c.self.view_is) in
    let own : IsOwn c.args.part.now.ticket op.0 mine_pass = subst (IsOwn c.args.part.now.ticket op.0) (sym same) op.2 in
    let took : TakesTo op.0 c.args.part.now.replica op.0.buffer mine_pass mine_take_write =
    c.in_default-take_write.ensures.taken op.0 own in
    was_asked (g.C.ClientSteps.modes c.reply_with.new.self.steps) c.args.part.now.replica before mine_take_write last
    (goes_then before mine_pass mine_take_write (goes_same before mine_pass same)
    (goes_takes c.args.part.now.ticket c.args.part.now.replica op.0.buffer op.0 mine_pass mine_take_write own refl took))
    (ap (λ (m : Mine). m.replicas) took ∙ ap (λ (m : Mine). m.replicas) same) c.reply_with.result c.reply_with.ensures.asked

pub returns-clause-stays : goal.returns-clause-stays
returns-clause-stays g c =
    let passed = stays_then c.args.self.now _ c.pass.new.self
    (stays_lent {at = g.C.ClientSteps.home} {between = g.L.Line.ends} c.args.self.now _ c.deref_mut.result.now
    c.next_exchange-seq.new.channels (drop (length c.next_exchange-seq.new.channels) c.self.inside.channels.items)
    c.self.inside.channels.len c.self.view_is c.deref_mut.ensures.value c.next_exchange-seq.ensures.count
    c.next_exchange-seq.ensures.ends (search rules)) c.pass.ensures.stays in
    stays_then c.args.self.now _ c.reply_with.new.self (stays_then c.args.self.now _ c.take_write.new.self passed
    (stays_home c.pass.new.self c.take_write.new.self c.take_write.ensures.stays)) c.reply_with.ensures.stays
