use Rattle.std.proofs.Common.{rules, arith, ◌≡◌, ◌-◌, ◌≤◌, map, drop, length, slice_set, is_err, refl, ap, sym, subst, ◌∙◌, false}
use Rattle.frame_wire.specs.declared.head.Head.{Head}
use Rattle.frame_wire.specs.Spelling.{header_length, frame}
use Rattle.step_answers.specs.declared.parts.Part.TheVariants.{Taken}
use Rattle.stream_steps.specs.Mine.{IsOwn}
use Rattle.stream_steps.specs.Steps.{TakesTo, IsOnBlocks}
use Rattle.volume_model.specs.Modes.{IsSource}
use Rattle.client_worker.specs.Exchanges.{told_in}
use Rattle.client_worker.specs.Ends.{NoneAcked}
use Rattle.client_worker.proofs.Acked.{told_answered, told_on}
use Rattle.client_worker.proofs.Asked.{has_taken, falls_goes, failed_unread}
use Rattle.client_worker.proofs.Served.{ends_then}
use Rattle.client_worker.proofs.Carrying.{serving_on, serving_same, stays_lent, stays_step, stays_then, steps_back}
use Rattle.client_worker.proofs.Going.{goes_then, goes_same, goes_takes, taken_own, done_well}
use Rattle.client_worker.proofs.Shown.{shows_reads, shows_same}
use Rattle.client_worker.proofs.Told.{body_put, is_framed, is_framed_alone, read_lacks}
use Rattle.client_worker.specs.Serving.{KeepsOpen}
use Rattle.client_worker.proofs.carrier.Carrier.ask_read.Given.{Over}
use Rattle.client_worker.proofs.carrier.Carrier.ask_read.Goals.{After-is_answered}
use Rattle.client_worker.proofs.carrier.Carrier.ask_read.Goals as goal

pub invariant_of-self : goal.invariant_of-self
invariant_of-self g c =
    serving_same c.self.inside.steps
    c.self.inside.channels.items c.deref_mut.result.now c.next_exchange-seq.new.channels
    (drop (length c.next_exchange-seq.new.channels) c.self.inside.channels.items) c.self.inside.channels.len c.self.invariant
    c.deref_mut.ensures.value c.next_exchange-seq.ensures.count c.next_exchange-seq.ensures.faults c.next_exchange-seq.ensures.carried
    (search rules)

pub returns-then-is_err-clause-goes : goal.returns-then-is_err-clause-goes
returns-then-is_err-clause-goes g c = λ no.
    rw (← c.self.view_is) (falls_goes c.pass.result (g.C.ClientSteps.modes c.pass.new.self.steps) c.args.replica
    (g.C.ClientSteps.mine c.self.inside.steps) (g.C.ClientSteps.mine c.pass.new.self.steps) (search rules) c.pass.ensures.falls)

pub pass-requires-clause-frame : goal.pass-requires-clause-frame
pass-requires-clause-frame g c =
    let none : c.read_head.result.len ≡ 0 = ap (λ (h : Head). h.len) c.read_head.ensures.value in
    record {
      whole = is_framed_alone c.read_head.result c.encode_header-request.result c.read_head.ensures.fits none
          c.encode_header-request.ensures;
      room = search rules;
    }

pub apply_read-requires-clause-source : goal.apply_read-requires-clause-source
apply_read-requires-clause-source g c =
    let back = steps_back _ _ _ _ c.self-2.view_is (done_well c.pass.result (search rules) c.pass.ensures.came).same c.self.view_is in
    subst (λ s. IsSource (g.C.ClientSteps.modes s) c.args.replica) (sym back) c.requires.source

pub invariant_of-self-then-is_err-2 : goal.invariant_of-self-then-is_err-2
invariant_of-self-then-is_err-2 g c = serving_on c.self-2.inside.steps c.apply_read.new.self c.self-2.inside.channels.items
    c.self-2.invariant c.apply_read.ensures.stands.ready
    (shows_same (g.C.ClientSteps.mine c.self-2.inside.steps) (g.C.ClientSteps.mine c.apply_read.new.self) (search rules))

pub returns-then-is_err-2-clause-stays : goal.returns-then-is_err-2-clause-stays
returns-then-is_err-2-clause-stays g c =
    let passed = stays_then c.args.self.now _ c.pass.new.self
    (stays_lent {at = g.C.ClientSteps.home} {between = g.L.Line.ends} c.args.self.now _ c.deref_mut.result.now
    c.next_exchange-seq.new.channels
    (drop (length c.next_exchange-seq.new.channels) c.self.inside.channels.items) c.self.inside.channels.len c.self.view_is
    c.deref_mut.ensures.value c.next_exchange-seq.ensures.count c.next_exchange-seq.ensures.ends (search rules)) c.pass.ensures.stays in
    stays_step c.args.self.now c.pass.new.self _ c.apply_read.new.self passed
    c.self-2.view_is c.apply_read.ensures.stands.home

pub returns-then-is_err-2-clause-goes : goal.returns-then-is_err-2-clause-goes
returns-then-is_err-2-clause-goes g c = λ no.
    let back = steps_back _ _ _ _ c.self-2.view_is (done_well c.pass.result (search rules) c.pass.ensures.came).same c.self.view_is in
    let same : g.C.ClientSteps.mine c.apply_read.new.self ≡ g.C.ClientSteps.mine c.self-2.inside.steps = search rules in
    goes_same (g.C.ClientSteps.mine c.args.self.now.steps) (g.C.ClientSteps.mine c.apply_read.new.self)
    (same ∙ ap g.C.ClientSteps.mine back)

pub invariant_of-self-2 : goal.invariant_of-self-2
invariant_of-self-2 g c =
    let before = g.C.ClientSteps.mine c.self-2.inside.steps in
    let h = c.requires.own in
    let back = steps_back _ _ _ _ c.self-2.view_is (done_well c.pass.result (search rules) c.pass.ensures.came).same c.self.view_is in
    let own : IsOwn c.args.read.now.ticket h.own before =
    subst (IsOwn c.args.read.now.ticket h.own) (ap g.C.ClientSteps.mine (sym back)) h.is in
    let yes : is_err c.apply_read.result ≡ false = search rules in
    let took = done_well c.apply_read.result yes c.apply_read.ensures.does.ok h.own own in
    serving_on c.self-2.inside.steps c.apply_read.new.self
    c.self-2.inside.channels.items c.self-2.invariant c.apply_read.ensures.stands.ready
    (shows_reads c.args.read.now.ticket c.args.replica c.apply_read.new.into h.own before (g.C.ClientSteps.mine c.apply_read.new.self) own
    (subst NoneAcked (ap g.C.ClientSteps.mine (sym back)) h.none) took)

pub reply_with-requires-clause-frame : goal.reply_with-requires-clause-frame
reply_with-requires-clause-frame g c =
    let into = c.apply_read.new.into in
    let h = c.requires.own in
    let long : length into ≡ length h.own.buffer = search rules in
    let body : length into ≡ length c.args.reply.now - header_length = omega (arith, long, h.carries.long, h.carries.count) in
    let room : header_length ≤ length c.args.reply.now = omega (arith, h.carries.count) in
    let len : c.read_reply_head.result.len ≡ c.args.read.now.count = ap (λ (h : Head). h.len) c.read_reply_head.ensures.value in
    record {
      whole = is_framed c.read_reply_head.result into c.put_header.new.bytes c.read_reply_head.ensures.fits
          (long ∙ h.carries.long ∙ sym len)
          (c.put_header.ensures ∙ ap (frame c.read_reply_head.result) (body_put c.args.reply.now into room body));
      room = search rules;
    }

pub reply_with-requires-clause-own : goal.reply_with-requires-clause-own
reply_with-requires-clause-own g c =
    let into = c.apply_read.new.into in
    let before = g.C.ClientSteps.mine c.self-2.inside.steps in
    let after = g.C.ClientSteps.mine c.apply_read.new.self in
    let h = c.requires.own in
    let back = steps_back _ _ _ _ c.self-2.view_is (done_well c.pass.result (search rules) c.pass.ensures.came).same c.self.view_is in
    let own : IsOwn c.args.read.now.ticket h.own before =
    subst (IsOwn c.args.read.now.ticket h.own) (ap g.C.ClientSteps.mine (sym back)) h.is in
    let yes : is_err c.apply_read.result ≡ false = search rules in
    let took : TakesTo h.own c.args.replica into before after = done_well c.apply_read.result yes c.apply_read.ensures.does.ok h.own own in
    let long : length into ≡ length h.own.buffer = search rules in
    let body : length into ≡ length c.args.reply.now - header_length = omega (arith, long, h.carries.long, h.carries.count) in
    let room : header_length ≤ length c.args.reply.now = omega (arith, h.carries.count) in
    rw (ap (λ w. w.channels) c.self-2.view_is) (
      record h.own { buffer = into; parts = slice_set h.own.parts c.args.replica Taken },
      taken_own c.args.read.now.ticket c.args.replica into h.own before after own took,
      (h.carries.started, subst IsOnBlocks (sym h.carries.call) tt),
      has_taken h.own c.args.replica into,
      read_lacks h.own (record h.own { buffer = into; parts = slice_set h.own.parts c.args.replica Taken }) _
          (told_in (map (λ x. g.L.Line.carried x.line) c.pass.new.self.channels) c.args.replica)
          c.next_exchange-seq.result c.args.read.now.offset c.args.read.now.count c.args.reply.now c.encode_header-request.result
          c.put_header.new.bytes c.read_head.result c.read_reply_head.result h.carries refl long
          (search rules) (search rules) (search rules)
          (c.put_header.ensures ∙ ap (frame c.read_reply_head.result) (body_put c.args.reply.now into room body))
          (done_well c.pass.result (search rules) c.pass.ensures.came).carried,
    )

pub returns-clause-stays : goal.returns-clause-stays
returns-clause-stays g c =
    let passed = stays_then c.args.self.now _ c.pass.new.self
    (stays_lent {at = g.C.ClientSteps.home} {between = g.L.Line.ends} c.args.self.now _ c.deref_mut.result.now
    c.next_exchange-seq.new.channels
    (drop (length c.next_exchange-seq.new.channels) c.self.inside.channels.items) c.self.inside.channels.len c.self.view_is
    c.deref_mut.ensures.value c.next_exchange-seq.ensures.count c.next_exchange-seq.ensures.ends (search rules)) c.pass.ensures.stays in
    stays_then c.args.self.now _ c.reply_with.new.self
    (stays_step c.args.self.now c.pass.new.self _ c.apply_read.new.self passed
    c.self-2.view_is c.apply_read.ensures.stands.home) c.reply_with.ensures.stays

-- what went on until the replica replied
gone : (g : Over) (c : After-is_answered g)
    → KeepsOpen (g.C.ClientSteps.mine c.args.self.now.steps) (g.C.ClientSteps.mine c.apply_read.new.self)
gone g c =
    let first = g.C.ClientSteps.mine c.args.self.now.steps in
    let before = g.C.ClientSteps.mine c.self-2.inside.steps in
    let after = g.C.ClientSteps.mine c.apply_read.new.self in
    let h = c.requires.own in
    let back = steps_back _ _ _ _ c.self-2.view_is (done_well c.pass.result (search rules) c.pass.ensures.came).same c.self.view_is in
    let own : IsOwn c.args.read.now.ticket h.own before =
    subst (IsOwn c.args.read.now.ticket h.own) (ap g.C.ClientSteps.mine (sym back)) h.is in
    let yes : is_err c.apply_read.result ≡ false = search rules in
    let long : length c.apply_read.new.into ≡ length h.own.buffer = search rules in
    goes_then first before after (goes_same first before (ap g.C.ClientSteps.mine back))
    (goes_takes c.args.read.now.ticket c.args.replica c.apply_read.new.into h.own before after own long
    (done_well c.apply_read.result yes c.apply_read.ensures.does.ok h.own own))

pub returns-clause-done : goal.returns-clause-done
returns-clause-done g c = λ e.
    let after = g.C.ClientSteps.mine c.apply_read.new.self in
    let last = g.C.ClientSteps.mine c.reply_with.new.self.steps in
    ends_then (g.C.ClientSteps.mine c.args.self.now.steps) after last (gone g c)
    (told_answered (g.C.ClientSteps.modes c.reply_with.new.self.steps) c.args.replica after last c.reply_with.result
    c.reply_with.ensures.asked (sym c.is_answered.ensures ∙ e))

pub returns-clause-goes : goal.returns-clause-goes
returns-clause-goes g c = λ e.
    let after = g.C.ClientSteps.mine c.apply_read.new.self in
    let last = g.C.ClientSteps.mine c.reply_with.new.self.steps in
    goes_then (g.C.ClientSteps.mine c.args.self.now.steps) after last (gone g c)
    (told_on (g.C.ClientSteps.modes c.reply_with.new.self.steps) c.args.replica after last c.reply_with.result
    c.reply_with.ensures.asked (sym c.is_answered.ensures ∙ e)).0

pub returns-clause-asked : goal.returns-clause-asked
returns-clause-asked g c = λ e.
    let modes = g.C.ClientSteps.modes c.reply_with.new.self.steps in
    let last = g.C.ClientSteps.mine c.reply_with.new.self.steps in
    failed_unread modes c.args.replica last
    (told_on modes c.args.replica (g.C.ClientSteps.mine c.apply_read.new.self) last c.reply_with.result c.reply_with.ensures.asked
    (sym c.is_answered.ensures ∙ e)).1
