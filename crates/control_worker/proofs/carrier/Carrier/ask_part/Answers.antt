use Rattle.std.proofs.Common.{rules, ◌≡◌, ◌-◌, ◌∙◌, length, is_err, false, inl, pos, sym, subst}
use Rattle.std.specs.Vec.{with_items}
use Rattle.std.proofs.lemmas.List.{with_items_is, places}
use Rattle.step_answers.specs.declared.parts.Part.TheVariants.{Taken}
use Rattle.client_worker.specs.Exchanges.{told_in}
use Rattle.client_worker.specs.Working.{Work, told_by}
use Rattle.control_worker.specs.Carrying.{Keeps, PassesOr}
use Rattle.control_worker.specs.Frames.{AsksBy, ask_head}
use Rattle.control_worker.specs.Whole.{IsAskedLast, KeepsWhole, PartsShown}
use Rattle.control_worker.proofs.CarrierLemmas.{GoesFurther, lines_further, later_same, tells_same, serves_step, keeps_both, keeps_step}
use Rattle.control_worker.proofs.FrameLemmas.{asks_now, request_whole}
use Rattle.control_worker.proofs.Goes.{goes_same}
use Rattle.control_worker.proofs.PartLemmas.{owes_none_on, part_asked, part_taken, keeps_on, keeps_same, keeps_then}
use Rattle.control_worker.proofs.PartLemmas.{keeps_set, stays_set, not_taken, shown_on, shown_parts, asked_last}
use Rattle.control_worker.proofs.carrier.Carrier.ask_part.Given.{Over}
use Rattle.control_worker.proofs.carrier.Carrier.ask_part.Goals as goal
use Rattle.control_worker.proofs.carrier.Carrier.ask_part.Goals.{After-next_exchange-seq, After-pass, After-part}

-- ---- the exchange is begun

begins : (g : Over) (c : After-next_exchange-seq g) → GoesFurther g.C.CommandSteps.ready g.C.CommandSteps.mine
    g.C.CommandSteps.home g.C.CommandSteps.begun g.L.Line.count g.L.Line.carried g.L.Line.ends c.args.self.now
    (record { steps = c.mode_of.new.self; channels = (with_items c.self.inside.channels c.next_exchange-seq.new.channels).items })
begins g c =
    lines_further c.self.inside.steps c.mode_of.new.self c.self.inside.channels c.deref_mut.result.now
    c.next_exchange-seq.new.channels c.args.self.now c.self.view_is c.deref_mut.ensures.value c.deref_mut.ensures.len
    c.next_exchange-seq.ensures.count c.next_exchange-seq.ensures.ends (later_same _ _ c.next_exchange-seq.ensures.faults)
    (tells_same _ _ c.next_exchange-seq.ensures.carried) c.mode_of.ensures.stands.ready c.mode_of.ensures.stands.home
    c.mode_of.ensures.stands.same c.mode_of.ensures.begun c.self.invariant

pub returns-then-eq-clause-goes : goal.returns-then-eq-clause-goes
returns-then-eq-clause-goes g c = rw (← c.self.view_is) (keeps_same c.args.whole.now.ticket _ _ c.mode_of.ensures.stands.same)

pub invariant_of-self-2 : goal.invariant_of-self-2
invariant_of-self-2 g c = (begins g (goal.at.invariant_of-self-2 g c).After-next_exchange-seq).serves

-- ---- the request was carried

pub pass-requires-clause-frame : goal.pass-requires-clause-frame
pass-requires-clause-frame g c =
    let request = c.deref_mut-2.result.now in
    let len : c.ask_head.result.len ≡ length request - 26 = search rules in
    let is : c.deref.result.now ≡ c.put_header.new.bytes = c.deref.ensures.value
    ∙ with_items_is c.rooms.inside.request c.put_header.new.bytes (search (rules, places)) in
    record {
      whole = request_whole c.ask_head.result request c.deref.result.now c.ask_head.ensures.fits len (is ∙ c.put_header.ensures);
      room = search rules;
    }

shown : (g : Over) (c : After-pass g) → GoesFurther g.C.CommandSteps.ready g.C.CommandSteps.mine g.C.CommandSteps.home
    g.C.CommandSteps.begun g.L.Line.count g.L.Line.carried g.L.Line.ends c.args.self.now
    (record { steps = c.mode_of.new.self; channels = (with_items c.self.inside.channels c.next_exchange-seq.new.channels).items })
    → PartsShown c.args.whole.now.ticket c.args.whole.now.op (g.C.CommandSteps.mine c.pass.new.self.steps)
    (told_by g.L.Line.carried c.pass.new.self)
shown g c b =
    shown_on _ _ _ _ _ _ c.pass.ensures.goes c.pass.ensures.told
    (shown_on _ _ _ _ _ _ (goes_same _ _ b.same) b.told c.requires.shown)

pub returns-then-not-pass-clause-keeps : goal.returns-then-not-pass-clause-keeps
returns-then-not-pass-clause-keeps g c =
    keeps_both _ _ _ (begins g (goal.at.returns-then-not-pass-clause-keeps g c).After-next_exchange-seq).keeps c.pass.ensures.keeps

pub returns-then-not-pass-clause-shown : goal.returns-then-not-pass-clause-shown
returns-then-not-pass-clause-shown g c =
    let at = goal.at.returns-then-not-pass-clause-shown g c in
    shown g at.After-pass (begins g at.After-next_exchange-seq)

-- ---- the replica was asked for its part

-- behind the carry, what is shown of the carrier's fields
here : (g : Over) (c : After-part g) → PartsShown c.args.whole.now.ticket c.args.whole.now.op
    (g.C.CommandSteps.mine c.pass.new.self.steps) (told_by g.L.Line.carried c.pass.new.self)
    → PartsShown c.args.whole.now.ticket c.args.whole.now.op (g.C.CommandSteps.mine c.self-2.inside.steps)
    (told_by {C = g.row.C.Denot} g.L.Line.carried (record { steps = c.self-2.inside.steps; channels = c.self-2.inside.channels.items }))
here g c h = subst (λ (w : Work g.row.C.Denot g.row.L.Denot). PartsShown c.args.whole.now.ticket c.args.whole.now.op
    (g.C.CommandSteps.mine w.steps) (told_by g.L.Line.carried w)) (sym c.self-2.view_is) h

parted_shown : (g : Over) (c : After-part g) → PartsShown c.args.whole.now.ticket c.args.whole.now.op
    (g.C.CommandSteps.mine c.pass.new.self.steps) (told_by g.L.Line.carried c.pass.new.self)
    → PartsShown c.args.whole.now.ticket c.args.whole.now.op (g.C.CommandSteps.mine c.part.new.self)
    (told_by {C = g.row.C.Denot} g.L.Line.carried (record { steps = c.self-2.inside.steps; channels = c.self-2.inside.channels.items }))
parted_shown g c h =
    shown_parts c.part.result _ c.args.replica _ _ _ _ c.part.ensures.does.ok c.part.ensures.does.err (here g c h)

parted_keeps : (g : Over) (c : After-part g)
    → Keeps g.C.CommandSteps.home g.C.CommandSteps.begun g.L.Line.ends c.args.self.now c.pass.new.self
    → Keeps g.C.CommandSteps.home g.C.CommandSteps.begun g.L.Line.ends c.args.self.now
    (record { steps = c.part.new.self; channels = c.self-2.inside.channels.items })
parted_keeps g c k =
    keeps_step _ _ _ c.part.ensures.stands.home c.part.ensures.begun
    (subst (λ (w : Work g.row.C.Denot g.row.L.Denot). Keeps g.C.CommandSteps.home g.C.CommandSteps.begun g.L.Line.ends
    c.args.self.now w) (sym c.self-2.view_is) k)

pub returns-then-is_err-clause-keeps : goal.returns-then-is_err-clause-keeps
returns-then-is_err-clause-keeps g c =
    let at = goal.at.returns-then-is_err-clause-keeps g c in
    parted_keeps g at.After-part (keeps_both _ _ _ (begins g at.After-next_exchange-seq).keeps c.pass.ensures.keeps)

pub returns-then-is_err-clause-shown : goal.returns-then-is_err-clause-shown
returns-then-is_err-clause-shown g c =
    let at = goal.at.returns-then-is_err-clause-shown g c in
    parted_shown g at.After-part (shown g at.After-pass (begins g at.After-next_exchange-seq))

pub returns-then-is_err-clause-asked : goal.returns-then-is_err-clause-asked
returns-then-is_err-clause-asked g c =
    let at = goal.at.returns-then-is_err-clause-asked g c in
    part_asked c.part.result _ c.args.replica _ _ _ (g.C.CommandSteps.modes c.part.new.self)
    (here g at.After-part (shown g at.After-pass (begins g at.After-next_exchange-seq))).started c.part.ensures.does.ok
    c.part.ensures.does.why c.part.ensures.does.err

pub invariant_of-self-3 : goal.invariant_of-self-3
invariant_of-self-3 g c =
    let at = goal.at.invariant_of-self-3 g c in
    serves_step g.C.CommandSteps.mine _ _ c.part.ensures.stands.ready
    (stays_set c.part.result Taken _ c.args.replica _ _ _
    (here g at.After-part (shown g at.After-pass (begins g at.After-next_exchange-seq))).started c.part.ensures.does.ok
    c.part.ensures.does.err) c.self-2.invariant

pub reply_part-requires-clause-asked : goal.reply_part-requires-clause-asked
reply_part-requires-clause-asked g c =
    let request = c.deref_mut-2.result.now in
    let asks : AsksBy c.requires.asks.0 request =
    subst (AsksBy c.requires.asks.0) (sym (c.deref_mut-2.ensures.value ∙ c.rooms.view_is)) c.requires.asks.2 in
    let head : c.ask_head.result ≡ ask_head c.next_exchange-seq.result (pos 0) (length request - 26) = search rules in
    let is : c.deref.result.now ≡ c.put_header.new.bytes = c.deref.ensures.value
    ∙ with_items_is c.rooms.inside.request c.put_header.new.bytes (search (rules, places)) in
    let came = subst (λ b. PassesOr g.C.CommandSteps.modes g.L.Line.carried c.args.replica c.deref.result.now b
    (record { steps = c.mode_of.new.self; channels = (with_items c.self.inside.channels c.next_exchange-seq.new.channels).items })
    c.pass.new.self) c.if-not-pass.false c.pass.ensures.passes in
    subst (λ (w : Work g.row.C.Denot g.row.L.Denot). IsAskedLast c.next_exchange-seq.result c.args.whole.now.op
    (told_in (told_by g.L.Line.carried w) c.args.replica)) (sym c.self-2.view_is)
    (asked_last c.next_exchange-seq.result c.args.whole.now.op c.requires.asks.0 c.deref.result.now _
    (told_in (told_by g.L.Line.carried c.pass.new.self) c.args.replica) c.requires.asks.1
    (is ∙ asks_now c.next_exchange-seq.result (pos 0) c.requires.asks.0 request c.put_header.new.bytes c.ask_head.result
    asks head c.put_header.ensures) came.carried)

pub reply_part-requires-clause-shown : goal.reply_part-requires-clause-shown
reply_part-requires-clause-shown g c =
    let at = goal.at.reply_part-requires-clause-shown g c in
    parted_shown g at.After-part (shown g at.After-pass (begins g at.After-next_exchange-seq))

pub returns-clause-keeps : goal.returns-clause-keeps
returns-clause-keeps g c =
    let at = goal.at.returns-clause-keeps g c in
    keeps_both _ _ _ (parted_keeps g at.After-part (keeps_both _ _ _ (begins g at.After-next_exchange-seq).keeps c.pass.ensures.keeps))
    c.reply_part.ensures.keeps

pub returns-clause-goes : goal.returns-clause-goes
returns-clause-goes g c =
    let at = goal.at.returns-clause-goes g c in
    let begun = keeps_same c.args.whole.now.ticket _ _ (begins g at.After-next_exchange-seq).same in
    let passed = subst (λ (w : Work g.row.C.Denot g.row.L.Denot). KeepsWhole c.args.whole.now.ticket
    (g.C.CommandSteps.mine c.mode_of.new.self) (g.C.CommandSteps.mine w.steps)) (sym c.self-2.view_is)
    (keeps_on c.args.whole.now.ticket _ _ c.pass.ensures.goes) in
    keeps_then _ _ _ _ (keeps_then _ _ _ _ begun passed)
    (keeps_then _ _ _ _
    (keeps_set c.part.result Taken not_taken c.args.whole.now.ticket c.args.replica _ _ c.part.ensures.does.ok c.part.ensures.does.err)
    c.reply_part.ensures.goes)

pub returns-clause-asked : goal.returns-clause-asked
returns-clause-asked g c =
    let at = goal.at.returns-clause-asked g c in
    let sh = shown g at.After-pass (begins g at.After-next_exchange-seq) in
    let no : is_err c.part.result ≡ false = search rules in
    inl (owes_none_on _ c.args.replica _ _ _ _ (parted_shown g at.After-part sh).started c.reply_part.ensures.goes
    (part_taken c.part.result no _ c.args.replica _ _ _ (here g at.After-part sh).started c.part.ensures.does.ok))
