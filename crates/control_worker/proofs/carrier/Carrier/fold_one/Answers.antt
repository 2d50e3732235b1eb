use Rattle.std.proofs.Common.{rules, ◌≡◌, ◌-◌, ◌∙◌, length, is_ok, true, ap}
use Rattle.std.specs.Vec.{with_items}
use Rattle.std.proofs.lemmas.List.{with_items_is, places}
use Rattle.client_worker.specs.Working.{Work}
use Rattle.control_worker.proofs.CarrierLemmas.{GoesFurther, lines_further, later_same, tells_same, stays_lines, stays_both}
use Rattle.control_worker.proofs.FrameLemmas.{request_whole}
use Rattle.control_worker.proofs.Goes.{goes_same}
use Rattle.control_worker.proofs.PartLemmas.{ok_of}
use Rattle.control_worker.proofs.RoundLemmas.{folded_told}
use Rattle.control_worker.proofs.carrier.Carrier.fold_one.Given.{Over}
use Rattle.control_worker.proofs.carrier.Carrier.fold_one.Goals as goal
use Rattle.control_worker.proofs.carrier.Carrier.fold_one.Goals.{After-next_exchange-seq}

pub returns-then-not-fold_wanted-clause-goes : goal.returns-then-not-fold_wanted-clause-goes
returns-then-not-fold_wanted-clause-goes g c = rw (← c.self.view_is) (goes_same _ _ c.fold_wanted.ensures.stands.same)

-- the exchange is begun
begins : (g : Over) (c : After-next_exchange-seq g) → GoesFurther g.C.CommandSteps.ready g.C.CommandSteps.mine
    g.C.CommandSteps.home (λ s past source r. Unit {0}) g.L.Line.count g.L.Line.carried g.L.Line.ends c.args.self.now
    (record { steps = c.fold_wanted.new.self; channels = (with_items c.self.inside.channels c.next_exchange-seq.new.channels).items })
begins g c =
    lines_further c.self.inside.steps c.fold_wanted.new.self c.self.inside.channels c.deref_mut.result.now
    c.next_exchange-seq.new.channels c.args.self.now c.self.view_is c.deref_mut.ensures.value c.deref_mut.ensures.len
    c.next_exchange-seq.ensures.count c.next_exchange-seq.ensures.ends (later_same _ _ c.next_exchange-seq.ensures.faults)
    (tells_same _ _ c.next_exchange-seq.ensures.carried) c.fold_wanted.ensures.stands.ready c.fold_wanted.ensures.stands.home
    c.fold_wanted.ensures.stands.same (λ past source r h. h) c.self.invariant

pub invariant_of-self-2 : goal.invariant_of-self-2
invariant_of-self-2 g c = (begins g (goal.at.invariant_of-self-2 g c).After-next_exchange-seq).serves

-- its request is a whole frame
pub pass-requires-clause-frame : goal.pass-requires-clause-frame
pass-requires-clause-frame g c =
    let request = c.deref_mut-2.result.now in
    let len : c.ask_head.result.len ≡ length request - 26 = search rules in
    let is : c.deref.result.now ≡ c.put_header.new.bytes = c.deref.ensures.value
    ∙ with_items_is c.rooms.inside.request c.put_header.new.bytes (search (rules, places)) in
    record {
      whole = request_whole c.ask_head.result request c.deref.result.now c.ask_head.ensures.fits len (is ∙ c.put_header.ensures);
      room = search rules;
    }

pub returns-then-is_err-clause-stays : goal.returns-then-is_err-clause-stays
returns-then-is_err-clause-stays g c =
    stays_both _ _ _
    (stays_both _ _ _ (begins g (goal.at.returns-then-is_err-clause-stays g c).After-next_exchange-seq).keeps.stays
    c.pass.ensures.keeps.stays)
    (stays_lines _ _
    (c.fold_page-done.ensures.stands.home ∙ ap (λ (w : Work g.row.C.Denot g.row.L.Denot). g.C.CommandSteps.home w.steps) c.self-2.view_is)
    (ap (λ (w : Work g.row.C.Denot g.row.L.Denot). w.channels) c.self-2.view_is))

pub returns-clause-folded : goal.returns-clause-folded
returns-clause-folded g c =
    let done : is_ok c.fold_page-done.result ≡ true = search rules in
    folded_told g.C.CommandSteps.modes g.L.Line.carried
    (λ s. g.C.CommandSteps.wants_fold s c.args.replica c.args.fold.now.parent c.args.fold.now.page) c.pass-2.result
    c.args.replica c.args.fold.now.page c.encode_header-reply.result c.args.fold.now.parent
    (g.C.CommandSteps.seen c.pass-2.new.self.steps)
    (record { steps = c.fold_page-done.new.self; channels = c.self-2.inside.channels.items }) c.pass-2.new.self
    (ok_of c.fold_page-done.result done c.fold_page-done.ensures.folded) c.pass-2.ensures.passes
