use Rattle.std.proofs.Common.{arith, ◌≡◌, ◌<◌, length, map, slice_index_or, subst, sym, ap, ◌∙◌}
use Rattle.volume_model.specs.Faults.{last_count}
use Rattle.stream_steps.specs.Mine.{entries_in}
use Rattle.client_worker.specs.Working.{Work}
use Rattle.client_worker.proofs.Going.{goes_told}
use Rattle.client_worker.proofs.Counts.{at_map}
use Rattle.client_worker.proofs.Shown.{shown_told, told_replicas}
use Rattle.client_worker.proofs.Asked.{fault_why}
use Rattle.client_worker.proofs.carrier.Carrier.tell_fault.Given.{Over}
use Rattle.client_worker.proofs.carrier.Carrier.tell_fault.Goals as goal

-- the count that is told is the line's
is_count : (g : Over) (c : goal.After-fault g)
    → c.faults-count.result ≡ slice_index_or (map (λ x. g.L.Line.count x.line) c.self.inside.channels.items) c.args.replica 0
is_count g c =
    let line : c.args.replica < length c.self.inside.channels.items =
    subst (λ (w : Work g.row.C.Denot g.row.L.Denot). c.args.replica < length w.channels) (sym c.self.view_is) c.requires.line in
    c.faults-count.ensures ∙ ap (λ x. g.L.Line.count x.line) c.index.ensures
    ∙ sym (at_map (λ x. g.L.Line.count x.line) c.self.inside.channels.items c.args.replica c.index.result.now line)

pub invariant_of-self : goal.invariant_of-self
invariant_of-self g c =
    let has = c.self.invariant in
    let same = told_replicas c.fault.result.answer c.args.replica c.faults-count.result (g.C.ClientSteps.mine c.self.inside.steps)
    (g.C.ClientSteps.mine c.fault.new.self) c.fault.ensures.does.ok c.fault.ensures.does.err in
    record {
      ready = c.fault.ensures.stands.ready;
      few = has.few;
      lines = has.lines ∙ sym same;
      shown = shown_told c.fault.result.answer c.args.replica c.faults-count.result (g.C.ClientSteps.mine c.self.inside.steps)
          (g.C.ClientSteps.mine c.fault.new.self) (map (λ x. g.L.Line.count x.line) c.self.inside.channels.items)
          (map (λ x. g.L.Line.carried x.line) c.self.inside.channels.items) c.fault.ensures.does.ok c.fault.ensures.does.err
          (omega (arith, is_count g c)) has.shown;
    }

pub returns-clause-falls : goal.returns-clause-falls
returns-clause-falls g c =
    let a = g.C.ClientSteps.mine c.self.inside.steps in
    let above = subst (λ (w : Work g.row.C.Denot g.row.L.Denot).
    last_count (g.C.ClientSteps.mine w.steps).stream c.args.replica (entries_in (g.C.ClientSteps.mine w.steps).entries)
    < slice_index_or (map (λ x. g.L.Line.count x.line) w.channels) c.args.replica 0) (sym c.self.view_is) c.requires.above in
    rw (← c.self.view_is) (record {
      goes = goes_told c.fault.result.answer c.args.replica c.faults-count.result a (g.C.ClientSteps.mine c.fault.new.self)
          c.fault.ensures.does.ok c.fault.ensures.does.err;
      failed = fault_why c.fault.result.answer (g.C.ClientSteps.modes c.fault.new.self) a c.args.replica c.faults-count.result
          (omega (arith, is_count g c, above)) c.fault.ensures.failed c.fault.ensures.does.why;
      up = c.fault.ensures.next.next;
      inside = c.fault.ensures.next.inside;
    })
