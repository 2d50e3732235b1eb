use Rattle.std.proofs.Common.{rules, ◌≡◌, ◌<◌, ◌∙◌, length, map, slice_index_or, arith, ap, sym}
use Rattle.stream_steps.specs.Mine.{Mine}
use Rattle.client_worker.specs.Working.{Work}
use Rattle.client_worker.proofs.Counts.{at_map}
use Rattle.control_worker.proofs.Goes.{goes_told}
use Rattle.control_worker.proofs.ShownLemmas.{idle_told}
use Rattle.control_worker.proofs.carrier.Carrier.tell_fault.Goals as goal

pub invariant_of-self : goal.invariant_of-self
invariant_of-self g c =
    let channels = c.self.inside.channels.items in
    let same = ap (λ (w : Work g.row.C.Denot g.row.L.Denot). length w.channels) c.self.view_is in
    let line : c.args.replica < length channels = omega (arith, same, c.requires.line) in
    let at = at_map (λ x. g.L.Line.count x.line) channels c.args.replica c.index.result.now line in
    let is : c.faults-count.result ≡ g.L.Line.count (slice_index_or channels c.args.replica c.index.result.now).line = search rules in
    let goes = goes_told c.line_failed.result c.args.replica c.faults-count.result _ _
    c.line_failed.ensures.does.ok c.line_failed.ensures.does.err in
    record {
      ready = c.line_failed.ensures.stands.ready;
      few = c.self.invariant.few;
      lines = c.self.invariant.lines ∙ sym (ap (λ (m : Mine). m.replicas) goes.is);
      shown = idle_told c.line_failed.result c.args.replica c.faults-count.result _ _
          (map (λ x. g.L.Line.count x.line) channels) (map (λ x. g.L.Line.carried x.line) channels) c.line_failed.ensures.does.ok
          c.line_failed.ensures.does.err (omega (arith, at, is)) c.self.invariant.shown;
    }

pub returns-clause-goes : goal.returns-clause-goes
returns-clause-goes g c = rw (← c.self.view_is)
    (goes_told c.line_failed.result c.args.replica c.faults-count.result _ _ c.line_failed.ensures.does.ok c.line_failed.ensures.does.err)
