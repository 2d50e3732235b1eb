use Rattle.std.proofs.Common.{rules}
use Rattle.client_worker.proofs.Carrying.{own_inside, serving_on}
use Rattle.client_worker.proofs.Going.{goes_same}
use Rattle.client_worker.proofs.Shown.{shows_taken}
use Rattle.client_worker.proofs.Writing.{fills, filled_boxes}
use Rattle.client_worker.proofs.carrier.Carrier.take_write.Goals.{in-Ok, in-Err}
use Rattle.client_worker.proofs.carrier.Carrier.take_write.Goals as goal

pub fill-requires-clause-whole : goal.fill-requires-clause-whole
fill-requires-clause-whole g c =
    let op = c.requires.own in
    fills op.0 c.args.part.now.first op.1 c.args.request.now c.args.blocks.now op.3 op.4

pub apply_write-taken-requires-clause-writes : goal.apply_write-taken-requires-clause-writes
apply_write-taken-requires-clause-writes g c =
    let op = c.requires.own in (
      op.0,
      own_inside g.C.ClientSteps.mine _ _ c.self.view_is c.args.part.now.ticket op.0 op.2,
      op.3.writes,
      filled_boxes op.0 c.args.part.now.first op.1 c.args.request.now c.args.blocks.now op.3 op.4 c.fill.new.self
          c.fill.ensures.bytes c.fill.ensures.full c.fill.ensures.count,
    )

pub invariant_of-self : goal.invariant_of-self
invariant_of-self g c =
    let op = c.requires.own in
    serving_on c.self.inside.steps
    c.apply_write-taken.new.self c.self.inside.channels.items c.self.invariant c.apply_write-taken.ensures.stands.ready
    (shows_taken c.apply_write-taken.result.answer c.args.part.now.ticket c.args.part.now.replica op.0
    (g.C.ClientSteps.mine c.self.inside.steps) (g.C.ClientSteps.mine c.apply_write-taken.new.self)
    (own_inside g.C.ClientSteps.mine _ _ c.self.view_is c.args.part.now.ticket op.0 op.2)
    c.apply_write-taken.ensures.does.ok c.apply_write-taken.ensures.does.err)

pub returns-clause-falls : goal.returns-clause-falls
returns-clause-falls g c = elim c.match-taken.branch [
  | in-Ok w ↦ search rules
  | in-Err w ↦ rw (w.result-is, ← c.self.view_is) (record {
    goes = goes_same (g.C.ClientSteps.mine c.self.inside.steps) (g.C.ClientSteps.mine c.apply_write-taken.new.self) (search rules);
    failed = search rules;
    up = c.apply_write-taken.ensures.next.next;
    inside = search rules;
  })
]
